use Rattle.rpki_chain.proofs.SetLemmas.{bounds_made, made_of_set}
use Rattle.rpki_chain.proofs.laws.blocks_of_runs.Goals as goal

pub returns : goal.returns
returns g c = record {
  bounds = bounds_made g.T.Block.bounds g.T.Block.form g.T.Block.first g.T.Block.last g.met.T.Block.form_bounds;
  set = made_of_set g.T.Block.bounds g.T.Block.form g.T.Block.first g.T.Block.last g.met.T.Block.form_bounds;
}
