use Rattle.rpki_chain.proofs.Common.{sym, ◌∙◌}
use Rattle.rpki_chain.proofs.SetLemmas.{IsBlockSet-from_chain, made_again}
use Rattle.rpki_chain.proofs.set.BlockSet.as_slice.Goals as goal

pub returns-clause-set : goal.returns-clause-set
returns-clause-set g c = IsBlockSet-from_chain c.as_chain.ensures.chain c.as_chain.ensures.blocks

pub returns-clause-made : goal.returns-clause-made
returns-clause-made g c =
    let again = made_again g.T.Block.bounds g.T.Block.form _ c.as_chain.ensures.chain.chain.new_form in
    rw (← c.as_chain.ensures.blocks) (c.as_slice.ensures.value ∙ sym again)
