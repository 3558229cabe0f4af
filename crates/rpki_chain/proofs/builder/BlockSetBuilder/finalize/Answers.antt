use Rattle.rpki_chain.proofs.Common.{IfOk-weaker}
use Rattle.rpki_chain.proofs.RunLists.{IsRunsOf-same, Holds-map}
use Rattle.rpki_chain.proofs.builder.BlockSetBuilder.finalize.Goals as goal

pub returns : goal.returns
returns g c = rw (← c.self.view_is)
    (IfOk-weaker c.from_vec.result _ _
    (λ runs h. IsRunsOf-same runs _ _
    (λ n. ((Holds-map g.T.Block.bounds _ n).1, (Holds-map g.T.Block.bounds _ n).0)) h) c.from_vec.ensures)
