use Rattle.rpki_chain.proofs.Common.{arith}
use Rattle.rpki_chain.proofs.SetLemmas.{IsBlockChain-from_ends}
use Rattle.rpki_chain.proofs.set.read_ends.Goals as goal

pub returns : goal.returns
returns g c =
    IsBlockChain-from_ends g.T.Block.bounds g.T.Block.form g.T.Block.first g.T.Block.last c.args.blocks.now c.requires
    (λ d some. (
      rw (← c.in-Some.ensures.item.3.1 d) (omega (arith, c.min-least.ensures.value, c.min-least.ensures.from_first)),
      rw (← c.in-Some-last.ensures.item.3.1 d)
          (omega (arith, c.max-greatest.ensures.value, c.max-greatest.ensures.to_last)),
    ))
