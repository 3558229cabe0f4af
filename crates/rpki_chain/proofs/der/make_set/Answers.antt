-- The first block has a number.
use Rattle.rpki_chain.proofs.Common.{IfOk-weaker, get_or_default}
use Rattle.rpki_chain.proofs.ChoiceReadings.{has_numbers}
use Rattle.rpki_chain.proofs.der.make_set.Goals as goal

pub returns-then-are_chain-clause-some : goal.returns-then-are_chain-clause-some
returns-then-are_chain-clause-some g c =
    IfOk-weaker c.from_vec_unchecked.result _ _ (λ set. has_numbers g.T.Block.bounds c.args.blocks.items set
    c.requires.some ((c.requires.chain c.if-are_chain.true).ordered 0)) c.from_vec_unchecked.ensures

pub returns-clause-some : goal.returns-clause-some
returns-clause-some g c =
    IfOk-weaker c.from_vec.result _ _ (λ set. has_numbers g.T.Block.bounds c.args.blocks.items set c.requires.some
    (λ d any. rw (get_or_default _ 0 d c.index.result.now any, ← c.index.ensures) c.min-least.ensures.ordered))
    c.from_vec.ensures
