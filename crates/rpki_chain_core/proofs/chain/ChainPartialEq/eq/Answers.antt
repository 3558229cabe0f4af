-- Chains with the same bounds cover the same numbers, and a set has one chain.
use Rattle.rpki_chain_core.proofs.Common.{ap, arith, map, nat_tests, ℕ, ◌≡◌}
use Rattle.std.specs.Bool.{Decides, one_answer}
use Rattle.std.specs.Cmp.Lexicographic.{pointwise_decides}
use Rattle.rpki_block.specs.Equality.{is_same_pair}
use Rattle.rpki_chain_core.proofs.SortedBlocks.{same_cover}
use Rattle.rpki_chain_core.proofs.UniqueChain.{IsChain-unique}
use Rattle.rpki_chain_core.proofs.chain.ChainPartialEq.eq.Goals as goal

-- the test of bounds says whether they are the same
is_same_pair_decides : (a b : ℕ × ℕ) → Decides (is_same_pair a b) (a ≡ b)
is_same_pair_decides a b = grind (arith, nat_tests)

pub returns : goal.returns
returns g c =
    let f = g.T.Block.bounds in
    let same = c.are_same_blocks.ensures in
    let one = IsChain-unique f g.T.Block.form _ _ c.args.self.now.is_chain c.args.other.now.is_chain in
    record {
      value = one_answer _ _ same (pointwise_decides {E = is_same_pair} is_same_pair_decides _ _);
      covers = (λ t. same_cover f f _ _ (same.0 t), λ h. same.1 (ap (map f) (one h)));
      same = (λ t. one (same_cover f f _ _ (same.0 t)), λ e. same.1 (ap (map f) e));
    }
