-- Sorted blocks ascend, and cover what they covered.
use Rattle.rpki_chain_core.proofs.Common.{IsNonDecreasingBy-from_sort_by, IsPermutation-sym, rules}
use Rattle.rpki_chain_core.proofs.SortedBlocks.{Covers-permutation}
use Rattle.rpki_chain_core.proofs.build.sort.Goals as goal

pub returns : goal.returns
returns g c =
    let sorted = c.sort_unstable_by.ensures in
    record {
      covers = λ n. Covers-permutation g.T.Block.bounds _ _ n (IsPermutation-sym _ _ sorted.permutation);
      ascending = IsNonDecreasingBy-from_sort_by (λ b. (g.T.Block.bounds b).0) _ sorted.sorted
          (λ a r q k. search rules);
    }
