-- Lemmas on equality by the bounds of blocks.
use Rattle.std.specs.Prelude.{ℕ, List, map}
use Rattle.std.specs.Cmp.{IsEquivalence, IsPartialEquivalence, on_equiv, partial_equiv_from_equiv}
use Rattle.std.specs.Cmp.Lexicographic.{lists_equiv}
use Rattle.rpki_block.specs.EqualityLaws.{blocks_equiv}
use Rattle.rpki_chain_core.specs.Equality.{same_runs}

-- equality of lists of bounds is an equivalence
pub runs_equiv : IsEquivalence same_runs
runs_equiv = lists_equiv (blocks_equiv (λ (p : ℕ × ℕ). p))

-- equality of lists of bounds is a partial equivalence
pub runs_per : IsPartialEquivalence same_runs
runs_per = partial_equiv_from_equiv runs_equiv

-- equality of values by the bounds of their blocks is an equivalence
pub chains_equiv : {C B : Type 0} (bounds : B → ℕ × ℕ) (blocks : C → List B)
    → IsEquivalence (λ (a b : C). same_runs (map bounds (blocks a)) (map bounds (blocks b)))
chains_equiv bounds blocks = on_equiv (λ c. map bounds (blocks c)) runs_equiv

-- equality of values by the bounds of their blocks is a partial equivalence
pub chains_per : {C B : Type 0} (bounds : B → ℕ × ℕ) (blocks : C → List B)
    → IsPartialEquivalence (λ (a b : C). same_runs (map bounds (blocks a)) (map bounds (blocks b)))
chains_per bounds blocks = partial_equiv_from_equiv (chains_equiv bounds blocks)
