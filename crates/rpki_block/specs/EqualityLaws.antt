-- Lemmas on equality by bounds.
use Rattle.std.specs.Prelude.{ℕ}
use Rattle.std.specs.Cmp.{IsEquivalence, IsPartialEquivalence, on_equiv, and_equiv, nat_eq_equiv}
use Rattle.std.specs.Cmp.{partial_equiv_from_equiv}
use Rattle.rpki_block.specs.Equality.{have_same_bounds}

-- equality by bounds is an equivalence
pub blocks_equiv : {B : Type 0} (bounds : B → ℕ × ℕ) → IsEquivalence (have_same_bounds bounds)
blocks_equiv bounds =
    on_equiv bounds
    (and_equiv (on_equiv (λ (p : ℕ × ℕ). p.0) nat_eq_equiv) (on_equiv (λ (p : ℕ × ℕ). p.1) nat_eq_equiv))

-- equality by bounds is a partial equivalence
pub blocks_per : {B : Type 0} (bounds : B → ℕ × ℕ) → IsPartialEquivalence (have_same_bounds bounds)
blocks_per bounds = partial_equiv_from_equiv (blocks_equiv bounds)
