-- A lemma on the form of blocks.
use Rattle.std.proofs.Common.{◌≡◌, ℕ, Bool, true, false, refl, ap}
use Rattle.std.specs.Prelude.{◌==◌, if◌then◌else◌}
use Rattle.std.proofs.lemmas.Bool.{eqb-true}
use Rattle.rpki_block.specs.Ranges.{new_range}
use Rattle.rpki_as_block.specs.Blocks.{as_bounds, new_as_block}
use Rattle.rpki_as_block.specs.declared.block.AsBlock.TheVariants.{Id, Range}

-- the block of given bounds has these bounds
pub new_as_block_bounds : (b : ℕ × ℕ) → as_bounds (new_as_block b) ≡ b
new_as_block_bounds b = by_test (b.0 == b.1) refl
  where
    by_test : (t : Bool) → (b.0 == b.1) ≡ t → as_bounds (if t then Id b.0 else Range (new_range b)) ≡ b
    by_test true same = ap (λ (n : ℕ). (b.0, n)) (eqb-true b.0 b.1 same)
    by_test false other = refl
