-- The first block of a chain that doesn't lie in another chain.
use Rattle.std.specs.Prelude.{ℕ, ◌<◌, ◌≤◌, List, Option, Some, None, ⊤, All, Any}
use Rattle.std.specs.Option.{option_map}
use Rattle.rpki_chain_core.specs.Sets.{IsWithin, Covers, HoldsBlock, numbers}
use Rattle.rpki_chain_core.specs.declared.overhang.Overhang.{Overhang}

-- each block of xs ends no later than some block of ys
abbrev pub EndsWithin : {B : Type 0} → (B → ℕ × ℕ) → List B → List B → Type 0
EndsWithin bounds xs ys = All (λ x. Any (λ y. (bounds x).1 ≤ (bounds y).1) ys) xs

-- n comes before the current block, or there is no current block
abbrev pub Before : Option (ℕ × ℕ) → ℕ → Type 0
Before None n = ⊤
Before (Some b) n = n < b.0

-- the first block of xs that doesn't lie in ys: the numbers of xs before this block lie in ys, and the block does not;
-- the numbers of ys before the current block of ys come before this block
pub record IsOverhang {B I : Type 0} (bounds : B → ℕ × ℕ) (number : I → ℕ) (first last : ℕ) (xs ys : List B)
    (o : Overhang I) : Type 0 where
  pub own_block : HoldsBlock bounds number last xs o.own_at (Some (o.min, o.max))
  pub other_block : HoldsBlock bounds number last ys o.other_at o.other
  pub from_first : first ≤ number o.min
  pub inside : (n : ℕ) → Covers bounds xs n → n < number o.min → Covers bounds ys n
  pub passed : (n : ℕ) → Covers bounds ys n → Before (option_map (numbers number) o.other) n → n < number o.min
  pub outside : ((n : ℕ) → IsWithin (numbers number (o.min, o.max)) n → Covers bounds ys n) → ⊥
