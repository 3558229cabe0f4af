-- Lists of numbers: those of an interval.
use Rattle.rpki_as_block.proofs.Common.{List, Option, [], ap, arith, get_or, length, refl, suc, zero, ℕ, ◌+◌, ◌-◌, ◌<◌}
use Rattle.rpki_as_block.proofs.Common.{◌∙◌, ◌∷◌, ◌≡◌, IsWithin, IsListOf, IsSizeOf, numbers_from, numbers_within}
use Rattle.std.specs.Iterator.{YieldsFirst, MakesProgress, item_count}

-- how many there are
pub length-numbers_from : (k a : ℕ) → length (numbers_from k a) ≡ k
length-numbers_from zero a = refl
length-numbers_from (suc k) a = ap suc (length-numbers_from k (a + 1))

-- which one stands at a place
get_or-numbers_from : (k a i d : ℕ) → i < k → get_or (numbers_from k a) i d ≡ a + i
get_or-numbers_from zero a i d small = absurd (omega arith)
get_or-numbers_from (suc k) a zero d small = omega arith
get_or-numbers_from (suc k) a (suc i) d small = grind (arith, get_or-numbers_from k (a + 1) i d (omega arith))

-- the numbers from the one bound to the other
pub IsListOf-numbers_within : (b : ℕ × ℕ) → IsListOf (IsWithin b) (numbers_within b)
unfolding numbers_within
IsListOf-numbers_within b =
    let count : ℕ = b.1 + 1 - b.0 in
    let long = length-numbers_from count b.0 in
    record {
      members = λ n. (
        λ h. grind (arith, get_or-numbers_from),
        λ (low, high). (n - b.0, omega arith, get_or-numbers_from count b.0 (n - b.0) n (omega arith) ∙ omega arith),
      );
      ascending = λ i j d below small. grind (arith, get_or-numbers_from);
    }

-- how many they are
pub length-numbers_within : (b : ℕ × ℕ) → length (numbers_within b) ≡ b.1 + 1 - b.0
unfolding numbers_within
length-numbers_within b = length-numbers_from (b.1 + 1 - b.0) b.0

-- the first of them, and the others
pub numbers_first : (a b : ℕ) → a < b → numbers_within (a, b) ≡ a ∷ numbers_within (a + 1, b)
unfolding numbers_within
numbers_first a b below = grind (arith)

-- one number
pub numbers_single : (a b : ℕ) → a ≡ b → numbers_within (a, b) ≡ a ∷ []
unfolding numbers_within
numbers_single a b same = grind (arith)

-- an interval has as many numbers as there are from the one bound to the other
pub interval_size : (b : ℕ × ℕ) (k : ℕ) → k + b.0 ≡ b.1 + 1 → IsSizeOf (IsWithin b) k
interval_size b k is = record {
  list = numbers_within b;
  is_list = IsListOf-numbers_within b;
  size = length-numbers_within b ∙ omega arith;
}

-- an iterator that yields the first of its numbers gets on
pub makes_progress : (can : List ℕ → Type 0) → ((ns : List ℕ) → can ns) → (o : Option ℕ) (old new : List ℕ)
    → YieldsFirst (λ (ns : List ℕ). ns) old o new → MakesProgress can (item_count (λ (ns : List ℕ). ns)) old o new
makes_progress can may o old new steps = grind (arith)
