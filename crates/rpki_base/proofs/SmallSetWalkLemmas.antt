-- A walk over two ascending lists gives the wanted numbers of both, ascending.
use Rattle.rpki_base.proofs.Common.{Contains, IsTrue, List, [], add-one, arith, false, inl, inr, le-ltb, length, lt-ltb}
use Rattle.rpki_base.proofs.Common.{suc, ℕ, ◌+◌, ◌<◌, ◌↔◌, ◌∷◌, ◌≡◌, ◌≤◌, ◌⊎◌, cases_eq, AllByRecursion}
use Rattle.rpki_base.proofs.Common.{IsStrictlyIncreasing, all_kept, kept_items, walk, walk_step, Wanted}

-- n is one of the numbers
abbrev pub Among : ℕ → List ℕ → Type 0
Among n [] = ⊥
Among n (x ∷ xs) = (x ≡ n) ⊎ Among n xs

-- the same by its place
pub to_among : (n : ℕ) (xs : List ℕ) → Contains xs n → Among n xs
to_among n [] h = grind arith
to_among n (x ∷ xs) h = grind (arith, to_among n xs)

pub from_among : (n : ℕ) (xs : List ℕ) → Among n xs → Contains xs n
from_among n [] h = absurd h
from_among n (x ∷ xs) (inl is) = (0, omega arith, is)
from_among n (x ∷ xs) (inr h) = let later = from_among n xs h in (suc later.0, omega (arith, later.1), later.2)

-- a number is among others or isn't
pub is_among : (n : ℕ) (xs : List ℕ) → Among n xs ⊎ ¬ Among n xs
is_among n [] = inr (λ h. h)
is_among n (x ∷ xs) = grind (arith, cases_eq, is_among n xs)

-- all of the numbers are above m
abbrev pub Above : ℕ → List ℕ → Type 0
Above m xs = AllByRecursion (λ x. m < x) xs

-- each number is below all that follow it
abbrev pub Rises : List ℕ → Type 0
Rises [] = Unit {0}
Rises (x ∷ xs) = Above x xs × Rises xs

above_more : (m n : ℕ) (xs : List ℕ) → m < n → Above n xs → Above m xs
above_more m n [] less h = tt
above_more m n (x ∷ xs) less h = (omega (arith, less, h.0), above_more m n xs less h.1)

pub above_is : (m n : ℕ) (xs : List ℕ) → Above m xs → Among n xs → m < n
above_is m n [] h k = absurd k
above_is m n (x ∷ xs) h k = grind (arith, above_is m n xs)

-- the same by places: each number is below the next
pub Rises-from_increasing : (xs : List ℕ) → IsStrictlyIncreasing xs → Rises xs
Rises-from_increasing [] h = tt
Rises-from_increasing (x ∷ []) h = (tt, tt)
Rises-from_increasing (x ∷ y ∷ xs) h =
    let later = Rises-from_increasing (y ∷ xs)
    (λ k small. (let next = h (suc k) (omega (arith, small)) in rw add-one (rw add-one at next))) in
    let less : x < y = h 0 (omega arith) in
    grind (arith, above_more)

pub IsStrictlyIncreasing-rises : (xs : List ℕ) → Rises xs → IsStrictlyIncreasing xs
IsStrictlyIncreasing-rises [] h k small = absurd (omega (arith, small))
IsStrictlyIncreasing-rises (x ∷ []) h k small = absurd (omega (arith, small))
IsStrictlyIncreasing-rises (x ∷ y ∷ xs) h k small = grind (arith, add-one, IsStrictlyIncreasing-rises (y ∷ xs) h.1)

-- ---- a walk

-- P holds of two lists and what a walk over them gives: where one list is at its end, and with each turn
record Turns (wanted : Wanted) (P : List ℕ → List ℕ → List ℕ → Type 0) : Type 0 where
  all_left : (x : ℕ) (xs : List ℕ) → P (x ∷ xs) [] (all_kept wanted.left (x ∷ xs))
  all_right : (ys : List ℕ) → P [] ys (all_kept wanted.right ys)
  left : (x y : ℕ) (xs ys zs : List ℕ) → x < y → P xs (y ∷ ys) zs → P (x ∷ xs) (y ∷ ys) (kept_items wanted.left x zs)
  right : (x y : ℕ) (xs ys zs : List ℕ) → y < x → P (x ∷ xs) ys zs → P (x ∷ xs) (y ∷ ys) (kept_items wanted.right y zs)
  both : (x y : ℕ) (xs ys zs : List ℕ) → x ≡ y → P xs ys zs → P (x ∷ xs) (y ∷ ys) (kept_items wanted.both x zs)

module _ (wanted : Wanted) (P : List ℕ → List ℕ → List ℕ → Type 0) (turns : Turns wanted P) where
  -- a walk from x on, where `others` walks over what follows x and a list
  step_has : (x : ℕ) (xs : List ℕ) (others : List ℕ → List ℕ) → ((ys : List ℕ) → P xs ys (others ys)) → (ys : List ℕ)
      → P (x ∷ xs) ys (walk_step wanted x xs others ys)
  step_has x xs others have [] = turns.all_left x xs
  step_has x xs others have (y ∷ ys) =
      grind (arith, le-ltb, lt-ltb, turns.left, turns.right, turns.both, step_has x xs others have ys)

  -- so it holds of every walk
  walk_has : (xs ys : List ℕ) → P xs ys (walk wanted xs ys)
  walk_has [] ys = turns.all_right ys
  walk_has (x ∷ xs) ys = step_has x xs (walk wanted xs) (walk_has xs) ys

-- n is wanted, by the lists that it is among
abbrev pub IsWanted : Wanted → List ℕ → List ℕ → ℕ → Type 0
IsWanted wanted xs ys n =
    (IsTrue wanted.left × Among n xs × ¬ Among n ys)
    ⊎ ((IsTrue wanted.both × Among n xs × Among n ys)
    ⊎ (IsTrue wanted.right × (¬ Among n xs) × Among n ys))

-- What a walk gives of two lists: of rising ones the wanted numbers, which rise; none that isn't above what is below
-- both lists; and no more than both have, or than the one has, where none of the other alone is wanted.
pub record IsWalk (wanted : Wanted) (xs ys zs : List ℕ) : Type 0 where
  pub above : (m : ℕ) → Above m xs → Above m ys → Above m zs
  pub rises : Rises xs → Rises ys → Rises zs
  pub among : Rises xs → Rises ys → (n : ℕ) → Among n zs ↔ IsWanted wanted xs ys n
  pub few : length zs ≤ length xs + length ys
  pub few_of_left : wanted.right ≡ false → length zs ≤ length xs
  pub few_of_right : wanted.left ≡ false → length zs ≤ length ys

pub walk_is : (wanted : Wanted) (xs ys : List ℕ) → IsWalk wanted xs ys (walk wanted xs ys)
walk_is wanted = walk_has wanted (IsWalk wanted) (grind (arith, above_is, above_more))
