-- What is had of each element of an array: one element after another, and by its index.
use Rattle.pigyelund_routes.proofs.Common.{List, [], ap, arith, get_or, length, refl, take, ℕ, ◌++◌, ◌+◌, ◌<◌, ◌∷◌, ◌≡◌}
use Rattle.pigyelund_routes.proofs.Common.{AreEach}
use Rattle.std.proofs.Common.{suc, zero}
use Rattle.std.proofs.lemmas.List.{take_more}

module _ {X Y : Type 0} (R : X → Y → Type 0) where
  -- what is had of one list and of another is had of both, one after the other
  pub joined : (xs : List X) (ys : List Y) (zs : List X) (ws : List Y) → AreEach R xs ys → AreEach R zs ws
      → AreEach R (xs ++ zs) (ys ++ ws)
  joined [] ys zs ws none each = rw none each
  joined (x ∷ xs) ys zs ws (y, is, (rest, all, each)) more =
      (y, is, (rest ++ ws, ap (λ ts. ts ++ ws) all, joined xs rest zs ws each more))

  pub append : (xs : List X) (ys : List Y) (x : X) (y : Y) → AreEach R xs ys → R x y
      → AreEach R (xs ++ x ∷ []) (ys ++ y ∷ [])
  append xs ys x y each is = joined xs ys (x ∷ []) (y ∷ []) each (y, is, ([], refl, refl))

  -- the element at an index is, and what is had of it is put behind the others
  pub one_more : (xs : List X) (ys all : List Y) (at : ℕ) (none : X) (y : Y) → at < length xs → all ≡ ys ++ y ∷ []
      → AreEach R (take at xs) ys → R (get_or xs at none) y → AreEach R (take (at + 1) xs) all
  one_more xs ys all at none y small put each is =
      rw (take_more xs at none small, put) (append (take at xs) ys _ y each is)

-- there are as many as there are elements
pub as_many : {X Y : Type 0} (R : X → Y → Type 0) (xs : List X) (ys : List Y) → AreEach R xs ys → length ys ≡ length xs
as_many R [] ys none = ap length none
as_many R (x ∷ xs) ys (y, is, (rest, all, each)) =
    let more = as_many R xs rest each in rw all (omega (arith, more))

-- what is had of each is had of the element at an index
pub each_at : {X Y : Type 0} (R : X → Y → Type 0) (xs : List X) (ys : List Y) → AreEach R xs ys → (k : ℕ) (none : X)
    → k < length xs → (y : Y) × R (get_or xs k none) y
each_at R [] ys each k none small = absurd (omega (arith, small))
each_at R (x ∷ xs) ys (y, is, (rest, all, each)) zero none small = (y, is)
each_at R (x ∷ xs) ys (y, is, (rest, all, each)) (suc k) none small =
    each_at R xs rest each k none (omega (arith, small))

-- what is had of the elements at each index is had of each
pub by_index : {X : Type 0} (R : X → ℕ → Type 0) (xs : List X) (ys : List ℕ) → length ys ≡ length xs
    → ((k : ℕ) (none : X) → k < length ys → R (get_or xs k none) (get_or ys k 0)) → AreEach R xs ys
by_index R [] [] same at = refl
by_index R [] (y ∷ ys) same at = absurd (omega (arith, same))
by_index R (x ∷ xs) [] same at = absurd (omega (arith, same))
by_index R (x ∷ xs) (y ∷ ys) same at = (
  y,
  at zero x (omega arith),
  (
    ys,
    refl,
    by_index R xs ys (omega (arith, same)) (λ k none small. at (suc k) none (omega (arith, small))),
  ),
)

-- what R says of each S says too
pub all_too : {X Y : Type 0} (R S : X → Y → Type 0) (so : (x : X) (y : Y) → R x y → S x y) (xs : List X) (ys : List Y)
    → AreEach R xs ys → AreEach S xs ys
all_too R S so [] ys none = none
all_too R S so (x ∷ xs) ys (y, is, (rest, all, each)) = (y, so x y is, (rest, all, all_too R S so xs rest each))
