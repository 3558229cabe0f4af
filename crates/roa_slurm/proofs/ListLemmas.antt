-- The items of a list, one after another.
use Rattle.roa_slurm.proofs.Common.{List, [], arith, inl, inr, refl, suc, take, zero, ℕ, ◌++◌, ◌+◌, ◌<◌, ◌∷◌, ◌≡◌}
use Rattle.roa_slurm.proofs.Common.{length, get_or, take_more, Value, items_view, value_view, Json, AreEntries}
use Rattle.roa_slurm.proofs.Common.{HaveInvalid, SlurmItemFault}

module _ {A X : Type 0} (Is : Json → X → Type 0) where
  listed_push : (vs : List (Value A)) (v : Value A) (xs : List X) (x : X) → AreEntries Is (items_view vs) xs
      → Is (value_view v) x → AreEntries Is (items_view (vs ++ v ∷ [])) (xs ++ x ∷ [])
  listed_push [] v xs x listed is = (x, is, [], rw listed refl, refl)
  listed_push (w ∷ vs) v xs x (y, iz, more, same, rest) is =
      (y, iz, more ++ x ∷ [], rw same refl, listed_push vs v more x rest is)

  -- one item more
  pub listed_more : (all : List (Value A)) (i : ℕ) (v : Value A) (xs : List X) (x : X) → i < length all
      → v ≡ get_or all i v → AreEntries Is (items_view (take i all)) xs → Is (value_view v) x
      → AreEntries Is (items_view (take (i + 1) all)) (xs ++ x ∷ [])
  listed_more all i v xs x less same listed is =
      rw (take_more all i v less, ← same) (listed_push (take i all) v xs x listed is)

  -- the next item is the first invalid one
  pub invalid_at : (Fails : Json → SlurmItemFault → Type 0) (first at : ℕ) (all : List (Value A)) (i : ℕ) (v : Value A)
      (xs : List X) (wrong : SlurmItemFault) → i < length all → v ≡ get_or all i v
      → AreEntries Is (items_view (take i all)) xs → Fails (value_view v) wrong → first + i ≡ at
      → HaveInvalid Is Fails first (items_view all) at wrong
  invalid_at Fails first at [] i v xs wrong less same listed has sum = absurd (omega arith)
  invalid_at Fails first at (w ∷ all) zero v xs wrong less same listed has sum =
      inl (rw same at has, omega arith)
  invalid_at Fails first at (w ∷ all) (suc i) v xs wrong less same (y, iz, more, _, rest) has sum =
      inr (y, iz, invalid_at Fails (first + 1) at all i v more wrong (omega arith) same rest has (omega arith))
