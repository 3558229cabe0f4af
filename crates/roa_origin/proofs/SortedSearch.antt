-- A list in the order of numbers has one of them where a search for it stops, or nowhere.
use Rattle.roa_origin.proofs.Common.{Any, Bool, List, arith, false, get_or, leb, length, ltb, true, ℕ, ◌+◌, ◌<◌, ◌≡◌}
use Rattle.roa_origin.proofs.Common.{cases_lt, leb-false, leb-true, ltb-false, ltb-true, get_or_default}
use Rattle.roa_origin.proofs.Common.{Contains-permutation, IsPartitionPoint-from_clause, IsPartitionedBy-leb}
use Rattle.roa_origin.proofs.Common.{IsPartitionedBy-ltb, Mut, IsNonDecreasingBy, IsPartitionPoint, IsPartitionedBy}
use Rattle.roa_origin.proofs.Common.{IsPermutation, Bor, IsSearched}
use Rattle.std.specs.Fn.{Called, ComputesKey}

pub found : {X : Type 0} (f : X → ℕ) (xs : List X) (t at : ℕ) → IsNonDecreasingBy f xs → IsSearched f xs t at
    → Any (λ x. f x ≡ t) xs → (at < length xs) × ((d : X) → f (get_or xs at d) ≡ t)
found f xs t at ordered searched h = grind (arith, cases_lt, get_or_default)

-- what some element of a list is, some element is of the list in another order
pub any_moved : {X : Type 0} (P : X → Type 0) (xs ys : List X) → IsPermutation xs ys → Any P xs → Any P ys
any_moved P xs ys moved h = grind (arith, Contains-permutation xs ys h.1 moved)

-- what `partition_point` says of the place that it answers, and what a closure says of its test
abbrev pub Parts : {X F : Type 0} → Mut F (Bor X × Unit {0}) Bool → F → List X → ℕ → Type 0
Parts {X} g c xs at = (p : X → Bool) → ComputesKey g p c → IsPartitionedBy p xs
    → IsPartitionPoint (λ y. p y ≡ true) (λ y. p y ≡ false) xs at

abbrev pub Tests : {X F : Type 0} → Mut F (Bor X × Unit {0}) Bool → F → (X → Bool) → Type 0
Tests {X} {F} g c p = (a : Bor X × Unit {0}) (r : Bool) (c' : F) → Called g c a r c' → (r ≡ p a.0.now) × (c' ≡ c)

-- so it parts a list in the order of numbers by a test of them: where they are less than one, or no greater
module _ {X F : Type 0} {g : Mut F (Bor X × Unit {0}) Bool} {c : F} {xs : List X} {at : ℕ}
    (parts : Parts g c xs at) (f : X → ℕ) (t : ℕ) (up : IsNonDecreasingBy f xs) where
  pub searched_for : Tests g c (λ y. ltb (f y) t) → IsSearched f xs t at
  searched_for tests =
      let point = IsPartitionPoint-from_clause (λ y. ltb (f y) t) xs at parts (IsPartitionedBy-ltb f xs t up) tests in
      grind (arith, ltb-false, ltb-true)

  pub counted_to : Tests g c (λ y. leb (f y) t) → IsSearched f xs (t + 1) at
  counted_to tests =
      let point = IsPartitionPoint-from_clause (λ y. leb (f y) t) xs at parts (IsPartitionedBy-leb f xs t up) tests in
      grind (arith, leb-false, leb-true)
