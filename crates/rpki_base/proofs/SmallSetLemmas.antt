-- Small sets: what the walks, a list and a search give.
use Rattle.rpki_base.proofs.Common.{Contains, Err, IsTrue, List, Ok, Result, [], arith, eqb, get_or, length, refl, ℕ}
use Rattle.rpki_base.proofs.Common.{◌<◌, ◌↔◌, ◌∷◌, ◌≡◌, ◌≤◌, cases_lt, IsBinarySearchResult, IsPermutation, IsSorted}
use Rattle.rpki_base.proofs.Common.{IsInBoth, IsInEither, IsInFirstAlone, IsInOne, IsSmallSet, IsSmallSetOf, any_side}
use Rattle.rpki_base.proofs.Common.{only_both, only_left, only_one, walk, Wanted}
use Rattle.std.proofs.lemmas.List.{get_or_default}
use Rattle.std.specs.Ordering.{nat_cmp}
use Rattle.std.specs.Result.{is_ok}
use Rattle.std.specs.List.Retain.{IsFiltered, DiffersFromLast}
use Rattle.std.proofs.lemmas.List.Sorted.{searched, Contains-permutation, IsPermutation-sym}
use Rattle.std.proofs.lemmas.List.Filters.{dedup_is}
use Rattle.std.proofs.lemmas.List.Kept.{AllPairs-from_increasing, Contains-dedup_nat, Contains-from_dedup}
use Rattle.std.proofs.lemmas.Map.Keys.{IsStrictlyIncreasing-dedup}
use Rattle.rpki_base.proofs.SmallSetWalkLemmas.{Among, IsStrictlyIncreasing-rises, IsWanted, Rises}
use Rattle.rpki_base.proofs.SmallSetWalkLemmas.{Rises-from_increasing, above_is, from_among, is_among, to_among}
use Rattle.rpki_base.proofs.SmallSetWalkLemmas.{walk_is}

module _ (xs ys : List ℕ) (left : IsSmallSet xs) (right : IsSmallSet ys) where
  -- a walk gives the set S, where S are the wanted numbers
  walk_set : (wanted : Wanted) (S : ℕ → Type 0) → ((n : ℕ) → IsWanted wanted xs ys n ↔ S n)
      → IsSmallSetOf S (walk wanted xs ys)
  walk_set wanted S same =
      grind (arith, IsStrictlyIncreasing-rises, Rises-from_increasing, from_among, to_among, walk_is)

  pub difference_is : (zs : List ℕ) → zs ≡ walk only_left xs ys → IsSmallSetOf (IsInFirstAlone xs ys) zs
  difference_is zs is = rw is (walk_set only_left (IsInFirstAlone xs ys) (λ n. grind (arith, from_among, to_among)))

  pub symmetric_difference_is : (zs : List ℕ) → zs ≡ walk only_one xs ys → IsSmallSetOf (IsInOne xs ys) zs
  symmetric_difference_is zs is = rw is (walk_set only_one (IsInOne xs ys) (λ n. grind (arith, from_among, to_among)))

  pub intersection_is : (zs : List ℕ) → zs ≡ walk only_both xs ys → IsSmallSetOf (IsInBoth xs ys) zs
  intersection_is zs is = rw is (walk_set only_both (IsInBoth xs ys) (λ n. grind (arith, from_among, to_among)))

  pub union_is : (zs : List ℕ) → zs ≡ walk any_side xs ys → IsSmallSetOf (IsInEither xs ys) zs
  union_is zs is = rw is (walk_set any_side (IsInEither xs ys) (λ n. grind (arith, from_among, to_among, is_among)))

-- a list that was sorted and freed of repeats is the set of its numbers
pub from_list_is : (list sorted left : List ℕ) → IsPermutation list sorted → IsSorted nat_cmp sorted
    → IsFiltered (DiffersFromLast eqb) [] sorted left → IsSmallSetOf (Contains list) left
from_list_is list sorted left moved ascends filtered =
    let back = IsPermutation-sym list sorted moved in
    rw (dedup_is eqb sorted left filtered) (record {
      ascending = IsStrictlyIncreasing-dedup sorted ascends;
      members = λ n. (
        (λ h. Contains-permutation sorted list n back (Contains-from_dedup eqb sorted n h)),
        λ h. Contains-dedup_nat sorted n (Contains-permutation list sorted n moved h),
      );
    })

-- the numbers of a set don't fall
not_falling : (xs : List ℕ) → IsSmallSet xs → (i j : ℕ) → i ≤ j → j < length xs → get_or xs i 0 ≤ get_or xs j 0
not_falling xs small i j le inside = grind (arith, AllPairs-from_increasing xs small i j 0, cases_lt)

-- so a binary search finds just its numbers
pub search_is : (xs : List ℕ) (n : ℕ) (r : Result ℕ ℕ) → IsSmallSet xs → IsBinarySearchResult (λ y. nat_cmp y n) xs r
    → IsTrue (is_ok r) ↔ Contains xs n
search_is xs n (Ok i) small h =
    let found = searched xs n (Ok i) h (not_falling xs small) in grind (arith, get_or_default xs i n 0 found.0)
search_is xs n (Err i) small h =
    let missed = searched xs n (Err i) h (not_falling xs small) in
    ((λ never. cc), λ (k, here, is). absurd (grind (arith, cases_lt k i, get_or_default xs k n 0 here)))

-- ascending lists of the same numbers are one
same_numbers : (xs ys : List ℕ) → Rises xs → Rises ys → ((n : ℕ) → Among n xs ↔ Among n ys) → xs ≡ ys
same_numbers [] [] h k same = refl
same_numbers [] (y ∷ ys) h k same = grind (arith, same y)
same_numbers (x ∷ xs) [] h k same = grind (arith, same x)
same_numbers (x ∷ xs) (y ∷ ys) h k same = grind (arith, same x, same y, above_is, same_numbers xs ys h.1 k.1)

pub one_set : (xs ys : List ℕ) → IsSmallSet xs → IsSmallSet ys → ((n : ℕ) → Contains xs n ↔ Contains ys n) → xs ≡ ys
one_set xs ys h k same =
    same_numbers xs ys (Rises-from_increasing xs h) (Rises-from_increasing ys k)
    (λ n. grind (arith, to_among, from_among, same n))
