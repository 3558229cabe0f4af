-- A VRP moves to its place among VRPs in a table's order.
use Rattle.roa_origin.proofs.Common.{All, List, arith, false, get_or, length, true, ℕ, ◌+◌, ◌-◌, ◌<◌, ◌≡◌, ◌≤◌}
use Rattle.roa_origin.proofs.Common.{All-permutation, IsNonDecreasingBy, IsLawfulVrp, Vrp, table_place}
use Rattle.std.proofs.lemmas.Bool.{cases_eq, leb-false, leb-true}
use Rattle.std.proofs.lemmas.List.{get_or_read}
use Rattle.std.proofs.lemmas.List.Sorted.{IsPermutation-trans}
use Rattle.std.specs.Prelude.{nat_le}
use Rattle.std.specs.List.{SwappedAt}
use Rattle.std.specs.List.Sorted.{IsPermutation}
use Rattle.roa_origin.specs.Insertions.{IsInserting, RisesTo}
use Rattle.roa_origin.specs.Links.{IsInOrder}
use Rattle.roa_origin.proofs.OrderNumbers.{by_places}

-- one VRP is in order
pub one_alone : (xs : List Vrp) → RisesTo 1 xs
one_alone xs i j d le less = let same : i ≡ j = omega (arith, le, less) in rw same (omega arith)

-- what is moved twice is moved
pub moved_on : (xs ys zs : List Vrp) → IsPermutation xs ys → IsPermutation ys zs → IsPermutation xs zs
moved_on xs ys zs h k = IsPermutation-trans xs ys zs h k

-- nothing is moved yet
pub begun : (xs : List Vrp) (at : ℕ) → RisesTo at xs → IsInserting xs at at
begun xs at h = record {
  within = omega arith;
  others = λ i j d le last other same. h i j d le (omega (arith, last, same));
  later = λ j d less last. absurd (omega (arith, less, last));
}

module _ (xs : List Vrp) (place at : ℕ) (x y : Vrp) (h : IsInserting xs place at) (some : 0 < place)
    (there : at < length xs) (before : x ≡ get_or xs (place - 1) x) (here : y ≡ get_or xs place y)
  where
    x_is : (d : Vrp) → x ≡ get_or xs (place - 1) d
    x_is = get_or_read xs (place - 1) x (omega (arith, h.within)) before

    y_is : (d : Vrp) → y ≡ get_or xs place d
    y_is = get_or_read xs place y (omega (arith, h.within)) here

    -- it passes the VRP before it
    pub passed : nat_le (table_place x) (table_place y) ≡ false → (ys : List Vrp) → SwappedAt xs ys (place - 1) place
        → IsInserting ys (place - 1) at
    passed e ys swapped =
        let below : table_place y < table_place x = leb-false (table_place x) (table_place y) e in
        record {
          within = omega (arith, h.within);
          others = λ i j d le last other same.
              grind (
                arith,
                cases_eq i place,
                cases_eq j place,
                swapped.1 d,
                swapped.2 i d,
                swapped.2 j d,
                h.others i j d,
                h.others i (place - 1) d,
                h.others (place - 1) j d,
              );
          later = λ j d less last.
              grind (arith, cases_eq j place, swapped.0 d, swapped.1 d, swapped.2 j d, x_is d, y_is d, h.later j d);
        }

    -- or it is at its place
    pub stopped : nat_le (table_place x) (table_place y) ≡ true → RisesTo (at + 1) xs
    stopped e i j d le less =
        let above : table_place x ≤ table_place y = leb-true (table_place x) (table_place y) e in
        grind (
          arith,
          cases_eq i place,
          cases_eq j place,
          x_is d,
          y_is d,
          h.others i j d,
          h.others i (place - 1) d,
          h.later j d,
        )

-- the first place is its place
pub first : (xs : List Vrp) (place at : ℕ) → IsInserting xs place at → place ≡ 0 → RisesTo (at + 1) xs
first xs place at h e i j d le less = grind (arith, cases_eq i place, cases_eq j place, h.others i j d, h.later j d)

-- sorted VRPs are in a table's order
pub in_order : (xs ys : List Vrp) → IsPermutation xs ys → All IsLawfulVrp xs → IsNonDecreasingBy table_place ys
    → IsInOrder ys
in_order xs ys moved all ranked =
    let vrps = All-permutation IsLawfulVrp xs ys moved all in
    record { vrps = vrps; ranked = ranked; ordered = by_places ys vrps ranked }
