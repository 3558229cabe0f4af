-- The VRPs of one prefix, as a piece of a table.
use Rattle.roa_origin.proofs.Common.{Any, Bool, List, arith, get_or, leb, length, length-drop, ℕ, ◌+◌, ◌-◌, ◌<◌, ◌∙◌}
use Rattle.roa_origin.proofs.Common.{◌≡◌, ◌≤◌, le-leb, leb-false, leb-true, get_or-drop, get_or-take, get_or_default}
use Rattle.roa_origin.proofs.Common.{length-take-le, All-drop, All-take, IsNonDecreasingBy-drop, IsNonDecreasingBy-take}
use Rattle.roa_origin.proofs.Common.{IsPartitionPoint-from_clause, Mut, slice_range, IsPartitionedBy, Bor, CoversPrefix}
use Rattle.roa_origin.proofs.Common.{FamilyPrefix, IsGroup, IsInOrder, IsLastOf, IsLawfulVrp, Vrp, table_place}
use Rattle.roa_origin.proofs.SortedSearch.{Parts, Tests}
use Rattle.roa_origin.proofs.OrderNumbers.{by_ranks, rank_asn, rank_longest}
use Rattle.roa_origin.specs.Links.{AllHave}

module _ (xs : List Vrp) (a b : ℕ) where
  -- an element of a piece
  pub in_piece : (k : ℕ) (d : Vrp) → k < b - a → get_or (slice_range xs a b) k d ≡ get_or xs (a + k) d
  in_piece k d small = get_or-take (b - a) _ k d small ∙ get_or-drop a xs k d

  pub piece_at : (k : ℕ) (d : Vrp) → a ≤ k → k < b → get_or (slice_range xs a b) (k - a) d ≡ get_or xs k d
  piece_at k d from before = grind (arith, in_piece (k - a) d)

  module _ (within : b ≤ length xs) where
    pub piece_length : length (slice_range xs a b) ≡ b - a
    piece_length = length-take-le (b - a) _ (let e = length-drop a xs in omega (arith, e, within))

    -- what some VRP of it is, some VRP of the list is
    pub any_in : (P : Vrp → Type 0) → Any P (slice_range xs a b) → Any P xs
    any_in P h = grind (arith, in_piece, piece_length)

    -- and what none of it is, none is at those places
    pub none_in : (P : Vrp → Type 0) → ¬ Any P (slice_range xs a b) → (k : ℕ) (d : Vrp) → a ≤ k → k < b
        → ¬ P (get_or xs k d)
    none_in P none k d from before is_such = grind (arith, get_or_default xs k, piece_at k, piece_length)

    -- it is a group where all have a prefix that covers the route
    pub group : (route p : FamilyPrefix) → IsInOrder xs → AllHave xs p a b → CoversPrefix p route
        → IsGroup route (slice_range xs a b)
    group route p order has covers =
        let behind = IsNonDecreasingBy-drop table_place a xs order.ranked in
        let up = IsNonDecreasingBy-take table_place (b - a) _ behind in record {
          vrps = All-take IsLawfulVrp (b - a) _ (All-drop IsLawfulVrp a xs order.vrps);
          covers = λ k d small. rw (prefix k d small) covers;
          ranked = λ i j d le small. grind (arith, by_ranks, prefix i d, prefix j d small, up i j d le small);
        }
      where
        prefix : (k : ℕ) (d : Vrp) → k < length (slice_range xs a b)
            → (get_or (slice_range xs a b) k d).0.prefix ≡ p
        prefix k d small = grind (arith, piece_length, in_piece k d, has (a + k) d)

-- ---- the VRP to ask of a group: the last one whose AS number isn't below the route's

module _ (route : FamilyPrefix) (xs : List Vrp) (asn : ℕ) (group : IsGroup route xs) where
  -- the VRPs of a group are parted by the test
  parted : IsPartitionedBy (λ (y : Vrp). leb asn y.1) xs
  parted i j d le small e =
      grind (arith, le-leb, leb-true, rank_asn, group.vrps i d, group.vrps j d, group.ranked i j d)

  -- what ranks no higher allows no longer route of its AS
  pub last_of : {F : Type 0} {g : Mut F (Bor Vrp × Unit {0}) Bool} {c : F} (n : ℕ) → n ≤ length xs → Parts g c xs n
      → Tests g c (λ y. leb asn y.1) → IsLastOf asn xs n
  last_of n bound parts tests k d small same =
      let point = IsPartitionPoint-from_clause (λ (y : Vrp). leb asn y.1) xs n parts parted tests in
      let one = group.vrps k d in
      let other = group.vrps (n - 1) d in
      let up = group.ranked k (n - 1) d in
      grind (arith, leb-false, leb-true, rank_asn, rank_longest, point.0 (n - 1) d, point.1 k d)

  -- the last VRP has the lowest AS number: if that isn't below the route's, all are counted
  pub last_of_all : (x : Vrp) → 0 < length xs → x ≡ get_or xs (length xs - 1) x → asn ≤ x.1
      → IsLastOf asn xs (length xs)
  last_of_all x some is from k d small same =
      let one = group.vrps k d in
      let other = group.vrps (length xs - 1) d in
      let up = group.ranked k (length xs - 1) d in
      grind (arith, rank_asn, rank_longest, get_or_default xs (length xs - 1) d x)

-- the first VRPs of a group are a group
module _ (xs : List Vrp) (m : ℕ) (within : m ≤ length xs) where
  in_front : (k : ℕ) (d : Vrp) → k < length (slice_range xs 0 m) → get_or (slice_range xs 0 m) k d ≡ get_or xs k d
  in_front k d small = grind (arith, piece_length xs 0 m within, in_piece xs 0 m k d)

  pub group_front : (route : FamilyPrefix) → IsGroup route xs → IsGroup route (slice_range xs 0 m)
  group_front route all =
      let len = piece_length xs 0 m within in record {
        vrps = λ k d small. rw (in_front k d small) (all.vrps k d (omega (arith, len, small, within)));
        covers = λ k d small. rw (in_front k d small) (all.covers k d (omega (arith, len, small, within)));
        ranked = λ i j d le small.
            rw (in_front i d (omega (arith, small, le)), in_front j d small)
            (all.ranked i j d le (omega (arith, len, small, within)));
      }

-- and the VRP to ask of these is that of the group, if the last one's AS number is below the route's
pub last_of_front : (xs : List Vrp) (asn m n : ℕ) (x : Vrp) → m + 1 ≡ length xs → x ≡ get_or xs m x → x.1 < asn
    → n ≤ m → IsLastOf asn (slice_range xs 0 m) n → IsLastOf asn xs n
last_of_front xs asn m n x whole is below within last k d small same =
    let len = piece_length xs 0 m (omega (arith, whole)) in
    let here = last k d in
    let other = in_piece xs 0 m (n - 1) d in
    grind (arith, get_or_default xs m d x, in_piece xs 0 m k d)
