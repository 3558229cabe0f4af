-- The first bits of addresses: how many numbers they write, and that they follow the order of places. So a prefix is
-- sought between two places.
use Rattle.roa_origin.proofs.Common.{Bool, List, [], arith, get_or, true, length, lit≤, slice_index, subst, ℕ, ◌*◌, ◌+◌}
use Rattle.roa_origin.proofs.Common.{◌-◌, ◌/◌, cases_lt, slice_range, AreLater, AreUpTo, IsSearched, ◌<◌, ◌^◌, ◌≡◌, ◌≤◌}
use Rattle.roa_origin.proofs.Common.{◌++◌, ◌∷◌, common_steps, get_or_default, le-div, pow_pos, shr_below, FamilyPrefix}
use Rattle.roa_origin.proofs.Common.{IsFamilyPrefix, address_number, width, IsInOrder, Vrp, vrp_place, place, IsStart}
use Rattle.roa_origin.proofs.Common.{first_bits, Link}
use Rattle.roa_origin.proofs.PrefixGroups.{piece_at, piece_length}
use Rattle.std.proofs.Math.Nat.{div-mul-le_self, pow-le-pow_right}
use Rattle.roa_origin.proofs.NestedRoutes.{len_small}
use Rattle.roa_origin.proofs.LinkWalks.{nowhere, prefix_of}
use Rattle.roa_origin.specs.Links.{IsBetween}
use Rattle.roa_origin.specs.Lookups.{IsLookupBetween}
use Rattle.roa_origin.specs.Starts.{AreStarts}

-- the first n of w bits write a number of n bits
pub first_part : (w n x : ℕ) → n ≤ w → x < 2 ^ w → x / 2 ^ (w - n) < 2 ^ n
first_part w n x le small = shr_below x n (w - n) (subst (λ k. x < 2 ^ k) (omega (arith, le)) small)

-- twenty bits write less than 2 ^ 20 numbers, and fewer bits no more
pub few_numbers : (n : ℕ) → n ≤ 20 → 2 ^ n ≤ 2 ^ 20
few_numbers n few = pow-le-pow_right (lit≤ tt) few

-- the first bits of a greater number are no less
up : (k x y : ℕ) → x ≤ y → x / 2 ^ k ≤ y / 2 ^ k
up k x y le = grind (arith, le-div, div-mul-le_self, pow_pos)

-- what comes no later has first bits that write no more
pub first_up : (n : ℕ) (p q : FamilyPrefix) → n ≤ 20 → IsFamilyPrefix p → IsFamilyPrefix q → place p ≤ place q
    → first_bits n p ≤ first_bits n q
first_up n p q few is is' le =
    let same = up (width p.addr - n) (address_number p.addr) (address_number q.addr) in
    let part = first_part (width p.addr) n (address_number p.addr) in
    grind (arith, same, part, len_small p is, len_small q is', is.below, is'.below)

-- the start of one number more
pub starts_more : (n : ℕ) (xs : List Vrp) (starts : List ℕ) (number at : ℕ) → length starts ≡ number
    → ((k : ℕ) → k < number → IsStart n xs k (slice_index starts k)) → IsStart n xs number at → (k : ℕ)
    → k < number + 1 → IsStart n xs k (slice_index (starts ++ at ∷ []) k)
starts_more n xs starts number at len each is k small = grind (arith, common_steps)

-- a prefix is sought between the start of its first bits and that of the next number
pub between_starts : (n : ℕ) (xs : List Vrp) (starts : List ℕ) (p : FamilyPrefix) (number : ℕ)
    → AreStarts n xs starts → IsInOrder xs → IsFamilyPrefix p → number ≡ first_bits n p → number < 2 * 2 ^ n
    → IsBetween xs (slice_index starts number) (slice_index starts (number + 1)) p
between_starts n xs starts p number are order is same below =
    let to = slice_index starts (number + 1) in
    let start = are.each number (omega (arith, are.as_many, below)) in
    let end = are.each (number + 1) (omega (arith, are.as_many, below)) in
    record {
      ordered = grind (arith, start.before to nowhere, end.from to nowhere, start.within);
      within = end.within;
      up_to = λ k d small.
          grind (arith, prefix_of xs order k d, start, first_up n p (get_or xs k d).0.prefix are.few is);
      later = λ k d from small.
          grind (arith, prefix_of xs order k d, end.from k d, first_up n (get_or xs k d).0.prefix p, are.few);
    }

-- and then by what stands in the middle
module _ {xs : List Vrp} {links : List Link} {from to : ℕ} {p : FamilyPrefix} {covers : Bool} {l : Link}
    (h : IsLookupBetween xs links from to p covers l) (m : ℕ) (d : Vrp) (le : from ≤ m) (small : m < to) where
  -- the last VRP wasn't read before
  unread : ¬ (covers ≡ true)
  unread e = (let same = (h.read e).ended in absurd (omega (arith, same, le, small)))

  -- where that comes no later, the prefix is sought behind it
  pub behind_middle : vrp_place (get_or xs m d) ≤ place p → IsLookupBetween xs links (m + 1) to p covers l
  behind_middle before =
      let between : IsBetween xs (m + 1) to p =
      grind (arith, get_or_default xs m d, h.between.later, h.between.within, λ (k : ℕ). h.table.in_order.ordered k m)
      in record { table = h.table; is_prefix = h.is_prefix; between = between; read = λ e. absurd (unread e) }

  -- and where it comes later, before it
  pub before_middle : place p < vrp_place (get_or xs m d) → IsLookupBetween xs links from m p covers l
  before_middle after =
      let between : IsBetween xs from m p =
      grind (arith, get_or_default xs m d, h.between.up_to, h.between.within, h.table.in_order.ordered m)
      in record { table = h.table; is_prefix = h.is_prefix; between = between; read = λ e. absurd (unread e) }

-- a search between the two tells how many come no later
pub counted_between : {xs : List Vrp} {from to : ℕ} {p : FamilyPrefix} → IsBetween xs from to p → (n : ℕ)
    → n ≤ length (slice_range xs from to) → IsSearched vrp_place (slice_range xs from to) (place p + 1) n
    → (from + n ≤ length xs) × AreUpTo xs (from + n) p × AreLater xs (from + n) p
counted_between {xs} {from} {to} {p} between n bound searched =
    let wide = piece_length xs from to between.within in
    let piece = piece_at xs from to in (
      omega (arith, wide, bound, between.ordered, between.within),
      (λ k d small.
          let before = searched.before (k - from) d in
          let front = between.up_to k d in
          grind (arith, cases_lt k from, piece k d)),
      (λ k d over small.
          let behind = searched.from (k - from) d in
          grind (arith, cases_lt k to, piece k d, between.later k d)),
    )
