-- A cover list has the union of its set, and no shorter list of prefixes has.
use Rattle.rpki_cover.proofs.Common.{Bool, List, [], arith, cases_lt, inl, inr, leb, length, refl, subst, ℕ, ◌+◌, ◌-◌}
use Rattle.rpki_cover.proofs.Common.{◌<◌, ◌^◌, ◌∷◌, ◌≡◌, ◌≤◌, le-leb, lt-leb, pow_below, All-contains, Contains-get_or}
use Rattle.rpki_cover.proofs.Common.{All, Contains, filter, IsIn, IsMaximal, IsPrefix, LiesIn, PrefixValue, Ascends}
use Rattle.rpki_cover.proofs.Common.{HasUnion, IsCoverList, IsShortest, IsShortestCover, cover_list}
use Rattle.rpki_cover.proofs.ListMembership.{contains_cases, contains_filter, contains_later, filter_shrinks}
use Rattle.rpki_cover.proofs.Multiples.{multiple_mod}
use Rattle.rpki_cover.proofs.NestedPrefixes.{InRange, first_in, last_in, longer_inside, parent_of}
use Rattle.rpki_cover.proofs.CoverList.{CoverOf, cover_list_covers}
use Rattle.rpki_cover.proofs.UniqueCover.{behind, one_cover_list}

-- a prefix of the list qs begins in p
pub record Hit (w : ℕ) (qs : List PrefixValue) (p : PrefixValue) : Type 0 where
  pub by_ : PrefixValue
  pub there : Contains qs by_
  pub starts : IsIn w p by_.first

-- prefixes that ascend, in each of which one of the others begins, are at most as many as the others
pub pigeon : (w : ℕ) (ps qs : List PrefixValue) → Ascends w ps → ((p : PrefixValue) → Contains ps p → Hit w qs p)
    → length ps ≤ length qs
pigeon w [] qs asc hits = omega arith
pigeon w (p ∷ ps) qs asc hits =
    let test : PrefixValue → Bool = λ q. leb (p.first + 2 ^ (w - p.len)) q.first in
    let h = hits p (0, omega arith, refl) in
    let shrink = filter_shrinks test qs h.by_ h.there (lt-leb _ _ h.starts.upto) in
    let later : (r : PrefixValue) → Contains ps r → Hit w (filter test qs) r = λ r i.
    let hr = hits r (contains_later p ps r i) in
    let after = behind w p r ps asc i in
    let kept = contains_filter test qs hr.by_ hr.there (le-leb _ _ (omega arith)) in
    record { by_ = hr.by_; there = kept; starts = hr.starts } in
    omega (arith, shrink, pigeon w ps (filter test qs) asc.1 later)

-- two prefixes of an ascending list that share a number are one
pub same_by_number : (w : ℕ) (ps : List PrefixValue) (p q : PrefixValue) (n : ℕ) → Ascends w ps → Contains ps p
    → Contains ps q → IsIn w p n → IsIn w q n → p ≡ q
same_by_number w [] p q n asc i j in_p in_q = absurd (omega (arith, i.1))
same_by_number w (r ∷ rs) p q n asc i j in_p in_q =
    grind (arith, behind, contains_cases, same_by_number w rs p q n asc.1)

-- two prefixes that lie in each other are one
same_numbers : (w : ℕ) (p q : PrefixValue) → IsPrefix w p → IsPrefix w q → LiesIn w (IsIn w p) q → LiesIn w (IsIn w q) p
    → p ≡ q
same_numbers w p q is_p is_q i j =
    grind (arith, i _ (first_in w q), i _ (last_in w q), j _ (first_in w p), j _ (last_in w p), pow_below)

-- the prefix of one number
pub single : (w n : ℕ) → n < 2 ^ w → IsPrefix w (record { first = n; len = w })
single w n h = grind (arith, multiple_mod)

-- has no other number
only_one : (w n m : ℕ) → IsIn w (record { first = n; len = w }) m → n ≡ m
only_one w n m i = grind arith

module _ (w : ℕ) (S : ℕ → Type 0) (ps : List PrefixValue) (c : CoverOf w S ps) (small : (n : ℕ) → S n → n < 2 ^ w) where
  -- the prefixes are maximal: a parent would lie in one of them, which shares a number with its child
  sound : (p : PrefixValue) → Contains ps p → IsMaximal w S p
  sound p i =
      let is : IsPrefix w p = All-contains (IsPrefix w) ps p c.prefixes i in
      record {
        is_prefix = is;
        inside = All-contains (LiesIn w S) ps p c.inside i;
        greatest = λ q parent within.
            let (r, j, h) = c.nests q parent.is_prefix within in
            let both = h p.first (parent.holds p.first (first_in w p)) in
            let e = same_by_number w ps r p p.first c.ascending j i both (first_in w p) in
            grind (arith, e, h q.first (first_in w q), h _ (last_in w q), pow_below (w - p.len) (w - q.len));
      }

  -- and a maximal prefix is one of them: its parent doesn't lie in the one in which it lies
  complete : (p : PrefixValue) → IsMaximal w S p → Contains ps p
  complete p m =
      let (r, j, h) = c.nests p m.is_prefix m.inside in
      let is : IsPrefix w r = All-contains (IsPrefix w) ps r c.prefixes j in
      elim (cases_lt r.len p.len) [
        | inl longer ↦ absurd (
            let (q, parent) = parent_of w p m.is_prefix (omega arith) in
            let both = parent.holds p.first (first_in w p) in
            let held = longer_inside parent.is_prefix is p.first both (h p.first (first_in w p)) (omega arith) in
            m.greatest q parent (λ n k. All-contains (LiesIn w S) ps r c.inside j n (held n k)))
        | inr same ↦
            let back = longer_inside is m.is_prefix p.first (h p.first (first_in w p)) (first_in w p) same in
            subst (Contains ps) (same_numbers w r p is m.is_prefix h back) j
      ]

  list_from : IsCoverList w S ps
  list_from = record { ascending = c.ascending; members = λ p. (sound p, complete p) }

  union_from : HasUnion w S ps
  union_from n = (
    (λ s.
        let (p, i, h) = c.nests _ (single w n (small n s)) (λ m i. subst S (only_one w n m i) s) in
        (p, i, h n (first_in w (record { first = n; len = w })))),
    (λ (p, i, h). All-contains (LiesIn w S) ps p c.inside i n h),
  )

  shortest_from : IsShortest w S ps
  shortest_from qs are union = pigeon w ps qs c.ascending (λ p i.
      let (q, j, h) = (union p.first).0 ((sound p i).inside p.first (first_in w p)) in
      let (r, k, l) = c.nests q (All-contains (IsPrefix w) qs q are j) (λ n k. (union n).1 (q, j, k)) in
      let e : r ≡ p = same_by_number w ps r p p.first c.ascending k i (l p.first h) (first_in w p) in
      record { by_ = q; there = j; starts = rw e at (l q.first (first_in w q)) })

  pub shortest_cover_from : IsShortestCover w S ps
  shortest_cover_from = search (arith, list_from, one_cover_list, shortest_from, union_from)

-- the shortest cover of a range
pub range_cover : (w a b : ℕ) → b < 2 ^ w → IsShortestCover w (InRange a b) (cover_list w a b)
range_cover w a b below =
    shortest_cover_from w (InRange a b) _ (cover_list_covers w a b below) (λ n i. omega (arith, i.1, below))

-- a cover list consists of prefixes
pub cover_prefixes : (w : ℕ) (S : ℕ → Type 0) (ps : List PrefixValue) → IsCoverList w S ps → All (IsPrefix w) ps
cover_prefixes w S ps c k p l = ((c.members _).0 (Contains-get_or ps k p l)).is_prefix
