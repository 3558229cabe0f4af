-- The walk through a range finds its cover list.
use Rattle.rpki_cover.proofs.Common.{cases_lt, le-leb, lt-leb, List, [], ap, arith, inl, inr, refl, suc, zero, ℕ, ◌+◌}
use Rattle.rpki_cover.proofs.Common.{◌-◌, ◌<◌, ◌^◌, ◌∷◌, ◌≡◌, ◌≤◌, All-cons, pow_pos, All, Contains, IsIn, IsPrefix}
use Rattle.rpki_cover.proofs.Common.{LiesIn, PrefixValue, Ascends, cover_list, cover_list_upto, free_bits_upto}
use Rattle.rpki_cover.proofs.Multiples.{multiple_mod}
use Rattle.rpki_cover.proofs.GreatestBlock.{IsGreatest, free_bits_upto_is}
use Rattle.rpki_cover.proofs.ListMembership.{contains_later}
use Rattle.rpki_cover.proofs.NestedPrefixes.{InRange, Within, first_in, within_of, of_within, longer_inside}
use Rattle.rpki_cover.proofs.NestedPrefixes.{multiple_at}

-- ascending prefixes inside S, in one of which lies each prefix inside S: proofs/ShortestCover says that they are the
-- cover list of S
pub record CoverOf (w : ℕ) (S : ℕ → Type 0) (ps : List PrefixValue) : Type 0 where
  pub ascending : Ascends w ps
  pub prefixes : All (IsPrefix w) ps
  pub inside : All (LiesIn w S) ps
  pub nests : (q : PrefixValue) → IsPrefix w q → LiesIn w S q
      → (p : PrefixValue) × Contains ps p × LiesIn w (IsIn w p) q

-- nothing is inside no numbers
pub cover_none : (w : ℕ) (S : ℕ → Type 0) → ((n : ℕ) → S n → ⊥) → CoverOf w S []
cover_none w S none = grind (arith, first_in)

-- the prefix of the 2 ^ k numbers from a on
abbrev pub head_prefix : ℕ → ℕ → ℕ → PrefixValue
head_prefix w a k = record { first = a; len = w - k }

module _ (w a b k : ℕ) (order : a ≤ b) (below : b < 2 ^ w) (g : IsGreatest w a b k) where
  -- how many numbers the head has
  size_is : 2 ^ (w - (w - k)) ≡ 2 ^ k
  size_is = let e : w - (w - k) ≡ k = omega arith in ap (λ i. 2 ^ i) e

  head_is : IsPrefix w (head_prefix w a k)
  head_is = grind (arith, multiple_mod, pow_pos, size_is)

  in_head : (n : ℕ) → a ≤ n → n < a + 2 ^ k → IsIn w (head_prefix w a k) n
  in_head n from upto = record { from = from; upto = rw size_is upto }

  -- a prefix inside the range that begins in the head is no greater: a greater one would begin where the head does
  no_greater : (q : PrefixValue) → IsPrefix w q → Within w q a b → q.first < a + 2 ^ k → w - q.len ≤ k
  no_greater q is v front =
      let both = in_head q.first v.from front in
      let held = longer_inside head_is is q.first both (first_in w q) in
      let at = multiple_at w q is in
      grind (arith, cases_lt k (w - q.len), held, first_in w (head_prefix w a k), g.greatest (w - q.len), at)

  -- so the head and the cover list of what is behind it are the cover list
  pub cover_step : (ps : List PrefixValue) → CoverOf w (InRange (a + 2 ^ k) b) ps
      → CoverOf w (InRange a b) (head_prefix w a k ∷ ps)
  cover_step ps t = record {
    ascending = (λ j q l. rw size_is (within_of w (a + 2 ^ k) b _ (t.inside j q l)).from, t.ascending);
    prefixes = All-cons (IsPrefix w) (head_prefix w a k) ps head_is t.prefixes;
    inside = All-cons (LiesIn w (InRange a b)) (head_prefix w a k) ps
        (of_within w a b (head_prefix w a k) (record { from = omega arith; upto = rw size_is g.within }))
        (λ j q l n h. let i = t.inside j q l n h in (omega (arith, i.0), i.1));
    nests = λ q is i.
        let v : Within w q a b = within_of w a b q i in
        elim (cases_lt q.first (a + 2 ^ k)) [
          | inl front ↦
              let small = no_greater q is v front in
              let both = in_head q.first v.from front in
              let held = longer_inside is head_is q.first (first_in w q) both (omega arith) in
              (head_prefix w a k, (0, omega arith, refl), held)
          | inr behind ↦
              let (p, j, h) = t.nests q is (of_within w (a + 2 ^ k) b q (record { from = behind; upto = v.upto })) in
              (p, contains_later (head_prefix w a k) ps p j, h)
        ];
  }

-- with as many steps as the range has numbers
cover_list_upto_covers : (n w a b : ℕ) → b < 2 ^ w → b + 1 ≤ a + n → CoverOf w (InRange a b) (cover_list_upto n w a b)
cover_list_upto_covers zero w a b below h = cover_none w (InRange a b) (λ n i. omega (arith, i.0, i.1))
cover_list_upto_covers (suc n) w a b below h = elim (cases_lt b a) [
  | inl l ↦ rw (lt-leb a b l) (cover_none w (InRange a b) (λ n i. omega (arith, i.0, i.1)))
  | inr l ↦
      let some = pow_pos (free_bits_upto w a b) in
      let rest = cover_list_upto_covers n w (a + 2 ^ free_bits_upto w a b) b below (omega arith) in
      rw (le-leb a b l) (cover_step w a b _ l below (free_bits_upto_is w a b l) _ rest)
]

pub cover_list_covers : (w a b : ℕ) → b < 2 ^ w → CoverOf w (InRange a b) (cover_list w a b)
unfolding cover_list
cover_list_covers w a b below = cover_list_upto_covers (b + 1 - a) w a b below (omega arith)
