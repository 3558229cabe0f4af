-- The cover list of two sets with a gap between them.
use Rattle.rpki_cover.proofs.Common.{List, [], arith, inl, inr, ℕ, ◌++◌, ◌+◌, ◌-◌, ◌<◌, ◌^◌, ◌∷◌, ◌≤◌, ◌⊎◌, cases_lt}
use Rattle.rpki_cover.proofs.Common.{All-append, All-tail, All, IsPrefix, LiesIn, PrefixValue, Ascends}
use Rattle.std.proofs.lemmas.List.Elements.{Contains-append_left, Contains-append_right}
use Rattle.rpki_cover.proofs.CoverList.{CoverOf}
use Rattle.rpki_cover.proofs.NestedPrefixes.{first_in, last_in}

-- the same numbers have the same cover list
pub cover_same : (w : ℕ) (S T : ℕ → Type 0) (ps : List PrefixValue) → ((n : ℕ) → S n → T n) → ((n : ℕ) → T n → S n)
    → CoverOf w S ps → CoverOf w T ps
cover_same w S T ps to from c = grind (arith, c.inside, c.nests)

-- of two ascending lists, one ends where the other begins, or before
ascends_append : (w m : ℕ) (ps qs : List PrefixValue) → Ascends w ps → Ascends w qs
    → All (λ p. p.first + 2 ^ (w - p.len) ≤ m) ps → All (λ q. m ≤ q.first) qs → Ascends w (ps ++ qs)
ascends_append w m [] qs a b ends begins = b
ascends_append w m (p ∷ ps) qs a b ends begins =
    let first : p.first + 2 ^ (w - p.len) ≤ m = ends 0 p (omega arith) in
    let later = All-tail (λ p. p.first + 2 ^ (w - p.len) ≤ m) p ps ends in (
      All-append (λ q. p.first + 2 ^ (w - p.len) ≤ q.first) ps qs a.0 (λ k q l. omega (arith, begins k q l)),
      ascends_append w m ps qs a.1 b later begins,
    )

-- two sets with a number in neither between them
module _ (w m : ℕ) (S T : ℕ → Type 0) (low : (n : ℕ) → S n → n ≤ m) (high : (n : ℕ) → T n → m + 1 < n) where
  -- a prefix inside both together lies in one of them
  one_side : (q : PrefixValue) → LiesIn w (λ n. S n ⊎ T n) q → LiesIn w S q ⊎ LiesIn w T q
  one_side q i = grind (arith, cases_lt m q.first, i, low, high, i (m + 1))

  -- so the cover lists are that of both, one after the other
  pub cover_joined : (ps qs : List PrefixValue) → CoverOf w S ps → CoverOf w T qs
      → CoverOf w (λ n. S n ⊎ T n) (ps ++ qs)
  cover_joined ps qs c d = record {
    ascending = ascends_append w (m + 1) ps qs c.ascending d.ascending
        (λ k p l. omega (arith, low _ (c.inside k p l _ (last_in w _))))
        (λ k q l. omega (arith, high _ (d.inside k q l _ (first_in w _))));
    prefixes = All-append (IsPrefix w) ps qs c.prefixes d.prefixes;
    inside = All-append (LiesIn w (λ n. S n ⊎ T n)) ps qs
        (λ k p l n h. inl (c.inside k p l n h)) (λ k q l n h. inr (d.inside k q l n h));
    nests = λ q is i. elim (one_side q i) [
      | inl s ↦ (let (p, j, h) = c.nests q is s in (p, Contains-append_left ps qs p j, h))
      | inr t ↦ (let (p, j, h) = d.nests q is t in (p, Contains-append_right ps qs p j, h))
    ];
  }
