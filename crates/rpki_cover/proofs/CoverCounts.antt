-- How many prefixes a cover list of a range has.
use Rattle.rpki_cover.proofs.Common.{ap, arith, le-leb, inl, inr, length, suc, zero, ℕ, ◌%◌, ◌*◌, ◌+◌, ◌/◌, ◌<◌, ◌^◌}
use Rattle.rpki_cover.proofs.Common.{◌≡◌, ◌≤◌, ◌⊎◌, pow_mono, two-pow-succ, cases_eq, cases_lt, lt-leb, cover_list}
use Rattle.rpki_cover.proofs.Common.{cover_list_upto, free_bits_upto}
use Rattle.rpki_cover.proofs.Multiples.{IsMultiple, multiple_gap, multiple_zero, multiple_self, multiple_sum}
use Rattle.rpki_cover.proofs.Multiples.{multiple_smaller}
use Rattle.rpki_cover.proofs.GreatestBlock.{IsGreatest, free_bits_upto_is}

-- of two neighbouring multiples of a power of 2, one is a multiple of the next power
multiple_double : (j a : ℕ) → IsMultiple (2 ^ j) a → IsMultiple (2 ^ suc j) a ⊎ IsMultiple (2 ^ suc j) (a + 2 ^ j)
multiple_double j a m = rw (two-pow-succ j) (elim (cases_eq (m.times % 2) 0) [
  | inl even ↦
      let half : m.times ≡ m.times / 2 * 2 = omega (arith, even) in
      inl (record { times = m.times / 2; is = omega (arith, m.is, ap (λ x. x * 2 ^ j) half) })
  | inr odd ↦
      let half : m.times ≡ m.times / 2 * 2 + 1 = omega (arith, odd) in
      inr (record { times = m.times / 2 + 1; is = omega (arith, m.is, ap (λ x. x * 2 ^ j) half) })
])

-- twice the greatest block doesn't fit where a greater one would be aligned
not_twice : {w a b j : ℕ} → IsGreatest w a b j → (k : ℕ) → j < k → k ≤ w → IsMultiple (2 ^ k) a
    → b + 1 < a + 2 ^ j + 2 ^ j
not_twice {w} {a} {b} {j} g k small within m =
    grind (arith, two-pow-succ, multiple_smaller (suc j) k a small m, g.greatest (suc j))

pow_le : (i j : ℕ) → i ≤ j → 2 ^ i ≤ 2 ^ j
pow_le i j h = pow_mono h

-- a multiple of 2 ^ k of at most w bits, other than 0
bits_below : (w a k : ℕ) → 0 < a → IsMultiple (2 ^ k) a → a < 2 ^ w → k < w
bits_below w a k pos m below =
    grind (arith, multiple_gap (2 ^ k) 0 a (multiple_zero _) m pos, cases_lt k w, pow_le w k)

-- no prefixes are in no numbers
cover_list_none : (n w a b : ℕ) → b < a → length (cover_list_upto n w a b) ≡ 0
cover_list_none n w a b h = grind (arith, lt-leb)

-- one prefix, and those behind it
cover_list_step : (n w a b : ℕ) → a ≤ b
    → (j : ℕ) × IsGreatest w a b j × IsMultiple (2 ^ j) (a + 2 ^ j)
    × (length (cover_list_upto (suc n) w a b) ≡ suc (length (cover_list_upto n w (a + 2 ^ j) b)))
cover_list_step n w a b l =
    let g = free_bits_upto_is w a b l in
    (free_bits_upto w a b, g, multiple_sum _ a _ g.aligned (multiple_self _), rw (le-leb a b l))

-- where less than 2 ^ k numbers are left from a multiple of 2 ^ k on, at most k prefixes are
cover_list_down : (n w a b k : ℕ) → k ≤ w → IsMultiple (2 ^ k) a → b + 1 < a + 2 ^ k
    → length (cover_list_upto n w a b) ≤ k
cover_list_down zero w a b k kw m h = omega arith
cover_list_down (suc n) w a b k kw m h = elim (cases_lt b a) [
  | inl none ↦ omega (arith, cover_list_none (suc n) w a b none)
  | inr l ↦
      let (j, g, next, long) = cover_list_step n w a b l in
      grind (arith, cases_lt j k, long, cover_list_down n w (a + 2 ^ j) b j g.upto next, not_twice g k, pow_le k j)
]

-- from a multiple of 2 ^ k other than 0 on
cover_list_up : (n w a b k : ℕ) → 2 ≤ w → k ≤ w → 0 < a → b < 2 ^ w → IsMultiple (2 ^ k) a
    → length (cover_list_upto n w a b) + k + 2 ≤ 2 * w
cover_list_up zero w a b k two kw pos below m = omega arith
cover_list_up (suc n) w a b k two kw pos below m = elim (cases_lt b a) [
  | inl none ↦ omega (arith, cover_list_none (suc n) w a b none)
  | inr l ↦
      let (j, g, next, long) = cover_list_step n w a b l in
      let high = bits_below w a j pos g.aligned (omega arith) in
      let few = λ (i : ℕ) (greater : j < i) (within : i ≤ w) (d : IsMultiple (2 ^ i) a).
      cover_list_down (suc n) w a b i within d (g.greatest i greater within d) in
      let up = cover_list_up n w (a + 2 ^ j) b (suc j) two high (omega arith) below in
      grind (arith, cases_lt j k, multiple_double j a g.aligned, long, few k, few (suc j), up, bits_below w a)
]

-- a cover list of a range has at most 2 (w - 1) prefixes: 254 at width 128, and 62 at width 32
pub cover_list_few : (w a b : ℕ) → 2 ≤ w → b < 2 ^ w → length (cover_list w a b) + 2 ≤ 2 * w
unfolding cover_list
cover_list_few w a b two below =
    let whole = λ (order : a ≤ b). (free_bits_upto_is w a b order).greatest w in
    grind (arith, cases_lt, cover_list_down, cover_list_none, cover_list_up, free_bits_upto_is, pow_le, whole)
