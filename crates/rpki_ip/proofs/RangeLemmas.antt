-- On the prefix of a range's addresses.
use Rattle.rpki_ip.proofs.Common.{ap, arith, bit_and, inl, inr, suc, zero, ℕ, ◌%◌, ◌*◌, ◌+◌, ◌-◌, ◌<◌, ◌^◌, ◌∙◌, ◌≡◌}
use Rattle.rpki_ip.proofs.Common.{◌≤◌, mod-eq_of_lt, mod_self, pow-le-pow_right, two-pow-succ, cases_order, and_block}
use Rattle.rpki_ip.proofs.Common.{and_comm, and_mask, leading_length, pow_below, pow_pos, count_leading_zeros, power_is}
use Rattle.rpki_ip.proofs.Common.{IsPrefix, PrefixValue, IsRangeOf, RangeValue}
use Rattle.std.specs.Int.Bits.{and_zero_r}

-- ---- the bits behind a prefix

-- `n & (n + 1)` keeps the highest bit of n where n + 1 has it too
top_kept : (j n : ℕ) → 2 ^ j ≤ n → n + 1 < 2 * 2 ^ j → 0 < bit_and n (n + 1)
top_kept j n most below =
    let one : n ≡ 1 * 2 ^ j + (n - 2 ^ j) = omega (arith, most) in
    let next : n + 1 ≡ 1 * 2 ^ j + (n + 1 - 2 ^ j) = omega (arith, most) in
    grind (arith, and_block, bit_and, pow_pos)

-- so where `n & (n + 1)` is 0 at w bits, n is all ones from its highest bit on
pub ones_from_top : (w n : ℕ) → n < 2 ^ w → bit_and n ((n + 1) % 2 ^ w) ≡ 0 → n + 1 ≡ 2 ^ (w - count_leading_zeros w n)
ones_from_top w n below none =
    let t = leading_length w n below in
    let m : w - count_leading_zeros w n ≡ t.0 = omega (arith, t.1) in
    rw m (all_ones t.0 t.2 t.3 (pow-le-pow_right {n = 2} (omega arith) (omega (arith, t.1))))
  where
    all_ones : (m : ℕ) → n < 2 ^ m → 2 ^ m ≤ 2 * n + 1 → 2 ^ m ≤ 2 ^ w → n + 1 ≡ 2 ^ m
    all_ones zero less most within = omega (arith, less)
    all_ones (suc j) less most within = elim (cases_order (n + 1) (2 ^ suc j)) [
      | inl same ↦ same
      | inr (inl low) ↦ absurd (
          let twice : 2 ^ suc j ≡ 2 ^ j + 2 ^ j = two-pow-succ j in
          let whole : (n + 1) % 2 ^ w ≡ n + 1 = mod-eq_of_lt (omega (arith, low, within)) in
          let kept : 0 < bit_and n (n + 1) = top_kept j n (omega (arith, twice, most)) (omega (arith, twice, low)) in
          omega (arith, kept, rw whole at none))
      | inr (inr high) ↦ absurd (omega (arith, high, less))
    ]

-- and where n is all ones, it is 0
pub ones_and_next : (w k n : ℕ) → k ≤ w → n + 1 ≡ 2 ^ k → bit_and n ((n + 1) % 2 ^ w) ≡ 0
ones_and_next w k n within ones = elim (cases_order k w) [
  | inl same ↦ (
      let none : (n + 1) % 2 ^ w ≡ 0 = rw (ones, same) (mod_self (2 ^ w)) in
      ap (λ x. bit_and n x) none ∙ and_zero_r n)
  | inr (inl less) ↦ (
      let below : 2 ^ k < 2 ^ w = pow_below k w less in
      let whole : (n + 1) % 2 ^ w ≡ 2 ^ k = rw ones (mod-eq_of_lt below) in
      let is : n ≡ 2 ^ k - 1 = omega (arith, ones) in
      (λ i. bit_and (is i) (whole i)) ∙ and_comm (2 ^ k - 1) (2 ^ k) ∙ and_mask (2 ^ k) k ∙ mod_self (2 ^ k))
  | inr (inr more) ↦ absurd (omega (arith, within, more))
]

-- ---- the prefix of a range

-- how many addresses a prefix has
count_of : (p : PrefixValue) (r : RangeValue) → IsRangeOf p r → r.max - r.min + 1 ≡ 2 ^ (128 - p.len)
count_of p r same = omega (arith, same.begins, same.ends, pow_pos (128 - p.len))

-- prefixes of the same addresses are one
pub one_prefix : (p q : PrefixValue) (r : RangeValue) → IsPrefix 128 p → IsPrefix 128 q → IsRangeOf p r → IsRangeOf q r
    → p ≡ q
one_prefix p q r is other same too = grind (arith, count_of, pow_pos, power_is)

-- what both tests find
pub prefix_of_bits : (r : RangeValue) → r.min ≤ r.max → r.max < 2 ^ 128
    → bit_and (r.max - r.min) ((r.max - r.min + 1) % 2 ^ 128) ≡ 0 → bit_and r.min (r.max - r.min) ≡ 0
    → let p : PrefixValue = record { first = r.min; len = count_leading_zeros 128 (r.max - r.min) } in IsPrefix 128 p
    × IsRangeOf p r
prefix_of_bits r ordered below ones clear =
    let t = leading_length 128 (r.max - r.min) (omega (arith, below)) in
    let count = ones_from_top 128 (r.max - r.min) (omega (arith, below)) ones in
    let mask = and_mask r.min (128 - count_leading_zeros 128 (r.max - r.min)) in
    grind arith

-- where one of them fails, no prefix has the addresses
pub bits_of_prefix : (p : PrefixValue) (r : RangeValue) → IsPrefix 128 p → IsRangeOf p r
    → (bit_and (r.max - r.min) ((r.max - r.min + 1) % 2 ^ 128) ≡ 0) × (bit_and r.min (r.max - r.min) ≡ 0)
bits_of_prefix p r is same =
    let count : r.max - r.min + 1 ≡ 2 ^ (128 - p.len) = count_of p r same in
    let host : r.max - r.min ≡ 2 ^ (128 - p.len) - 1 = omega (arith, count) in (
      ones_and_next 128 (128 - p.len) (r.max - r.min) (omega arith) count,
      (λ i. bit_and (same.begins i) (host i)) ∙ and_mask p.first (128 - p.len) ∙ is.aligned,
    )
