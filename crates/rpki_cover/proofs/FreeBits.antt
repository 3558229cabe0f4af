-- The greatest prefix at the beginning of a range, by zeros at the end and a logarithm.
use Rattle.rpki_cover.proofs.Common.{arith, min, suc, ℕ, ◌*◌, ◌+◌, ◌-◌, ◌<◌, ◌^◌, ◌≡◌, ◌≤◌, pow_mono}
use Rattle.rpki_cover.proofs.Common.{count_trailing_zeros, free_bits}
use Rattle.rpki_cover.proofs.Multiples.{IsMultiple, multiple_smaller, zeros_divide, zeros_greatest}
use Rattle.rpki_cover.proofs.GreatestBlock.{free_bits_upto_is, same_greatest}

-- what the code computes is the greatest
pub greatest_by : (w a b t f : ℕ) → w ≤ 128 → a ≤ b → b < 2 ^ w → t ≡ count_trailing_zeros 128 a
    → 2 ^ f ≤ b - a + 1 → (f < 128 → b - a + 1 < 2 * 2 ^ f) → min (min t f) w ≡ free_bits w a b
unfolding free_bits
greatest_by w a b t f ww order below tt low high =
    let zeros : IsMultiple (2 ^ t) a = rw tt (zeros_divide 128 a) in
    let fitting : 2 ^ min (min t f) w ≤ 2 ^ f = pow_mono (omega arith) in
    let twice : (j : ℕ) → suc f ≤ j → 2 ^ suc f ≤ 2 ^ j = λ j more. pow_mono more in
    same_greatest w a b (min (min t f) w) (free_bits w a b)
    (grind (arith, multiple_smaller (min (min t f) w) t a (omega arith) zeros, fitting, zeros_greatest 128 a, twice))
    (free_bits_upto_is w a b order)
