-- On the numbers of prefixes.
use Rattle.rpki_cover.proofs.Common.{arith, ℕ, ◌*◌, ◌<◌, ◌^◌, ◌≡◌, ◌≤◌, pow-le-pow_right, two-pow-succ, cases_order}
use Rattle.rpki_cover.proofs.Common.{mod_below, pow_below, pow_pos, shr_split}
use Rattle.std.proofs.Math.Nat.{mul-mod_left}
use Rattle.rpki_cover.specs.Bits.{cleared}
use Rattle.rpki_cover.specs.Prefixes.{PrefixValue, IsPrefix, IsIn}

-- clearing the bits behind its length leaves a prefix's first number as it is
pub cleared_first : (w : ℕ) (p : PrefixValue) → IsPrefix w p → cleared w p.first p.len ≡ p.first
cleared_first w p is = grind (arith, shr_split)

-- a power of 2 is known by the power of 2 that is at most it and more than half of it
pub power_is : (h k : ℕ) → 2 ^ h ≤ 2 ^ k → (h < k → 2 ^ k < 2 * 2 ^ h) → h ≡ k
power_is h k low high = grind (arith, cases_order, pow-le-pow_right, pow_below, two-pow-succ)

-- clearing the bits behind a length gives a prefix of that length
pub cleared_prefix : (w n len : ℕ) → len ≤ w → n < 2 ^ w → IsPrefix w (record { first = cleared w n len; len = len })
cleared_prefix w n len short below = grind (arith, mul-mod_left, pow_pos)

-- which holds the number
pub cleared_holds : (w n len : ℕ) → IsIn w (record { first = cleared w n len; len = len }) n
cleared_holds w n len = grind (arith, mod_below, pow_pos, shr_split)
