-- On masks, which clear or set the last bits of a number.
use Rattle.rpki_cover.proofs.Common.{arith, bit_and, bit_or, ℕ, ◌*◌, ◌+◌, ◌-◌, ◌/◌, ◌<◌, ◌^◌, ◌≡◌, ◌≤◌, and_mask}
use Rattle.rpki_cover.proofs.Common.{pow_pos}
use Rattle.std.proofs.lemmas.Nat.Bits.{ones_shr, and_high_mask}
use Rattle.std.specs.Int.Bits.{or_add_and}

-- `n & !m` of w bits, where the last k bits of m are set and no other, clears the last k bits
pub clear_host : (w k n m : ℕ) → k ≤ w → n < 2 ^ w → m + 1 ≡ 2 ^ k → bit_and n (2 ^ w - 1 - m) ≡ n / 2 ^ k * 2 ^ k
clear_host w k n m within below mask = grind (arith, and_high_mask w k within n below)

-- and `n | m` sets them
pub set_host : (k n m : ℕ) → m + 1 ≡ 2 ^ k → bit_or n m + 1 ≡ n / 2 ^ k * 2 ^ k + 2 ^ k
set_host k n m mask = grind (arith, or_add_and n m, and_mask n k, pow_pos k)

-- the mask `MAX >> len` of w bits has its last w - len bits set
pub host_ones : (w len : ℕ) → len ≤ w → (2 ^ w - 1) / 2 ^ len + 1 ≡ 2 ^ (w - len)
host_ones w len short = grind (arith, ones_shr, pow_pos)
