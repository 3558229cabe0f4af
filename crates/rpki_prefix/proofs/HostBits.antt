-- On the host bits of addresses: the bits after a prefix's length.
use Rattle.rpki_prefix.proofs.Common.{arith, bit_and, bit_or, ℕ, ◌+◌, ◌-◌, ◌<◌, ◌^◌, ◌∙◌, ◌≡◌, ◌≤◌, clear_host}
use Rattle.rpki_prefix.proofs.Common.{set_host, IpAddr, IsRelaxedPrefixOf, address_number, cleared_addr, width}
use Rattle.rpki_cover.specs.Bits.{cleared}
use Rattle.rpki_cover.proofs.PrefixNumbers.{cleared_prefix, cleared_holds}

-- what `n & !m` is, where the host bits of m are set
pub cleared_by : (w n len m k r : ℕ) → n < 2 ^ w → m + 1 ≡ 2 ^ (w - len) → k ≡ 2 ^ w - 1 - m → r ≡ bit_and n k
    → r ≡ cleared w n len
cleared_by w n len m k r below mask flip is = is ∙ (rw flip (clear_host w (w - len) n m (omega arith) below mask))

-- and what `n | m` is
pub filled_by : (w n len m r : ℕ) → m + 1 ≡ 2 ^ (w - len) → r ≡ bit_or n m → r ≡ cleared w n len + 2 ^ (w - len) - 1
filled_by w n len m r mask is = omega (arith, is, set_host (w - len) n m mask)

-- the address with its host bits cleared is a prefix's, and that prefix holds the address
pub relaxed_prefix : (a : IpAddr) (len : ℕ) → len ≤ width a → address_number a < 2 ^ width a
    → IsRelaxedPrefixOf a len (record { addr = cleared_addr a len; len = len })
relaxed_prefix a len short below = grind (arith, cleared_holds, cleared_prefix)
