-- On the masks by which an address of 128 bits keeps its first ones.
use Rattle.rpki_ip.proofs.Common.{arith, bit_and, bit_or, cleared, ℕ, ◌+◌, ◌-◌, ◌/◌, ◌<◌, ◌^◌, ◌≡◌, clear_host}
use Rattle.rpki_ip.proofs.Common.{host_ones, or_lt, set_host, shr_le}

-- the first `len` of 128 bits, with the others cleared, and set
pub least_by : (n len : ℕ) → n < 2 ^ 128 → len < 128
    → bit_and n (2 ^ 128 - 1 - (2 ^ 128 - 1) / 2 ^ len) ≡ cleared 128 n len
least_by n len below short =
    clear_host 128 (128 - len) n _ (omega arith) below (host_ones 128 len (omega (arith, short)))

pub greatest_by : (n len : ℕ) → len < 128
    → bit_or n ((2 ^ 128 - 1) / 2 ^ len) + 1 ≡ cleared 128 n len + 2 ^ (128 - len)
greatest_by n len short = set_host (128 - len) n _ (host_ones 128 len (omega (arith, short)))

pub greatest_fits : (n len : ℕ) → n < 2 ^ 128 → bit_or n ((2 ^ 128 - 1) / 2 ^ len) < 2 ^ 128
greatest_fits n len below = or_lt 128 n _ below (omega (arith, shr_le (2 ^ 128 - 1) len))
