-- Numbers as digits in a base, the highest first: octets in base 256, groups of an IPv6 address in base 65536. The
-- value of a hexadecimal digit.
use Rattle.std.specs.Prelude.{ℕ, zero, suc, ◌/◌, ◌%◌, List, [], ◌∷◌, ◌++◌, nat_lt, if◌then◌else◌}
use Rattle.std.specs.Char.{digit_value}
use Rattle.std.specs.Int.Digits.{number_from_digits}

-- the last k digits of n in the base, the highest first
abbrev pub last_digits : ℕ → ℕ → ℕ → List ℕ
last_digits base zero n = []
last_digits base (suc k) n = last_digits base k (n / base) ++ (n % base) ∷ []

-- the four octets of a number below 2^32, the highest first
abbrev pub octets_of : ℕ → List ℕ
octets_of n = last_digits 0x100 4 n

-- the number that octets write, the highest first
abbrev pub from_octets : List ℕ → ℕ
from_octets octets = number_from_digits 0x100 octets

-- the eight groups of 16 bits of a number below 2^128, the highest first (RFC 4291, 2.2)
abbrev pub groups_of : ℕ → List ℕ
groups_of n = last_digits 0x10000 8 n

-- the number that groups of 16 bits write, the highest first
abbrev pub from_groups : List ℕ → ℕ
from_groups groups = number_from_digits 0x10000 groups

-- the value of a hexadecimal digit, or 16 for any other byte
unfoldable pub hex_value : ℕ → ℕ
hex_value byte = if nat_lt (digit_value byte) 16 then digit_value byte else 16
