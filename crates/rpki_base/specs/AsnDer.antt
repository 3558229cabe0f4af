-- AS numbers in DER.
use Rattle.std.specs.Prelude.{ℕ, List, Result, Ok}
use Rattle.rpki_der.specs.declared.error.DerError.{DerError}
use Rattle.rpki_der.specs.Der.{IsU32, IsUnsigned, u32_value}
use Rattle.rpki_der.specs.Reading.{◌>>=◌, u32_at, unsigned}

-- an INTEGER from 0 to 4294967295 (RFC 3779, 3.2.3.10, ASId)
abbrev pub IsAsNumber : List ℕ → ℕ → Type 0
IsAsNumber = IsU32

-- the AS number at the front of octets and the octets after it, or the first fault
abbrev pub as_number_at : List ℕ → Result (ℕ × List ℕ) DerError
as_number_at = u32_at

-- the content is that of an AS number, of any value
abbrev pub SaysAsNumber : List ℕ → Unit {0} → Type 0
SaysAsNumber content u = (n : ℕ) × IsUnsigned content n

-- no value if the content is that of an AS number, or the first fault
abbrev pub skip_number : List ℕ → Result (Unit {0}) DerError
skip_number content = unsigned content >>= λ n. Ok tt

-- the encoding of an AS number
abbrev pub as_number_octets : ℕ → List ℕ
as_number_octets n = u32_value n
