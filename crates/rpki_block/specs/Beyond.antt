-- The numbers at which a block may begin that follows another block in a chain.
use Rattle.std.specs.Prelude.{ℕ, ◌+◌, ◌<◌, Bool, true, nat_lt, Option, Some, None}

-- n is more than one above the greatest number of the block before, or there is no block before (RFC 3779, 2.2.3.6 and
-- 3.2.3.4)
abbrev pub IsBeyond : Option ℕ → ℕ → Type 0
IsBeyond None n = Unit {0}
IsBeyond (Some greatest) n = greatest + 1 < n

-- whether IsBeyond holds
abbrev pub is_beyond : Option ℕ → ℕ → Bool
is_beyond None n = true
is_beyond (Some greatest) n = nat_lt (greatest + 1) n
