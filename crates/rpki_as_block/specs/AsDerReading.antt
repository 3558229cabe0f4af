-- Decoding of blocks of AS numbers from left to right, with the first fault.
use Rattle.std.specs.Prelude.{ℕ, Bool, true, not, nat_lt, ◌==◌, if◌then◌else◌, List, Option, Result, Ok, Err}
use Rattle.rpki_block.specs.Beyond.{is_beyond}
use Rattle.rpki_block.specs.Ranges.{RangeValue}
use Rattle.rpki_der.specs.declared.error.DerError.{DerError}
use Rattle.rpki_der.specs.declared.error.DerError.TheVariants.{ReversedRange}
use Rattle.rpki_der.specs.Der.{Tlv}
use Rattle.rpki_der.specs.Reading.{◌>>=◌, passing, refined, unsigned, value_at}
use Rattle.rpki_base.specs.AsnDer.{as_number_at, skip_number}
use Rattle.rpki_der.specs.SequenceReading.{by_tag, pair_in}
use Rattle.rpki_as_block.specs.Blocks.{as_bounds}
use Rattle.rpki_as_block.specs.declared.block.AsBlock.{AsBlock}
use Rattle.rpki_as_block.specs.declared.block.AsBlock.TheVariants.{Id, Range}

-- the range of two numbers, or ReversedRange if the first is above the second
unfoldable pub range_of : ℕ → ℕ → Result RangeValue DerError
range_of min max = if nat_lt max min then Err ReversedRange else Ok (record { min = min; max = max })

-- the range in the content of a SEQUENCE
abbrev pub as_range_in : List ℕ → Result RangeValue DerError
as_range_in = pair_in as_number_at range_of

-- the Id in the content of an INTEGER
abbrev pub as_id_in : List ℕ → Result AsBlock DerError
as_id_in content = unsigned content >>= λ n. Ok (Id n)

-- the Range in the content of a SEQUENCE
abbrev pub as_range_block_in : List ℕ → Result AsBlock DerError
as_range_block_in content = as_range_in content >>= λ r. Ok (Range r)

-- the block of a value, by its tag
abbrev pub as_block_of : Tlv → Result AsBlock DerError
as_block_of = by_tag 2 as_id_in as_range_block_in

-- the block at the front of octets and the octets after it, or the first fault
abbrev pub as_block_at : List ℕ → Result (AsBlock × List ℕ) DerError
as_block_at = refined value_at as_block_of

-- ---- by the mode

-- whether the block is in new form
abbrev pub is_new_form : AsBlock → Bool
is_new_form (Id n) = true
is_new_form (Range r) = not (r.min == r.max)

-- the block at the front of octets; in strict mode it must be in new form
abbrev pub as_block_by : Bool → List ℕ → Result (AsBlock × List ℕ) DerError
as_block_by strict = refined as_block_at (passing strict is_new_form)

-- the block at the front of octets; in strict mode it must be in new form, and begin more than one above the greatest
-- number before it
abbrev pub next_block_by : Bool → Option ℕ → List ℕ → Result (AsBlock × List ℕ) DerError
next_block_by strict before =
    refined (as_block_by strict) (passing strict (λ block. is_beyond before (as_bounds block).0))

-- ---- skipped blocks

-- the content of a SEQUENCE, if it is two numbers in any order
abbrev pub skip_pair : List ℕ → Result (Unit {0}) DerError
skip_pair = pair_in as_number_at (λ first second. Ok tt)

-- a value that is skipped as a block, by its tag
abbrev pub skip_block_of : Tlv → Result (Unit {0}) DerError
skip_block_of = by_tag 2 skip_number skip_pair

-- the octets after the block at the front, or the first fault; the numbers of a range may be in any order
abbrev pub skip_block_at : List ℕ → Result (Unit {0} × List ℕ) DerError
skip_block_at = refined value_at skip_block_of
