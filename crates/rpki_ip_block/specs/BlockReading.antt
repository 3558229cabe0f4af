-- Reading blocks of addresses from left to right, with the first fault (RFC 3779, 2.2.3.7).
use Rattle.std.specs.Prelude.{ℕ, Bool, true, false, ◌&&◌, List, Option, Result, Ok}
use Rattle.rpki_der.specs.SequenceReading.{by_tag, pair_by, sequence_of}
use Rattle.rpki_cover.specs.Prefixes.{PrefixValue, last_of}
use Rattle.rpki_block.specs.Beyond.{is_beyond}
use Rattle.rpki_der.specs.declared.error.DerError.{DerError}
use Rattle.rpki_der.specs.Der.{Tlv}
use Rattle.rpki_der.specs.Reading.{◌>>=◌, passing, refined, value_at}
use Rattle.rpki_ip.specs.PrefixDer.{prefix_by, prefix_in, prefix_in_by}
use Rattle.rpki_ip.specs.RangeDer.{is_written_as, range_in, span_of}
use Rattle.rpki_ip.specs.Ranges.{RangeValue, range_bounds}
use Rattle.rpki_ip_block.specs.Blocks.{ip_bounds, new_ip_block}
use Rattle.rpki_ip_block.specs.declared.block.IpBlock.{IpBlock}
use Rattle.rpki_ip_block.specs.declared.block.IpBlock.TheVariants.{Prefix, Range}

-- reads the content of a BIT STRING as a block: a Prefix
abbrev pub prefix_block_in : ℕ → List ℕ → Result IpBlock DerError
prefix_block_in limit content = prefix_in limit content >>= λ p. Ok (Prefix p)

-- reads the content of a SEQUENCE as a block: a Range
abbrev pub range_block_in : ℕ → List ℕ → Result IpBlock DerError
range_block_in limit content = range_in limit content >>= λ r. Ok (Range r)

-- reads a value as a block by its tag: 3 (BIT STRING) or 48 (SEQUENCE)
abbrev pub ip_block_of : ℕ → Tlv → Result IpBlock DerError
ip_block_of limit = by_tag 3 (prefix_block_in limit) (range_block_in limit)

-- reads the block at the front of octets, and returns the octets after it
abbrev pub ip_block_at : ℕ → List ℕ → Result (IpBlock × List ℕ) DerError
ip_block_at limit = refined value_at (ip_block_of limit)

-- reads the SEQUENCE of blocks at the front of octets
abbrev pub ip_blocks_at : ℕ → List ℕ → Result (List IpBlock × List ℕ) DerError
ip_blocks_at limit = sequence_of (ip_block_at limit)

-- ---- strict and lenient mode

-- whether the block is a Range
abbrev pub is_range : IpBlock → Bool
is_range (Prefix p) = false
is_range (Range r) = true

-- the range from the first prefix to the second
abbrev pub span : PrefixValue → PrefixValue → RangeValue
span p q = record { min = p.first; max = last_of 128 q }

-- whether the prefixes are those of the encoding of their range, and no prefix has exactly its addresses
abbrev pub is_set_range : PrefixValue → PrefixValue → Bool
is_set_range p q = is_written_as (span p q) p q && is_range (new_ip_block (range_bounds (span p q)))

-- reads the content of a SEQUENCE as a range, in either mode: strict mode also requires `is_set_range`
abbrev pub range_in_by : Bool → ℕ → List ℕ → Result RangeValue DerError
range_in_by strict limit = pair_by strict (prefix_by strict limit) span_of is_set_range

-- reads the content of a BIT STRING as a block, in either mode
abbrev pub prefix_block_in_by : Bool → ℕ → List ℕ → Result IpBlock DerError
prefix_block_in_by strict limit content = prefix_in_by strict limit content >>= λ p. Ok (Prefix p)

-- reads the content of a SEQUENCE as a block, in either mode
abbrev pub range_block_in_by : Bool → ℕ → List ℕ → Result IpBlock DerError
range_block_in_by strict limit content = range_in_by strict limit content >>= λ r. Ok (Range r)

-- reads a value as a block by its tag, in either mode
abbrev pub ip_block_of_by : Bool → ℕ → Tlv → Result IpBlock DerError
ip_block_of_by strict limit = by_tag 3 (prefix_block_in_by strict limit) (range_block_in_by strict limit)

-- reads the block at the front of octets, in either mode
abbrev pub ip_block_by : Bool → ℕ → List ℕ → Result (IpBlock × List ℕ) DerError
ip_block_by strict limit = refined value_at (ip_block_of_by strict limit)

-- reads the next block: in strict mode it also begins more than one above the greatest address of the block before
abbrev pub next_ip_block_by : Bool → ℕ → Option ℕ → List ℕ → Result (IpBlock × List ℕ) DerError
next_ip_block_by strict limit before =
    refined (ip_block_by strict limit) (passing strict (λ block. is_beyond before (ip_bounds block).0))
