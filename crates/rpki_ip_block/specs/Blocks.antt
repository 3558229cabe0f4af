-- Blocks of addresses (RFC 3779, 2.2.3.7 to 2.2.3.9): their bounds and their form.
use Rattle.std.specs.Prelude.{ℕ, zero, suc, ◌+◌, ◌-◌, ◌%◌, ◌^◌, Bool, ◌==◌, ◌&&◌, if◌then◌else◌, Option, Some, None}
use Rattle.rpki_cover.specs.Prefixes.{PrefixValue, last_of}
use Rattle.rpki_ip.specs.Ranges.{range_bounds}
use Rattle.rpki_ip_block.specs.declared.block.IpBlock.{IpBlock}
use Rattle.rpki_ip_block.specs.declared.block.IpBlock.TheVariants.{Prefix, Range}

-- the least and the greatest address of a prefix
abbrev pub prefix_bounds : PrefixValue → ℕ × ℕ
prefix_bounds p = (p.first, last_of 128 p)

-- the least and the greatest address of a block
abbrev pub ip_bounds : IpBlock → ℕ × ℕ
ip_bounds (Prefix p) = prefix_bounds p
ip_bounds (Range r) = range_bounds r

-- whether the addresses from b.0 to b.1 are those of a prefix of length len: 2 ^ (128 - len) addresses, from a multiple
-- of this number on
unfoldable pub has_length : ℕ × ℕ → ℕ → Bool
has_length b len = (b.0 % 2 ^ (128 - len) == 0) && (b.0 + 2 ^ (128 - len) == b.1 + 1)

-- the maximum length up to n of a prefix with exactly these addresses, if there is such a prefix
unfoldable pub length_upto : ℕ → ℕ × ℕ → Option ℕ
length_upto zero b = if has_length b zero then Some zero else None
length_upto (suc n) b = if has_length b (suc n) then Some (suc n) else length_upto n b

-- the length of the prefix with exactly these addresses, if there is such a prefix
unfoldable pub length_of : ℕ × ℕ → Option ℕ
length_of b = length_upto 128 b

-- the block of bounds and of the length that is found for them: a Prefix if there is a length, and otherwise a Range
abbrev pub block_from : ℕ × ℕ → Option ℕ → IpBlock
block_from b (Some len) = Prefix (record { first = b.0; len = len })
block_from b None = Range (record { min = b.0; max = b.1 })

-- the block of given bounds: a Prefix if its addresses are those of a prefix, and otherwise a Range (RFC 3779, 2.2.3.7)
abbrev pub new_ip_block : ℕ × ℕ → IpBlock
new_ip_block b = block_from b (length_of b)
