-- Blocks of AS numbers (RFC 3779, 3.2.3.5 to 3.2.3.8): their bounds and their form.
use Rattle.std.specs.Prelude.{ℕ, ◌==◌, if◌then◌else◌}
use Rattle.rpki_block.specs.Ranges.{range_bounds, new_range}
use Rattle.rpki_as_block.specs.declared.block.AsBlock.{AsBlock}
use Rattle.rpki_as_block.specs.declared.block.AsBlock.TheVariants.{Id, Range}

-- the least and the greatest number of a block
abbrev pub as_bounds : AsBlock → ℕ × ℕ
as_bounds (Id n) = (n, n)
as_bounds (Range r) = range_bounds r

-- the block with given bounds: an Id if they are the same, or else a Range
abbrev pub new_as_block : ℕ × ℕ → AsBlock
new_as_block b = if b.0 == b.1 then Id b.0 else Range (new_range b)
