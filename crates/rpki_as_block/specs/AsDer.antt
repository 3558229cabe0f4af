-- Blocks of AS numbers in DER (RFC 3779, 3.2.3.5 to 3.2.3.9).
use Rattle.std.specs.Prelude.{◌⊎◌, ℕ, ◌≤◌, ◌<◌, ◌^◌, List, ◌++◌}
use Rattle.rpki_block.specs.Ranges.{RangeValue, range_bounds}
use Rattle.rpki_block.specs.Bounds.{IsNew}
use Rattle.rpki_der.specs.Der.{Both, IsSequence, sequence_value}
use Rattle.rpki_base.specs.AsnDer.{IsAsNumber, as_number_octets}
use Rattle.rpki_as_block.specs.Blocks.{as_bounds, new_as_block}
use Rattle.rpki_as_block.specs.declared.block.AsBlock.{AsBlock}
use Rattle.rpki_as_block.specs.declared.block.AsBlock.TheVariants.{Id, Range}

-- a SEQUENCE of the least number and the greatest, and nothing else; the least isn't above the greatest (3.2.3.8,
-- 3.2.3.9)
abbrev pub IsAsRange : List ℕ → RangeValue → Type 0
IsAsRange bytes r =
    (r.min ≤ r.max) × ((content : List ℕ) × IsSequence bytes content × Both IsAsNumber IsAsNumber content r.min r.max)

-- an AS number or a range (3.2.3.5)
abbrev pub IsAsBlock : List ℕ → AsBlock → Type 0
IsAsBlock bytes (Id n) = IsAsNumber bytes n
IsAsBlock bytes (Range r) = IsAsRange bytes r

-- an AS number, or a SEQUENCE of two in any order
abbrev pub IsBlockInAnyOrder : List ℕ → Unit {0} → Type 0
IsBlockInAnyOrder bytes u =
    ((n : ℕ) × IsAsNumber bytes n) ⊎
    ((content : List ℕ) × IsSequence bytes content
    × ((first : ℕ) × (second : ℕ) × Both IsAsNumber IsAsNumber content first second))

-- ---- encodings

-- the content of a range: the least number and the greatest (3.2.3.8)
abbrev pub as_range_content : ℕ × ℕ → List ℕ
as_range_content b = as_number_octets b.0 ++ as_number_octets b.1

-- the octets of a range: a SEQUENCE of the least number and the greatest (3.2.3.8)
abbrev pub as_range_octets : ℕ × ℕ → List ℕ
as_range_octets b = sequence_value (as_range_content b)

-- the octets of a block: an INTEGER for an Id, and a SEQUENCE for a Range (3.2.3.5)
abbrev pub as_block_octets : AsBlock → List ℕ
as_block_octets (Id n) = as_number_octets n
as_block_octets (Range r) = as_range_octets (range_bounds r)

-- the numbers of a block are in order, and below 2 ^ 32
abbrev pub HasAsNumbers : AsBlock → Type 0
HasAsNumbers x = ((as_bounds x).0 ≤ (as_bounds x).1) × ((as_bounds x).1 < 2 ^ 32)

-- a block that sets have: of numbers below 2 ^ 32, and in new form
pub record IsSetBlock (x : AsBlock) : Type 0 where
  pub ordered : (as_bounds x).0 ≤ (as_bounds x).1
  pub below : (as_bounds x).1 < 2 ^ 32
  pub new_form : IsNew as_bounds new_as_block x
