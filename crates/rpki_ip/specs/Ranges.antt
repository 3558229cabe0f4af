-- Ranges of addresses (RFC 3779, 2.2.3.9).
use Rattle.std.specs.Prelude.{◌≡◌, ◌<◌, ◌≤◌, ◌^◌}
pub use Rattle.rpki_block.specs.Ranges.{RangeValue, range_bounds}
use Rattle.rpki_cover.specs.Prefixes.{PrefixValue, last_of}

-- the range has an address, and its addresses are numbers of 128 bits
pub record IsRange (r : RangeValue) : Type 0 where
  pub ordered : r.min ≤ r.max
  pub below : r.max < 2 ^ 128

-- the addresses of the range are those of the prefix
pub record IsRangeOf (p : PrefixValue) (r : RangeValue) : Type 0 where
  pub begins : r.min ≡ p.first
  pub ends : r.max ≡ last_of 128 p
