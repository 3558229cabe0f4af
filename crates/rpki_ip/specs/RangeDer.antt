-- A range of addresses in DER (RFC 3779, 2.2.3.9).
use Rattle.std.specs.Prelude.{◌≡◌, ℕ, ◌+◌, ◌-◌, ◌%◌, ◌^◌, ◌≤◌, Bool, ◌==◌, ◌&&◌, List, ◌++◌, Result, Ok, Err, nat_lt}
use Rattle.std.specs.Prelude.{if◌then◌else◌}
use Rattle.std.specs.Int.{w128, trailing_zeros, trailing_ones}
use Rattle.rpki_cover.specs.Prefixes.{PrefixValue, IsPrefix, last_of}
use Rattle.rpki_der.specs.SequenceReading.{SaysPair, pair_in}
use Rattle.rpki_der.specs.declared.error.DerError.{DerError}
use Rattle.rpki_der.specs.declared.error.DerError.TheVariants.{ReversedRange}
use Rattle.rpki_der.specs.Der.{IsSequence, Refines, sequence_value}
use Rattle.rpki_ip.specs.PrefixDer.{IsPrefixDer, prefix_at, prefix_der}
use Rattle.rpki_ip.specs.Ranges.{RangeValue, IsRange}

-- The range r goes from the first address of the prefix p to the last address of the prefix q. RFC 3779, 2.2.3.9,
-- writes the least address without zero bits at its end, as p, and the greatest without one bits at its end, as q.
pub record IsSpan (p q : PrefixValue) (r : RangeValue) : Type 0 where
  pub begins : r.min ≡ p.first
  pub ends : r.max ≡ last_of 128 q
  pub ordered : r.min ≤ r.max

-- the content is two prefixes and nothing else, and denotes their range; limit is the maximum length of each prefix
abbrev pub SaysRange : ℕ → List ℕ → RangeValue → Type 0
SaysRange limit = SaysPair (IsPrefixDer limit) IsSpan

-- the octets are a SEQUENCE of two prefixes that denotes their range (RFC 3779, 2.2.3.9)
abbrev pub IsRangeDer : ℕ → List ℕ → RangeValue → Type 0
IsRangeDer limit = Refines IsSequence (SaysRange limit)

-- ---- encodings

-- the prefix of an address without the zero bits at the address's end
abbrev pub without_end_zeros : ℕ → PrefixValue
without_end_zeros a = record { first = a; len = 128 - trailing_zeros w128 a }

-- the prefix of an address without the one bits at the address's end
abbrev pub without_end_ones : ℕ → PrefixValue
without_end_ones a = record { first = a + 1 - 2 ^ trailing_ones w128 a; len = 128 - trailing_ones w128 a }

-- the content of the encoding of a range: the prefix of its least address, and the prefix of its greatest
abbrev pub range_content : RangeValue → List ℕ
range_content r = prefix_der (without_end_zeros r.min) ++ prefix_der (without_end_ones r.max)

-- the encoding of a range as a SEQUENCE (RFC 3779, 2.2.3.9)
abbrev pub range_der : RangeValue → List ℕ
range_der r = sequence_value (range_content r)

-- whether p and q have the lengths of the two prefixes in the encoding of the range r
abbrev pub is_written_as : RangeValue → PrefixValue → PrefixValue → Bool
is_written_as r p q = (p.len == (without_end_zeros r.min).len) && (q.len == (without_end_ones r.max).len)

-- ---- the shortest prefixes of an address

-- the shortest prefix whose first address is a
pub record IsShortestFrom (a : ℕ) (p : PrefixValue) : Type 0 where
  pub is_prefix : IsPrefix 128 p
  pub begins : p.first ≡ a
  pub shortest : (q : PrefixValue) → IsPrefix 128 q → q.first ≡ a → p.len ≤ q.len

-- the shortest prefix whose last address is a
pub record IsShortestTo (a : ℕ) (p : PrefixValue) : Type 0 where
  pub is_prefix : IsPrefix 128 p
  pub ends : last_of 128 p ≡ a
  pub shortest : (q : PrefixValue) → IsPrefix 128 q → last_of 128 q ≡ a → p.len ≤ q.len

-- ---- the ranges of a family

-- the least address is limit bits followed by zeros, and the greatest is limit bits followed by ones
pub record IsRangeWithin (limit : ℕ) (r : RangeValue) : Type 0 where
  pub is_range : IsRange r
  pub zeros : r.min % 2 ^ (128 - limit) ≡ 0
  pub ones : (r.max + 1) % 2 ^ (128 - limit) ≡ 0

-- ---- reading

-- reads two prefixes as the range from the first to the second: ReversedRange if the second ends before the first
-- begins
unfoldable pub span_of : PrefixValue → PrefixValue → Result RangeValue DerError
span_of p q =
    if nat_lt (last_of 128 q) p.first then Err ReversedRange else Ok (record { min = p.first; max = last_of 128 q })

-- reads the content of the SEQUENCE of a range
abbrev pub range_in : ℕ → List ℕ → Result RangeValue DerError
range_in limit = pair_in (prefix_at limit) span_of
