-- The readings find the families, prefixes and ranges of the grammars, whatever follows them, and no others.
use Rattle.rpki_ip.proofs.Common.{Ok, arith, ℕ, ◌≡◌, PrefixValue, bits_check, IsTagged, content_reading, on_bytes}
use Rattle.rpki_ip.proofs.Common.{same_reading, IsCheck, bind_ok, IsBits, IsBytes, Refines, IsReading, refined}
use Rattle.rpki_ip.proofs.Common.{tagged_at, IsPrefixContent, IsPrefixDer, SaysPrefix, prefix_at, prefix_in, prefix_of}
use Rattle.rpki_ip.proofs.Common.{IsRangeDer, IsSpan, SaysRange, range_in, span_of, RangeValue}
use Rattle.rpki_der.proofs.SequenceReadings.{pair_check}

-- ---- prefixes

-- a prefix that is read is said by the bits, and one that bits say is read
pub bits_prefix_check : (limit : ℕ) → IsCheck IsBits (SaysPrefix limit) (prefix_of limit)
unfolding prefix_of
bits_prefix_check limit = record { takes = λ b p is e. grind arith; again = λ b p says. grind arith }

-- so is one of a content
pub prefix_check : (limit : ℕ) → IsCheck (λ _. Unit {0}) (IsPrefixContent limit) (prefix_in limit)
unfolding prefix_in
prefix_check limit = record {
  takes = λ content p fits e. grind (arith, bind_ok, bits_check.takes, (bits_prefix_check limit).takes);
  again = λ content p (b, is, says). rw (bits_check.again content b is) ((bits_prefix_check limit).again b p says);
}

-- a BIT STRING of a prefix
pub prefix_reading : (limit : ℕ) → IsReading (IsPrefixDer limit) (prefix_at limit)
prefix_reading limit =
    same_reading (Refines (IsTagged 3) (IsPrefixContent limit)) (IsPrefixDer limit) (prefix_at limit)
    (λ bytes p fits is. grind arith) (λ bytes p is. grind arith)
    (content_reading 3 (IsPrefixContent limit) (prefix_in limit) (on_bytes (prefix_check limit)))

-- ---- ranges

-- a range that is read is the span of its prefixes
pub span_says : (p q : PrefixValue) (r : RangeValue) → span_of p q ≡ Ok r → IsSpan p q r
unfolding span_of
span_says p q r e = grind arith

-- and the span of two prefixes is read
pub span_again : (p q : PrefixValue) (r : RangeValue) → IsSpan p q r → span_of p q ≡ Ok r
unfolding span_of
span_again p q r is = grind arith

-- the content of a range
pub range_check : (limit : ℕ) → IsCheck IsBytes (SaysRange limit) (range_in limit)
range_check limit =
    pair_check (IsPrefixDer limit) IsSpan (prefix_at limit) span_of (prefix_reading limit) span_says span_again

-- the SEQUENCE of a range
pub range_reading : (limit : ℕ) → IsReading (IsRangeDer limit) (refined (tagged_at 48) (range_in limit))
range_reading limit = content_reading 48 (SaysRange limit) (range_in limit) (range_check limit)
