-- Contents: what the reading answers is what the conditions of X.690 say, and that is how they are spelled.
use Rattle.rpki_der.proofs.Common.{List, [], arith, drop, length, refl, suc, zero, ℕ, ◌-◌, ◌<◌, ◌^◌, ◌∷◌, ◌≡◌, ◌≤◌}
use Rattle.rpki_der.proofs.Common.{cases_lt, eqb-false, le-ltb, leb-false, lt-leb, lt-ltb, ltb-false, ltb-true, ne_eqb}
use Rattle.rpki_der.proofs.Common.{or_from, or_parts, drop_at, length-append, bytes_high_first, to_be_bytes, w64}
use Rattle.rpki_der.proofs.Common.{IsBitContent, IsBytes, IsNothing, IsUnsigned, big_endian, integer, octets, with_sign}
use Rattle.rpki_der.proofs.Common.{bits, nothing, unsigned}
use Rattle.rpki_der.proofs.ReadingSteps.{IsCheck, IsBytes-rest, passed, passed_true, ok_is, one_false}
use Rattle.rpki_der.proofs.NumberOctets.{octets-big_endian, big_endian-octets, octets-zero, octets_head}
use Rattle.rpki_der.proofs.NumberOctets.{length-without_zeros}

-- ---- an integer: the reading and the conditions

pub unsigned_check : IsCheck (λ _. Unit {0}) IsUnsigned unsigned
unfolding unsigned
unsigned_check = record {
  takes = λ content n fits e.
      grind (arith, eqb-false, leb-false, lt-ltb, ltb-false, ltb-true, ok_is, one_false, or_parts, passed, passed_true);
  again = λ content n is. grind (arith, le-ltb, lt-leb, lt-ltb, ne_eqb, or_from);
}

-- ---- an integer: the conditions and the spelling

-- the conditions leave one spelling, by the first octets
spelled_of : (content : List ℕ) → IsBytes content → IsUnsigned content (big_endian content)
    → content ≡ integer (big_endian content)
unfolding integer
spelled_of [] fits is = absurd (omega (arith, is.some))
spelled_of (zero ∷ []) fits is = rw octets-zero refl
spelled_of (zero ∷ b ∷ bs) fits is =
    let inside = IsBytes-rest 0 (b ∷ bs) fits in grind (arith, le-ltb, octets-big_endian (b ∷ bs))
spelled_of (suc b ∷ bs) fits is = grind (arith, lt-ltb, octets-big_endian (suc b ∷ bs))

-- the conditions leave one spelling
pub unsigned_spelled : (content : List ℕ) (n : ℕ) → IsBytes content → IsUnsigned content n → content ≡ integer n
unsigned_spelled content n fits is = grind (arith, spelled_of)

-- the four high octets of a number of 32 bits are zero
high_zero : (n : ℕ) → n < 2 ^ 32 → to_be_bytes w64 n ≡ 0 ∷ 0 ∷ 0 ∷ 0 ∷ bytes_high_first 4 n
high_zero n lt = grind arith

-- so it has four octets at most
length-octets_32 : (n : ℕ) → n < 2 ^ 32 → length (octets n) ≤ 4
unfolding octets
length-octets_32 n lt = rw (high_zero n lt) (length-without_zeros (bytes_high_first 4 n))

-- the same for a number, which may have no octets
says_spelled : (n : ℕ) (ds : List ℕ) → n < 2 ^ 32 → octets n ≡ ds → IsUnsigned (with_sign ds) n
says_spelled n [] lt is = grind (arith, big_endian-octets n)
says_spelled n (d ∷ ds) lt is =
    grind (arith, cases_lt, octets-zero, octets_head, length-octets_32 n, big_endian-octets n)

-- the spelling meets the conditions
pub spelled_unsigned : (n : ℕ) → n < 2 ^ 32 → IsUnsigned (integer n) n
unfolding integer
spelled_unsigned n lt = says_spelled n (octets n) lt refl

-- an INTEGER of 32 bits has a content of five octets at most
pub length-integer : (n : ℕ) → n < 2 ^ 32 → length (integer n) ≤ 5
length-integer n lt = (spelled_unsigned n lt).few

-- an INTEGER of 32 bits is the end of the number's eight octets
pub integer-end : (n : ℕ) → n < 2 ^ 32 → drop (8 - length (integer n)) (to_be_bytes w64 n) ≡ integer n
unfolding integer octets
integer-end n lt = grind (arith, drop_at, high_zero, length-append)

pub ruleset integer_octets = (integer-end)

-- ---- bit strings and NULL

pub bits_check : IsCheck (λ _. Unit {0}) IsBitContent bits
unfolding bits
bits_check = record {
  takes = λ content b fits e. grind (arith, ltb-false, ok_is, or_parts, passed);
  again = λ content b is. grind (arith, le-ltb);
}

pub nothing_check : IsCheck (λ _. Unit {0}) IsNothing nothing
unfolding nothing
nothing_check = record { takes = λ content u fits e. grind arith; again = λ content u is. rw is refl }
