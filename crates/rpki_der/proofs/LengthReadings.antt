-- Lengths: what the reading answers is what the conditions of X.690 say, and that is how they are spelled.
use Rattle.rpki_der.proofs.Common.{List, Ok, [], arith, get_or, inl, inr, length, refl, ℕ, ◌++◌, ◌-◌, ◌<◌, ◌^◌, ◌∷◌}
use Rattle.rpki_der.proofs.Common.{◌≡◌, ◌≢◌, ◌≤◌, eqb-false, le-ltb, lt-ltb, ltb-false, ne_eqb, or_from, or_parts}
use Rattle.rpki_der.proofs.Common.{drop_at, get_or_append_left, length-append, length-take, take-append-drop, take_at}
use Rattle.rpki_der.proofs.Common.{Front, IsBytes, IsLength, IsLongLength, length_octets, length_at, long_length_at}
use Rattle.rpki_der.proofs.Common.{cases_lt}
use Rattle.rpki_der.proofs.ReadingSteps.{IsBytes-rest, fits_front, passed, ok_is}
use Rattle.rpki_der.proofs.NumberOctets.{octets-big_endian, big_endian-octets, big_endian_small, length-octets}
use Rattle.rpki_der.proofs.NumberOctets.{octets_head}

-- ---- the reading and the conditions

-- a length that is read from further octets meets the conditions
long_says : (first : ℕ) (bytes : List ℕ) (n : ℕ) (rest : List ℕ) → 128 ≤ first
    → long_length_at (first - 128) bytes ≡ Ok (n, rest)
    → (digits : List ℕ) × IsLongLength first digits n × (bytes ≡ digits ++ rest)
unfolding long_length_at
long_says first bytes n rest large e =
    grind (arith, eqb-false, length-take, ltb-false, ok_is, or_parts, passed, take-append-drop)

-- a length that is read meets the conditions
length_says : (bytes : List ℕ) (n : ℕ) (rest : List ℕ) → length_at bytes ≡ Ok (n, rest) → Front IsLength bytes n rest
unfolding length_at
length_says [] n rest e = absurd (grind arith)
length_says (first ∷ bytes) n rest e = elim (cases_lt first 128) [
  | inl low ↦ (first ∷ [], grind (arith, lt-ltb), grind (arith, lt-ltb))
  | inr high ↦
      let (digits, long, split) = long_says first bytes n rest high (grind (arith, le-ltb)) in
      (first ∷ digits, inr long, grind arith)
]

-- octets that begin with no zero are some
has_some : (ds : List ℕ) → get_or ds 0 0 ≢ 0 → 0 < length ds
has_some [] h = absurd (h refl)
has_some (d ∷ ds) h = omega arith

-- a length in further octets that meets the conditions is read
says_long : (first : ℕ) (ds : List ℕ) (n : ℕ) (rest : List ℕ) → IsLongLength first ds n
    → long_length_at (length ds) (ds ++ rest) ≡ Ok (n, rest)
unfolding long_length_at
says_long first ds n rest is =
    grind (arith, drop_at, get_or_append_left, has_some, le-ltb, length-append, ne_eqb, or_from, take_at)

-- a length that meets the conditions is read, whatever follows
says_length : (front : List ℕ) (n : ℕ) (rest : List ℕ) → IsLength front n → length_at (front ++ rest) ≡ Ok (n, rest)
unfolding length_at
says_length [] n rest is = absurd is
says_length (first ∷ digits) n rest is = grind (arith, lt-ltb, le-ltb, says_long first digits n rest)

-- ---- the conditions and the spelling

-- the conditions leave one spelling, of a length below 2 ^ 64
pub length_spelled : (bytes : List ℕ) (n : ℕ) → IsBytes bytes → IsLength bytes n
    → (bytes ≡ length_octets n) × (n < 2 ^ 64)
unfolding length_octets
length_spelled [] n fits is = absurd is
length_spelled (first ∷ digits) n fits is =
    let inside = IsBytes-rest first digits fits in
    grind (arith, big_endian_small, has_some, le-ltb, lt-ltb, octets-big_endian)

-- the spelling meets the conditions
pub spelled_length : (n : ℕ) → n < 2 ^ 64 → IsLength (length_octets n) n
unfolding length_octets
spelled_length n lt =
    grind (arith, cases_lt n 128, big_endian-octets, length-octets, le-ltb, lt-ltb, octets_head)

-- ---- the reading and the spelling

-- a length that is read is spelled so
pub length_takes : (bytes : List ℕ) (n : ℕ) (rest : List ℕ) → IsBytes bytes → length_at bytes ≡ Ok (n, rest)
    → (bytes ≡ length_octets n ++ rest) × (n < 2 ^ 64)
length_takes bytes n rest fits e =
    let (front, says, split) = length_says bytes n rest e in
    grind (arith, length_spelled front n (fits_front front rest (rw split at fits)) says)

-- a length that is spelled so is read, whatever follows
pub length_again : (n : ℕ) (rest : List ℕ) → n < 2 ^ 64 → length_at (length_octets n ++ rest) ≡ Ok (n, rest)
length_again n rest lt = says_length (length_octets n) n rest (spelled_length n lt)
