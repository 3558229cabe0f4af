-- A text between visible ASCII has no white space at its ends.
use Rattle.rpki_text.proofs.Common.{Bool, List, [], ap, arith, cond, eqb, false, get_or, length, length-append, refl}
use Rattle.rpki_text.proofs.Common.{sym, ℕ, ◌&&◌, ◌++◌, ◌+◌, ◌-◌, ◌<◌, ◌∙◌, ◌∷◌, ◌≡◌, get_or-append-add, nat_tests}
use Rattle.rpki_text.proofs.Common.{append-nil, char_from_byte, chars-encodes, inside_one, len_utf8_bounds}
use Rattle.rpki_text.proofs.Common.{length-encode, encode_utf8, is_whitespace, IsInRange, IsUtf8, chars}
use Rattle.rpki_text.proofs.Common.{drop_trailing_whitespace, encode_utf8_all, skip_leading_whitespace, trim, trim_end}
use Rattle.rpki_text.proofs.Common.{trim_start}

-- a visible byte is no white space
dark : (c : ℕ) → IsInRange 33 126 c → is_whitespace c ≡ false
dark c h = grind (arith, nat_tests)

-- a character is one byte or more
some_bytes : (c : ℕ) → 0 < length (encode_utf8 c)
some_bytes c = omega (arith, length-encode c, (len_utf8_bounds c).0)

-- one before others that stay
stays : (b : Bool) (x : ℕ) (l m : List ℕ) → l ≡ m → 0 < length m → cond (b && eqb (length l) 0) [] (x ∷ l) ≡ x ∷ m
stays b x l m e some = grind (arith, nat_tests)

-- characters whose last byte is visible end with no white space
no_white_end : (cs : List ℕ) → 0 < length cs
    → IsInRange 33 126 (get_or (encode_utf8_all cs) (length (encode_utf8_all cs) - 1) 0)
    → drop_trailing_whitespace cs ≡ cs
no_white_end [] some h = absurd (omega (arith, some))
no_white_end (c ∷ []) some h = grind (arith, append-nil, dark, inside_one, some_bytes)
no_white_end (c ∷ d ∷ more) some h =
    let front = encode_utf8 c in
    let back = encode_utf8_all (d ∷ more) in
    let long : 0 < length back =
    omega (arith, some_bytes d, length-append (encode_utf8 d) (encode_utf8_all more)) in
    let place : length (front ++ back) - 1 ≡ length front + (length back - 1) =
    omega (arith, long, length-append front back) in
    let last = rw (place, get_or-append-add front back (length back - 1) 0) at h in
    stays (is_whitespace c) c _ (d ∷ more) (no_white_end (d ∷ more) (omega arith) last) (omega arith)

-- nor do those whose first byte is visible begin with it
no_white_start : (cs : List ℕ) → 0 < length (encode_utf8_all cs) → IsInRange 33 126 (get_or (encode_utf8_all cs) 0 0)
    → skip_leading_whitespace cs ≡ cs
no_white_start [] some h = refl
no_white_start (c ∷ more) some h = grind (arith, char_from_byte, dark)

-- so a text between visible bytes is trimmed of nothing
pub trim_visible : (text : List ℕ) → IsUtf8 text → 0 < length text → IsInRange 33 126 (get_or text 0 0)
    → IsInRange 33 126 (get_or text (length text - 1) 0) → text ≡ trim text
unfolding trim_start trim_end
trim_visible text u some first last =
    let own : chars text ≡ u.0 = ap chars (sym u.1.1) ∙ chars-encodes u.0 u.1.0 in
    let there : 0 < length u.0 = nonempty u.0 (omega (arith, some, ap length u.1.1)) in
    let front = no_white_start u.0 (omega (arith, some, ap length u.1.1)) (rw u.1.1 first) in
    let back = no_white_end u.0 there (rw u.1.1 last) in
    let same = u.1.1 in
    cc
  where
    nonempty : (cs : List ℕ) → 0 < length (encode_utf8_all cs) → 0 < length cs
    nonempty [] h = absurd (omega (arith, h))
    nonempty (c ∷ cs) h = omega arith
