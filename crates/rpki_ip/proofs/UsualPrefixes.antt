-- Lemmas on prefixes and ranges at the front of octets. Their lengths have one octet.
use Rattle.rpki_ip.proofs.Common.{List, Ok, [], ap, arith, drop, get_or, length, refl, suc, sym, take, zero, ℕ, ◌%◌}
use Rattle.rpki_ip.proofs.Common.{◌*◌, ◌++◌, ◌+◌, ◌-◌, ◌/◌, ◌<◌, ◌^◌, ◌∙◌, ◌∷◌, ◌≡◌, ◌≤◌, le-ltb, lt-ltb, length-append}
use Rattle.rpki_ip.proofs.Common.{length-drop, length-take, append_assoc, shr-shr, IsBytes, IsBytes-rest, IsSequence}
use Rattle.rpki_ip.proofs.Common.{big_endian, big_endian_after, refined, header, length_octets, PrefixValue}
use Rattle.rpki_ip.proofs.Common.{cleared, last_of, prefix_at, range_in, prefix_in, prefix_of, bits, RangeValue}
use Rattle.rpki_ip.proofs.Common.{IsPrefixDer}
use Rattle.std.proofs.Math.Seq.{take-length}
use Rattle.std.proofs.lemmas.Bool.{ne_eqb}
use Rattle.rpki_der.proofs.ValueReadings.{fits_rest}
use Rattle.rpki_der.specs.Reading.{length_at, tagged_at, value_at}
use Rattle.rpki_ip.proofs.PrefixBits.{used_bits}
use Rattle.rpki_ip.proofs.PrefixDerReadings.{prefix_reading, range_reading}

-- ---- the first of the octets

-- removing the bits of the appended octets gives the number before them
without_octets : (xs : List ℕ) (n : ℕ) → IsBytes xs → big_endian_after n xs / 2 ^ (8 * length xs) ≡ n
without_octets [] n fits = omega arith
without_octets (x ∷ xs) n fits =
    let digit : x < 256 = fits 0 in
    let rest = without_octets xs (n * 256 + x) (IsBytes-rest x xs fits) in
    let bits : 8 * suc (length xs) ≡ 8 * length xs + 8 = omega arith in
    let last : (n * 256 + x) / 2 ^ 8 ≡ n = omega arith in
    ap (λ k. big_endian_after (n * 256 + x) xs / 2 ^ k) bits
    ∙ sym (shr-shr (big_endian_after (n * 256 + x) xs) (8 * length xs) 8)
    ∙ ap (λ m. m / 2 ^ 8) rest ∙ last

-- the first k octets give the highest bits
first_after : (k : ℕ) (xs : List ℕ) (n : ℕ) → IsBytes xs → k ≤ length xs
    → big_endian_after n xs / 2 ^ (8 * (length xs - k)) ≡ big_endian_after n (take k xs)
first_after zero xs n fits le =
    let count : length xs - 0 ≡ length xs = omega arith in
    ap (λ j. big_endian_after n xs / 2 ^ (8 * j)) count ∙ without_octets xs n fits
first_after (suc k) [] n fits le = absurd (omega arith)
first_after (suc k) (x ∷ xs) n fits le =
    let count : suc (length xs) - suc k ≡ length xs - k = omega arith in
    ap (λ j. big_endian_after (n * 256 + x) xs / 2 ^ (8 * j)) count
    ∙ first_after k xs (n * 256 + x) (IsBytes-rest x xs fits) (omega arith)

-- the first k octets give the highest bits of an address
pub first_octets_of : (xs : List ℕ) (k : ℕ) → IsBytes xs → length xs ≤ 16 → k ≤ length xs
    → big_endian xs * 2 ^ (128 - 8 * length xs) / 2 ^ (128 - 8 * k) ≡ big_endian (take k xs)
first_octets_of xs k fits le short =
    used_bits (big_endian xs) (128 - 8 * length xs) (8 * (length xs - k)) (128 - 8 * k) (omega arith)
    ∙ first_after k xs 0 fits short

-- the first n octets are octets
pub fits_take : (n : ℕ) (xs : List ℕ) → IsBytes xs → IsBytes (take n xs)
fits_take zero xs fits i = omega arith
fits_take (suc n) [] fits i = omega arith
fits_take (suc n) (x ∷ xs) fits zero = fits 0
fits_take (suc n) (x ∷ xs) fits (suc i) = fits_take n xs (IsBytes-rest x xs fits) i

-- ---- a prefix

-- a value whose length has one octet
pub short_value_at : (tag count : ℕ) (content : List ℕ) → tag % 32 < 31 → count < 128 → count ≤ length content
    → value_at (tag ∷ count ∷ content) ≡ Ok (record { tag = tag; content = take count content }, drop count content)
unfolding value_at length_at
short_value_at tag count content low short le = grind (arith, le-ltb, lt-ltb, ne_eqb)

-- the bits after the first of an address are those that are not used
first_bits_of : (addr n count unused : ℕ) → unused ≤ 8 * count → 8 * count ≤ 128
    → addr / 2 ^ (128 - 8 * count) ≡ n → addr / 2 ^ (128 - (8 * count - unused)) ≡ n / 2 ^ unused
first_bits_of addr n count unused le few is =
    let behind : 128 - (8 * count - unused) ≡ (128 - 8 * count) + unused = omega arith in
    ap (λ k. addr / 2 ^ k) behind ∙ sym (shr-shr addr (128 - 8 * count) unused) ∙ ap (λ m. m / 2 ^ unused) is

-- the bits of a prefix
bits_at : (limit unused addr : ℕ) (octets : List ℕ) → unused ≤ 7 → unused ≤ 8 * length octets
    → 8 * length octets - unused ≤ limit → limit ≤ 128
    → addr / 2 ^ (128 - 8 * length octets) ≡ big_endian octets
    → prefix_in limit (unused ∷ octets)
    ≡ Ok (record { first = cleared 128 addr (8 * length octets - unused); len = 8 * length octets - unused })
unfolding prefix_in bits prefix_of
bits_at limit unused addr octets few le short within is =
    let all : 8 * length octets ≤ 128 = omega arith in
    let number = first_bits_of addr (big_endian octets) (length octets) unused le all is in
    grind (arith, le-ltb)

-- a prefix whose length has one octet
pub usual_prefix_at : (limit count unused addr : ℕ) (after : List ℕ) → limit ≤ 128 → unused ≤ 7 → unused ≤ 8 * count
    → 8 * count - unused ≤ limit → count ≤ length after
    → addr / 2 ^ (128 - 8 * count) ≡ big_endian (take count after)
    → prefix_at limit (3 ∷ suc count ∷ unused ∷ after)
    ≡ Ok (record { first = cleared 128 addr (8 * count - unused); len = 8 * count - unused }, drop count after)
unfolding refined tagged_at
usual_prefix_at limit count unused addr after within few le short enough is =
    let value = short_value_at 3 (suc count) (unused ∷ after) (omega arith) (omega arith) (omega arith) in
    let len : length (take count after) ≡ count = omega (arith, length-take count after) in
    let octets = take count after in
    let read = bits_at limit unused addr octets few (omega arith) (omega arith) within (rw len is) in
    grind arith

-- ---- a range

-- a range whose length has one octet
pub usual_range_at : (limit len : ℕ) (content r s : List ℕ) (p q : PrefixValue) → IsBytes content → len < 128
    → len ≤ length content → prefix_at limit content ≡ Ok (p, r) → prefix_at limit r ≡ Ok (q, s)
    → length s ≡ length content - len → p.first ≤ last_of 128 q
    → refined (tagged_at 48) (range_in limit) (48 ∷ len ∷ content)
    ≡ Ok (record { min = p.first; max = last_of 128 q }, s)
unfolding header length_octets
usual_range_at limit len content r s p q fits short enough one two ends ordered =
    let (f, is_p, at_p) = (prefix_reading limit).takes content p r fits one in
    let inside = fits_rest (IsPrefixDer limit) content p r (f, is_p, at_p) fits in
    let (g, is_q, at_q) = (prefix_reading limit).takes r q s inside two in
    let both : content ≡ (f ++ g) ++ s = at_p ∙ ap (λ t. f ++ t) at_q ∙ sym (append_assoc f g s) in
    let count : length (f ++ g) ≡ len =
    omega (arith, ap (λ (t : List ℕ). length t) both, length-append (f ++ g) s) in
    let is : IsSequence (48 ∷ len ∷ (f ++ g)) (f ++ g) = record {
      has_tag = omega arith;
      short = omega arith;
      spelled = grind (arith, lt-ltb);
    } in
    let range : RangeValue = record { min = p.first; max = last_of 128 q } in
    ap (λ t. refined (tagged_at 48) (range_in limit) (48 ∷ len ∷ t)) both
    ∙ (range_reading limit).again (48 ∷ len ∷ (f ++ g)) range s
    (f ++ g, is, (p, q, (g, (f, is_p, refl), is_q), record { begins = refl; ends = refl; ordered = ordered }))

-- ---- octets at the front

-- the octets from an index on
pub behind : (n : ℕ) (xs : List ℕ) → take (length xs - n) (drop n xs) ≡ drop n xs
behind n xs = ap (λ k. take k (drop n xs)) (sym (length-drop n xs)) ∙ take-length (drop n xs)

-- three octets and those after them
pub three_and_more : (xs : List ℕ) → 3 ≤ length xs
    → xs ≡ get_or xs 0 0 ∷ get_or xs 1 0 ∷ get_or xs 2 0 ∷ take (length xs - 3) (drop 3 xs)
three_and_more [] le = absurd (omega arith)
three_and_more (a ∷ []) le = absurd (omega arith)
three_and_more (a ∷ b ∷ []) le = absurd (omega arith)
three_and_more (a ∷ b ∷ c ∷ xs) le = ap (λ (t : List ℕ). a ∷ b ∷ c ∷ t) (sym (behind 3 (a ∷ b ∷ c ∷ xs)))

-- two octets and those after them
pub two_and_more : (xs : List ℕ) → 2 ≤ length xs
    → xs ≡ get_or xs 0 0 ∷ get_or xs 1 0 ∷ take (length xs - 2) (drop 2 xs)
two_and_more [] le = absurd (omega arith)
two_and_more (a ∷ []) le = absurd (omega arith)
two_and_more (a ∷ b ∷ xs) le = ap (λ (t : List ℕ). a ∷ b ∷ t) (sym (behind 2 (a ∷ b ∷ xs)))
