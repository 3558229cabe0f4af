-- Prefixes in either mode: strictly, the octets are those that are written of them.
use Rattle.rpki_ip.proofs.Common.{Bool, Err, List, Ok, Result, [], ap, arith, cond, drop, false, get_or, length, refl}
use Rattle.rpki_ip.proofs.Common.{subst, suc, sym, true, zero, ℕ, ◌%◌, ◌*◌, ◌++◌, ◌+◌, ◌-◌, ◌/◌, ◌<◌, ◌^◌, ◌∙◌, ◌∷◌}
use Rattle.rpki_ip.proofs.Common.{◌≡◌, ◌≤◌, mul-div_cancel, mul_assoc, and_parts, eqb-true, le-leb, le-ltb, leb-true}
use Rattle.rpki_ip.proofs.Common.{lt-ltb, ltb-false, ltb-true, or_from, or_parts, take-append-drop, pow-add, pow_pos}
use Rattle.rpki_ip.proofs.Common.{shr_split, bytes_high_first, to_be_bytes, w128, IsPrefix, PrefixValue, bits_of}
use Rattle.rpki_ip.proofs.Common.{mod_multiple, multiple_gap, multiple_mod, multiple_self, multiple_smaller}
use Rattle.rpki_ip.proofs.Common.{multiple_sum, bits_check, bind_tightens, is_padded_of, looked_tightens, padded_is}
use Rattle.rpki_ip.proofs.Common.{passed_is, passes, then_passing, IsTagged, content_reading, fits_content, on_bytes}
use Rattle.rpki_ip.proofs.Common.{same_reading, IsBytes-rest, IsCheck, bind_ok, fits_front, value_is, Bits, IsBits}
use Rattle.rpki_ip.proofs.Common.{IsBytes, IsPadded, Refines, Spells, big_endian, big_endian_after, bit_content}
use Rattle.rpki_ip.proofs.Common.{bit_string_value, last_octet, IsModal, IsReading, Tightens, bits, bits_by, is_padded}
use Rattle.rpki_ip.proofs.Common.{passing, ◌>>=◌, Takes, is_strict, left, DerError, BadPrefix, IsPrefixWithin}
use Rattle.rpki_ip.proofs.Common.{IsStrictContent, SaysPrefix, is_longer, octet_count, prefix_at, prefix_bits}
use Rattle.rpki_ip.proofs.Common.{prefix_by, prefix_der, prefix_in, prefix_in_by, prefix_of, prefix_of_by}
use Rattle.rpki_ip.proofs.Common.{IsRangeWithin, IsSpan, RangeValue, exact_by, parses_by, reads_by, refused_by}
use Rattle.rpki_ip.proofs.Common.{refused_in, same_found, Gives, content_octets, is_strict_in, IsPrefixContent}
use Rattle.rpki_ip.proofs.Common.{IsPrefixDer, Lenient, LenientIn, NotCanonicalInOr, NotCanonicalOr, Parses, ReadsValue}
use Rattle.rpki_ip.proofs.Common.{Strict, StrictIn, mul-add-mod_self_right, zero-div, field_of}
use Rattle.rpki_der.specs.declared.cursor.Cursor.{Cursor}
use Rattle.rpki_der.specs.declared.family.AddressFamily.{AddressFamily}
use Rattle.rpki_der.proofs.SequenceModes.{value_back_by}
use Rattle.rpki_ip.proofs.PrefixDerReadings.{bits_prefix_check, prefix_check, prefix_reading}
use Rattle.rpki_der.specs.declared.content.Content.{Content}
use Rattle.rpki_ip.specs.PrefixDer.{IsStrictPrefix}
use Rattle.rpki_ip.proofs.PrefixBits.{bits_few, bits_fit, bits_say, byte_is, first_bits, said_prefix}

-- addresses of a family have 128 bits at most
pub bits_few_enough : (family : AddressFamily) → bits_of family ≤ 128
bits_few_enough family = grind (arith)

-- ---- the reading

-- a content
pub strict_content_check : (limit : ℕ) → IsCheck (λ _. Unit {0}) (IsStrictContent limit) (prefix_in_by true limit)
unfolding prefix_in_by prefix_of_by
strict_content_check limit = record {
  takes = λ content p fits e.
      grind (arith, bind_ok, bits_check.takes, (bits_prefix_check limit).takes, padded_is, passed_is);
  again =
      λ content p (b, (is, padded), says). rw (bits_check.again content b is, (bits_prefix_check limit).again b p says)
      (passes (λ p. is_padded b) p (is_padded_of b padded));
}

pub content_tightens : (strict : Bool) (limit : ℕ) (content : List ℕ)
    → Tightens strict (prefix_in_by strict limit content) (prefix_in limit content)
unfolding prefix_in prefix_in_by prefix_of_by
content_tightens strict limit content = grind (arith, bind_tightens, then_passing)

-- a BIT STRING
pub prefix_modal : (limit : ℕ) → IsModal (IsStrictPrefix limit) (prefix_at limit) (λ strict. prefix_by strict limit)
prefix_modal limit = record {
  tight =
      same_reading (Refines (IsTagged 3) (IsStrictContent limit)) (IsStrictPrefix limit) (prefix_by true limit)
      (λ bytes p fits is. grind arith) (λ bytes p is. grind arith)
      (content_reading 3 (IsStrictContent limit) (prefix_in_by true limit) (on_bytes (strict_content_check limit)));
  tightens = λ strict.
      looked_tightens strict _ (prefix_in_by strict limit) (prefix_in limit) (content_tightens strict limit);
}

-- ---- the octets

-- octets by the number that they spell
same_octets : (n m : ℕ) (xs ys : List ℕ) → IsBytes xs → IsBytes ys → length xs ≡ length ys
    → big_endian_after n xs ≡ big_endian_after m ys → (n ≡ m) × (xs ≡ ys)
same_octets n m [] [] f g l e = (e, refl)
same_octets n m [] (y ∷ ys) f g l e = absurd (omega arith)
same_octets n m (x ∷ xs) [] f g l e = absurd (omega arith)
same_octets n m (x ∷ xs) (y ∷ ys) f g l e =
    let rest =
    same_octets (n * 256 + x) (m * 256 + y) xs ys (IsBytes-rest x xs f) (IsBytes-rest y ys g) (omega arith) e in
    let a : x < 256 = f 0 in
    let b : y < 256 = g 0 in
    grind arith

-- all but the last octet count 256 times
with_last : (n b : ℕ) (bs : List ℕ)
    → (q : ℕ) × (big_endian_after n (b ∷ bs) ≡ q * 256 + get_or (b ∷ bs) (length (b ∷ bs) - 1) 0)
with_last n b [] = (n, refl)
with_last n b (c ∷ bs) = grind (arith, with_last (n * 256 + b) c bs)

-- the last bits of a number are those of its last octet
low_bits : (u q l : ℕ) → u < 8 → (q * 256 + l) % 2 ^ u ≡ l % 2 ^ u
low_bits u q l lt =
    let eight : 8 ≡ (8 - u) + u = omega arith in
    let octets : q * 256 ≡ q * 2 ^ (8 - u) * 2 ^ u = ap (λ k. q * 2 ^ k) eight ∙ ap (λ n. q * n) (pow-add 2 (8 - u) u)
    ∙ sym (mul_assoc q (2 ^ (8 - u)) (2 ^ u)) in
    ap (λ n. (n + l) % 2 ^ u) octets ∙ mul-add-mod_self_right (q * 2 ^ (8 - u)) (2 ^ u) l

padded_number : (u : ℕ) (bs : List ℕ) → u < 8 → (length bs ≡ 0 → u ≡ 0) → big_endian bs % 2 ^ u ≡ last_octet bs % 2 ^ u
padded_number u [] lt none = refl
padded_number u (b ∷ bs) lt none = grind (arith, low_bits, with_last 0 b bs)

-- two bit strings with no unused bit set say one prefix in one way
one_spelling : (limit : ℕ) (b c : Bits) (p : PrefixValue) → IsBits b → IsBits c → IsPadded b → IsPadded c
    → IsBytes b.octets → IsBytes c.octets → SaysPrefix limit b p → SaysPrefix limit c p → b ≡ c
one_spelling limit b c p is_b is_c clear_b clear_c fits_b fits_c says_b says_c =
    let count : length b.octets ≡ length c.octets = omega arith in
    let unused : b.unused ≡ c.unused = omega arith in
    let n = big_endian b.octets in
    let m = big_endian c.octets in
    let top : 0 < 2 ^ (128 - p.len) = pow_pos (128 - p.len) in
    let parts : n / 2 ^ b.unused ≡ m / 2 ^ c.unused = sym (mul-div_cancel (n / 2 ^ b.unused) top)
    ∙ ap (λ k. k / 2 ^ (128 - p.len)) (sym says_b.first ∙ says_c.first) ∙ mul-div_cancel (m / 2 ^ c.unused) top in
    grind (arith, padded_number, same_octets, shr_split)

-- the unused bits that are written are zero
pub prefix_padded : (p : PrefixValue) → IsPrefix 128 p → IsPadded (prefix_bits p)
prefix_padded p is =
    let fit = bits_fit p is in
    let b = prefix_bits p in
    let behind = 8 * (16 - octet_count p.len) in
    let number = first_bits (octet_count p.len) p.first (omega (arith, is.short)) is.below in
    let sum : b.unused + behind ≡ 128 - p.len = omega (arith, is.short) in
    let none : p.first % 2 ^ (b.unused + behind) ≡ 0 = rw sum is.aligned in
    sym (padded_number b.unused b.octets fit.below fit.empty) ∙ ap (λ t. t % 2 ^ b.unused) number
    ∙ sym (field_of p.first b.unused behind) ∙ ap (λ t. t / 2 ^ behind) none ∙ zero-div (2 ^ behind)

-- and they are octets
bytes_fit : (k a : ℕ) → IsBytes (bytes_high_first k a)
bytes_fit zero a i = omega arith
bytes_fit (suc k) a zero = let e = byte_is k a in omega (arith, e)
bytes_fit (suc k) a (suc i) = bytes_fit k a i

-- so strictly, these octets are found
pub prefix_is_spelled : (limit : ℕ) (bytes : List ℕ) (p : PrefixValue) → limit ≤ 128 → IsBytes bytes
    → IsStrictPrefix limit bytes p → Spells (IsPrefixWithin limit) prefix_der bytes p
prefix_is_spelled limit bytes p le fits (b, ((counted, is), padded), says) =
    let inside : IsBytes b.octets = IsBytes-rest b.unused b.octets (fits_content bytes 3 (bit_content b) is fits) in
    let prefix : IsPrefix 128 p = said_prefix limit b p le inside says in
    let octets : IsBytes (prefix_bits p).octets = fits_front _ (drop (octet_count p.len) (to_be_bytes w128 p.first))
    (rw take-append-drop (bytes_fit 16 p.first)) in
    let same : b ≡ prefix_bits p = one_spelling limit b (prefix_bits p) p counted (bits_fit p prefix) padded
    (prefix_padded p prefix) inside octets says (bits_say limit p prefix says.short) in
    ((prefix, says.short), is.spelled ∙ ap bit_string_value same)

pub spelled_is_prefix : (limit : ℕ) (bytes : List ℕ) (p : PrefixValue)
    → Spells (IsPrefixWithin limit) prefix_der bytes p → IsStrictPrefix limit bytes p
spelled_is_prefix limit bytes p is = grind (arith, bits_few, bits_fit, bits_say, prefix_padded, value_is)

pub written_prefix_reading : (limit : ℕ) → limit ≤ 128
    → IsReading (Spells (IsPrefixWithin limit) prefix_der) (prefix_by true limit)
written_prefix_reading limit le =
    same_reading (IsStrictPrefix limit) (Spells (IsPrefixWithin limit) prefix_der) (prefix_by true limit)
    (λ bytes p fits is. prefix_is_spelled limit bytes p le fits is) (spelled_is_prefix limit) (prefix_modal limit).tight

-- what is promised of a take
module _ (limit : ℕ) (le : limit ≤ 128) (old new : Cursor) (result : Result PrefixValue DerError)
    (took : Takes (λ p. p) old new result (prefix_by (is_strict old) limit)) where
  pub taken_exact : Lenient old (Takes (λ p. p) old new result (prefix_at limit))
  taken_exact = exact_by _ _ _ (λ p. p) old new result (prefix_modal limit) took

  pub taken_reads : Lenient old (ReadsValue (IsPrefixDer limit) (λ p. p) old new result)
  taken_reads lenient = reads_by _ _ (λ p. p) old new result (prefix_reading limit) old.bytes (taken_exact lenient)

  pub taken_strict : Strict old (ReadsValue (Spells (IsPrefixWithin limit) prefix_der) (λ p. p) old new result)
  taken_strict strict =
      reads_by _ _ (λ p. p) old new result (written_prefix_reading limit le) old.bytes
      (subst (λ mode. Takes (λ p. p) old new result (prefix_by mode limit)) strict took)

  pub taken_refused : NotCanonicalOr (IsPrefixDer limit) old result
  taken_refused = refused_by _ _ _ _ (λ p. p) old new result (prefix_reading limit) (prefix_modal limit) took

  pub taken_back : (p : PrefixValue) (rest : List ℕ) → IsPrefixWithin limit p → left old ≡ prefix_der p ++ rest
      → (result ≡ Ok p) × (left new ≡ rest)
  taken_back p rest is at =
      value_back_by _ _ _ old new result (prefix_modal limit) took (prefix_der p) rest p
      (spelled_is_prefix limit (prefix_der p) p (is, refl)) at

-- and of a content
module _ (limit : ℕ) (value : Content) (result : Result PrefixValue DerError)
    (gives : Gives (λ p. p) result (prefix_in_by (is_strict_in value) limit (content_octets value))) where
  pub said_exact : LenientIn value (Gives (λ p. p) result (prefix_in limit (content_octets value)))
  said_exact lenient = grind (arith, content_tightens, same_found)

  pub said_reads : LenientIn value (Parses (IsPrefixContent limit) (λ p. p) (content_octets value) result)
  said_reads lenient =
      parses_by (λ _. Unit {0}) _ _ (λ p. p) (content_octets value) result (prefix_check limit) tt (said_exact lenient)

  pub said_strict : StrictIn value (Parses (IsStrictContent limit) (λ p. p) (content_octets value) result)
  said_strict strict =
      parses_by (λ _. Unit {0}) _ _ (λ p. p) (content_octets value) result (strict_content_check limit) tt
      (rw strict at gives)

  pub said_refused : NotCanonicalInOr (IsPrefixContent limit) value result
  said_refused =
      refused_in _ _ _ (λ p. p) value result (prefix_check limit) (content_tightens (is_strict_in value) limit _) gives

-- ---- the length before the unused bits

-- the two looks in either order
either_order : {A B : Type 0} (strict padded : Bool) (b : A) (p : B) (check : A → Result B DerError) → check b ≡ Ok p
    → passing strict (λ q. padded) p ≡ (passing strict (λ c. padded) b >>= check)
unfolding passing
either_order strict padded b p check e = grind (arith)

ruleset comparisons = (le-leb, le-ltb, leb-true, lt-ltb, ltb-false, ltb-true)

-- what is read of a content in the order of the code
pub length_first : (strict : Bool) (limit : ℕ) (content : List ℕ) → limit ≤ 128
    → prefix_in_by strict limit content
    ≡ cond (is_longer limit content) (Err BadPrefix) (bits_by strict content >>= prefix_of limit)
unfolding prefix_in_by prefix_of_by bits bits_by prefix_of passing
length_first strict limit content le =
    grind (arith, and_parts, comparisons, either_order, eqb-true, or_from, or_parts)

-- a content that isn't longer has few enough bits, and octets
pub few_enough : (strict : Bool) (limit : ℕ) (content : List ℕ) (b : Bits) → is_longer limit content ≡ false
    → bits_by strict content ≡ Ok b → 8 * length b.octets ≤ limit + b.unused
unfolding bits bits_by passing
few_enough strict limit content b short read = grind (arith, comparisons)

-- the range from one prefix of limit bits to another
pub within : (limit : ℕ) (p q : PrefixValue) (r : RangeValue) → limit ≤ 128 → IsPrefix 128 p → p.len ≤ limit
    → IsPrefix 128 q → q.len ≤ limit → IsSpan p q r → IsRangeWithin limit r
within limit p q r le is_p short_p is_q short_q from_to =
    let pos : 0 < 2 ^ (128 - limit) = pow_pos (128 - limit) in
    let some : 0 < 2 ^ (128 - q.len) = pow_pos (128 - q.len) in
    let first = mod_multiple (128 - p.len) p.first is_p.aligned in
    let last = mod_multiple (128 - q.len) q.first is_q.aligned in
    let whole = multiple_smaller (128 - q.len) 128 (2 ^ 128) (omega arith) (multiple_self (2 ^ 128)) in
    let below = multiple_gap (2 ^ (128 - q.len)) q.first (2 ^ 128) last whole is_q.below in
    let next = multiple_sum (2 ^ (128 - q.len)) q.first (2 ^ (128 - q.len)) last (multiple_self _) in
    let begins = multiple_smaller (128 - limit) (128 - p.len) p.first (omega (arith, short_p)) first in
    let ends = multiple_smaller (128 - limit) (128 - q.len) _ (omega (arith, short_q)) next in
    grind (arith, multiple_mod)
