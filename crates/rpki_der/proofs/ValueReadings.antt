-- The readings find the values of their grammars, whatever follows them, and no others.
use Rattle.rpki_der.proofs.Common.{IsOctetString, IsSequence, List, Ok, Result, [], ap, append_assoc, arith, drop, eqb}
use Rattle.rpki_der.proofs.Common.{length, ltb, refl, subst, sym, take, ℕ, ◌%◌, ◌++◌, ◌<◌, ◌^◌, ◌∙◌, ◌∷◌, ◌≡◌, ◌≢◌, ◌≤◌}
use Rattle.rpki_der.proofs.Common.{eq-eqb, eqb-false, eqb-true, le-ltb, ltb-false, ne_eqb, append_cancel_right, drop_at}
use Rattle.rpki_der.proofs.Common.{length-append, length-take, take-append-drop, take_at, Front, IsBitContent}
use Rattle.rpki_der.proofs.Common.{IsBitString, IsBytes, IsNothing, IsNull, IsTag, IsTlv, IsU32, IsUnsigned, IsValue}
use Rattle.rpki_der.proofs.Common.{OneFront, Refines, Tlv, header, length_octets, value, IsReading, bit_string_at, bits}
use Rattle.rpki_der.proofs.Common.{length_at, nothing, null_at, refined, tagged_at, u32_at, unsigned, value_at}
use Rattle.rpki_der.proofs.Common.{DerError, BadTag, Truncated, Grammar, Reading}
use Rattle.rpki_der.proofs.ReadingSteps.{IsCheck, IsBytes-rest, fits_front, fits_back, bind_ok, passed, ok_is}
use Rattle.rpki_der.proofs.ContentReadings.{unsigned_check, unsigned_spelled, spelled_unsigned, bits_check}
use Rattle.rpki_der.proofs.ContentReadings.{nothing_check}
use Rattle.rpki_der.proofs.LengthReadings.{length_takes, length_again}

-- ---- values of any tag

-- the value whose content is the next n octets, and what follows
abbrev cut : ℕ → ℕ → List ℕ → Tlv × List ℕ
cut tag n bytes = (record { tag = tag; content = take n bytes }, drop n bytes)

-- a tag, the octets of a length, and as many octets, are a value
value_front : (tag n : ℕ) (bytes after : List ℕ) (v : Tlv) (rest : List ℕ) → IsTag tag → n < 2 ^ 64
    → bytes ≡ length_octets n ++ after → n ≤ length after → cut tag n after ≡ (v, rest)
    → Front IsTlv (tag ∷ bytes) v rest
unfolding header
value_front tag n bytes after v rest low lt split enough made =
    grind (arith, append_assoc, length-take, take-append-drop)

-- a value that is read is spelled so
value_takes : (bytes : List ℕ) (v : Tlv) (rest : List ℕ) → IsBytes bytes → value_at bytes ≡ Ok (v, rest)
    → Front IsTlv bytes v rest
unfolding value_at
value_takes [] v rest fits e = absurd cc
value_takes (tag ∷ bytes) v rest fits e =
    let (apart, found) = passed (eqb (tag % 32) 31) BadTag _ (v, rest) e in
    let ((n, after), read, more) = bind_ok (length_at bytes) _ (v, rest) found in
    let (enough, made) = passed (ltb (length after) n) Truncated _ (v, rest) more in
    let (split, short) = length_takes bytes n after (IsBytes-rest tag bytes fits) read in
    let low : tag % 32 ≢ 31 = eqb-false (tag % 32) 31 apart in
    let all = ltb-false (length after) n enough in
    value_front tag n bytes after v rest (omega arith) short split all (ok_is (cut tag n after) (v, rest) made)

-- the octets of a tag and a content are read as them
value_again_spelled : (tag : ℕ) (content rest : List ℕ) → IsTag tag → length content < 2 ^ 64
    → value_at (value tag content ++ rest) ≡ Ok (record { tag = tag; content = content }, rest)
unfolding value_at header
value_again_spelled tag content rest low lt =
    grind (arith, append_assoc, drop_at, le-ltb, length-append, length_again, ne_eqb, take_at)

-- a value is read, whatever follows
value_again : (front : List ℕ) (v : Tlv) (rest : List ℕ) → IsTlv front v → value_at (front ++ rest) ≡ Ok (v, rest)
value_again front v rest is = rw is.spelled (value_again_spelled v.tag v.content rest is.has_tag is.short)

-- the two together
pub value_reading : IsReading IsTlv value_at
value_reading = record { takes = value_takes; again = value_again }

-- octets begin with at most one value of a grammar that has a reading
pub one_front : {X : Type 0} (G : Grammar X) (reading : Reading X) → IsReading G reading → OneFront G
one_front G reading is a b x y r s p q e =
    let both = ok_is (x, r) (y, s) (sym (is.again a x r p) ∙ ap reading e ∙ is.again b y s q) in
    grind (arith, append_cancel_right)

-- ---- octets of the parts

-- the content of octets is octets
pub fits_content : (bytes : List ℕ) (tag : ℕ) (content : List ℕ) → IsValue bytes tag content → IsBytes bytes
    → IsBytes content
fits_content bytes tag content is h = fits_back (header tag (length content)) content (subst IsBytes is.spelled h)

-- a value at the front of octets is octets
pub fits_value : {X : Type 0} (G : Grammar X) (bytes : List ℕ) (x : X) (rest : List ℕ) (found : Front G bytes x rest)
    → IsBytes bytes → IsBytes found.0
fits_value G bytes x rest found h = fits_front found.0 rest (subst IsBytes found.2 h)

-- what follows it is octets
pub fits_rest : {X : Type 0} (G : Grammar X) (bytes : List ℕ) (x : X) (rest : List ℕ) (found : Front G bytes x rest)
    → IsBytes bytes → IsBytes rest
fits_rest G bytes x rest found h = fits_back found.0 rest (subst IsBytes found.2 h)

-- ---- values of one tag

abbrev pub IsTagged : ℕ → List ℕ → List ℕ → Type 0
IsTagged tag bytes content = IsValue bytes tag content

pub tagged_reading : (tag : ℕ) → IsReading (IsTagged tag) (tagged_at tag)
unfolding tagged_at
tagged_reading tag = record {
  takes = λ bytes content rest fits e. (
      let (v, read, more) = bind_ok (value_at bytes) _ (content, rest) e in
      let found = value_takes bytes v.0 v.1 fits read in
      grind (arith, eqb-true));
  again = λ front content rest is.
      grind (arith, eq-eqb, value_again front (record { tag = tag; content = content }) rest);
}

-- an OCTET STRING, and a SEQUENCE
pub octet_string_reading : IsReading IsOctetString (tagged_at 4)
octet_string_reading = tagged_reading 4

pub sequence_reading : IsReading IsSequence (tagged_at 48)
sequence_reading = tagged_reading 48

-- ---- values looked at once more

-- what is read and passes the second look
pub refined_reading : {X Y : Type 0} (G : Grammar X) (C : X → Y → Type 0) (Fits : X → Type 0) (reading : Reading X)
    (check : X → Result Y DerError) → IsReading G reading
    → ((front : List ℕ) (x : X) → G front x → IsBytes front → Fits x) → IsCheck Fits C check
    → IsReading (Refines G C) (refined reading check)
unfolding refined
refined_reading G C Fits reading check is inside says = record {
  takes = λ bytes y rest fits e. (
      let (x, read, more) = bind_ok (reading bytes) _ (y, rest) e in
      let found = is.takes bytes x.0 x.1 fits read in
      let at = inside found.0 x.0 found.1 (fits_value G bytes x.0 x.1 found fits) in
      grind (arith, bind_ok, ok_is, says.takes x.0));
  again = λ front y rest r. grind (arith, is.again front r.0 rest r.1, says.again r.0 y r.2);
}

-- two grammars of the same values have the same readings
pub same_reading : {X : Type 0} (G H : Grammar X) (reading : Reading X)
    → ((bytes : List ℕ) (x : X) → IsBytes bytes → G bytes x → H bytes x)
    → ((bytes : List ℕ) (x : X) → H bytes x → G bytes x) → IsReading G reading → IsReading H reading
same_reading G H reading to from is = record {
  takes = λ bytes x rest fits e.
      let found = is.takes bytes x rest fits e in
      (found.0, to found.0 x (fits_value G bytes x rest found fits) found.1, found.2);
  again = λ front x rest h. is.again front x rest (from front x h);
}

-- a value of a tag, by the rule for its content
pub content_reading : {Y : Type 0} (tag : ℕ) (C : Grammar Y) (check : List ℕ → Result Y DerError)
    → IsCheck IsBytes C check → IsReading (Refines (IsTagged tag) C) (refined (tagged_at tag) check)
content_reading tag C check says =
    refined_reading (IsTagged tag) C IsBytes _ check (tagged_reading tag)
    (λ front content is fits. fits_content front tag content is fits) says

-- a rule that asks nothing of the octets is one
pub on_bytes : {Y : Type 0} {C : Grammar Y} {check : List ℕ → Result Y DerError} → IsCheck (λ _. Unit {0}) C check
    → IsCheck IsBytes C check
on_bytes is = record { takes = λ content y fits. is.takes content y tt; again = is.again }

-- an INTEGER of 32 bits, whose content by the conditions is the content as it is spelled
pub u32_reading : IsReading IsU32 u32_at
u32_reading =
    same_reading (Refines (IsTagged 2) IsUnsigned) IsU32 u32_at
    (λ bytes n fits (content, is, says). (
    let inside = fits_content bytes 2 content is fits in grind (arith, unsigned_spelled content n inside says)))
    (λ bytes n is. (_, is.1, spelled_unsigned n is.0)) (content_reading 2 IsUnsigned unsigned (on_bytes unsigned_check))

-- a BIT STRING
pub bit_string_reading : IsReading IsBitString bit_string_at
bit_string_reading =
    same_reading (Refines (IsTagged 3) IsBitContent) IsBitString bit_string_at (λ bytes b fits is. grind arith)
    (λ bytes b is. grind arith) (content_reading 3 IsBitContent bits (on_bytes bits_check))

-- a NULL
pub null_reading : IsReading IsNull null_at
null_reading =
    same_reading (Refines (IsTagged 5) IsNothing) IsNull null_at (λ bytes u fits is. grind arith)
    (λ bytes u is. ([], is, refl)) (content_reading 5 IsNothing nothing (on_bytes nothing_check))
