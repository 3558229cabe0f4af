-- What is printed of a VRP is UTF-8, by its parts.
use Rattle.origins_lines.proofs.Common.{Bool, List, [], arith, false, refl, true, ℕ, ◌≡◌, ◌++◌, ◌<◌, ◌∷◌, IsUtf8, Form}
use Rattle.origins_lines.proofs.Common.{Vrp, FamilyPrefix, IsFamilyPrefix, Reason, item_text}
use lib.Utf8.{encode}
use Rattle.std.specs.Prelude.{◌^◌, codes, decimal}
use Rattle.std.proofs.lemmas.Fmt.{IsAscii-decimal}
use Rattle.std.proofs.lemmas.Str.{IsUtf8-append, IsUtf8-from_ascii, IsUtf8-from_is_utf8}
use Rattle.std.proofs.lemmas.Str.Ascii.{IsAscii-from_all}
use Rattle.rpki_addr.proofs.AddressBytes.{ip_bytes}
use Rattle.rpki_addr.proofs.WidthLemmas.{width_small}
use Rattle.rpki_addr.specs.PrintedAddress.{ip_text}
use Rattle.rpki_addr.specs.declared.addr.IpAddr.{IpAddr}
use Rattle.rpki_base.specs.AsnText.{asn_text}
use Rattle.rpki_prefix.specs.MaxLen.{IsMaxLenPrefix, MaxLenValue, resolved}
use Rattle.rpki_prefix.specs.PrefixText.{prefix_text}
use Rattle.rpki_text.specs.Cuts.{dash, slash}
use Rattle.roa_origin.specs.Vrps.{longest}
use Rattle.std.specs.Str.{chars, is_utf8}
use Rattle.origins_lines.specs.Explanations.{asn_key, max_length_key, object_start, reason_and_vrp_text}
use Rattle.origins_lines.specs.Explanations.{reason_text, vrp_object}
use Rattle.origins_lines.specs.declared.explanation.Form.TheVariants.{Json, Words}
use Rattle.origins_lines.specs.declared.explanation.Reason.TheVariants.{Match, Length, As}

-- a constant text and a text behind it
behind : (constant text : List ℕ) → is_utf8 constant ≡ true → IsUtf8 text → IsUtf8 (constant ++ text)
behind constant text is h = IsUtf8-append constant text (IsUtf8-from_is_utf8 constant is) h

-- a text and a constant text behind it
before : (text constant : List ℕ) → is_utf8 constant ≡ true → IsUtf8 text → IsUtf8 (text ++ constant)
before text constant is h = IsUtf8-append text constant h (IsUtf8-from_is_utf8 constant is)

-- an address
address : (a : IpAddr) → IsUtf8 (ip_text a)
address a =
    IsUtf8-from_ascii (ip_text a) (IsAscii-from_all (ip_text a) (λ k d small. grind (arith, ip_bytes a k d small)))

-- a number
number : (n : ℕ) → n < 2 ^ 64 → IsUtf8 (decimal n)
number n small = IsUtf8-from_ascii (decimal n) (IsAscii-decimal n small)

-- a prefix
prefix : (p : FamilyPrefix) → IsFamilyPrefix p → IsUtf8 (prefix_text p)
unfolding is_utf8 chars encode
prefix p h =
    let len = number p.len (omega (arith, h.short, width_small p.addr)) in
    IsUtf8-append _ _ (address p.addr) (behind (slash ∷ []) _ refl len)

-- an AS number
asn : (n : ℕ) → n < 2 ^ 32 → IsUtf8 (asn_text n)
unfolding is_utf8 chars encode
asn n small = behind (codes "AS") _ refl (number n (omega (arith, small)))

-- a maximum length is a small number
max_small : (p : MaxLenValue) → IsMaxLenPrefix p → resolved p.prefix p.max_len < 2 ^ 64
max_small p h = grind (arith, width_small p.prefix.addr)

-- a reason
reason : (r : Reason) → IsUtf8 (reason_text r)
unfolding is_utf8 chars encode
reason Match = IsUtf8-from_is_utf8 (codes "match") refl
reason Length = IsUtf8-from_is_utf8 (codes "length") refl
reason As = IsUtf8-from_is_utf8 (codes "as") refl

-- the beginning of an object
start : (r : Reason) → IsUtf8 (object_start r)
unfolding is_utf8 chars encode
start Match = IsUtf8-from_is_utf8 (object_start Match) refl
start Length = IsUtf8-from_is_utf8 (object_start Length) refl
start As = IsUtf8-from_is_utf8 (object_start As) refl

-- the texts of a VRP in an explanation
module _ (p : Vrp) (lawful : IsMaxLenPrefix p.0) (small : p.1 < 2 ^ 32) where
  len : IsUtf8 (decimal (longest p))
  len = number (longest p) (max_small p.0 lawful)

  word : (r : Reason) → IsUtf8 (reason_and_vrp_text r p)
  unfolding is_utf8 chars encode
  word r =
      let start = before _ (codes ":") refl (behind (codes " ") _ refl (reason r)) in
      let front = IsUtf8-append _ _ start (prefix p.0.prefix lawful.0) in
      let max = IsUtf8-append _ _ front (behind (dash ∷ []) _ refl len) in
      IsUtf8-append _ _ (before _ (codes ":") refl max) (asn p.1 small)

  object : (r : Reason) → IsUtf8 (vrp_object r p)
  unfolding max_length_key asn_key is_utf8 chars encode
  object r =
      let front = IsUtf8-append _ _ (start r) (prefix p.0.prefix lawful.0) in
      let max = IsUtf8-append _ _ (before _ (codes "\",\"max_length\":") refl front) len in
      let whole = IsUtf8-append _ _ (before _ (codes ",\"asn\":\"") refl max) (asn p.1 small) in
      before _ (codes "\"}") refl whole

  pub item_is_utf8 : (form : Form) (first : Bool) (r : Reason) → IsUtf8 (item_text form first r p)
  unfolding is_utf8 chars encode
  item_is_utf8 Words first r = word r
  item_is_utf8 Json true r = object r
  item_is_utf8 Json false r = behind (codes ",") _ refl (object r)
