-- The bytes of which the text of an address is made.
use Rattle.std.proofs.lemmas.List.Elements.{All-cons}
use Rattle.rpki_addr.proofs.Common.{Bool, List, [], arith, codes, false, inl, inr, length, length-append, lit<, lit≤}
use Rattle.rpki_addr.proofs.Common.{refl, true, ℕ, ◌++◌, ◌<◌, ◌∷◌, ◌≡◌, ◌⊎◌, All-ipv4_text, IsDigitOrDot, nat_tests}
use Rattle.rpki_addr.proofs.Common.{All-append, All-from_recursion, All-nil, All-weaker, Contains-append_left}
use Rattle.rpki_addr.proofs.Common.{Contains-append_right, IsInRange, All, Contains, segments_of, IsColonHex, IsDotted}
use Rattle.rpki_addr.proofs.Common.{IsGroupsAfter, AllDigits, IsIpv4Text, IsIpv6Text}
use Rattle.rpki_text.proofs.DigitLemmas.{each_below}
use Rattle.rpki_addr.proofs.AddressLemmas.{IsIpv4Text-dotted, IsGroupsText-colon_hex}

-- a dot, a hexadecimal digit or a colon, among others, but no slash
abbrev pub IsWrittenByte : ℕ → Type 0
IsWrittenByte b = (b ≡ 46) ⊎ IsInRange 48 102 b

-- octets with dots between them
pub dotted_written : (text octets : List ℕ) → IsDotted text octets → All IsDigitOrDot text
dotted_written text octets h =
    let fit = each_below 256 (lit< tt) (h.a ∷ h.b ∷ h.c ∷ h.d ∷ []) (h.fit.0, (h.fit.1, (h.fit.2, (h.fit.3, tt)))) in
    rw h.spelled (All-ipv4_text (h.a ∷ h.b ∷ h.c ∷ h.d ∷ []) fit)

pub ipv4_written : (text : List ℕ) (n : ℕ) → IsIpv4Text text n → All IsDigitOrDot text
ipv4_written text n h = dotted_written text h.octets (IsIpv4Text-dotted text n h)

-- one byte at least
pub ipv4_some : (text : List ℕ) (n : ℕ) → IsIpv4Text text n → 0 < length text
ipv4_some text n h =
    let dots = IsIpv4Text-dotted text n h in
    grind (arith, dots.spelled, length-append)

-- these are among those of IPv6
pub wider : (b : ℕ) → IsDigitOrDot b → IsWrittenByte b
wider b h = grind arith

pub dots_written : (text octets : List ℕ) → IsDotted text octets → All IsWrittenByte text
dots_written text octets h = All-weaker IsDigitOrDot IsWrittenByte wider text (dotted_written text octets h)

-- hexadecimal digits
digits_written : (ds : List ℕ) → AllDigits 16 ds → All IsWrittenByte ds
digits_written [] h = All-nil IsWrittenByte
digits_written (c ∷ cs) h = All-cons IsWrittenByte c cs (inr (grind (arith, nat_tests, h.0))) (digits_written cs h.1)

colon_written : All IsWrittenByte (codes ":")
colon_written = All-from_recursion IsWrittenByte (58 ∷ []) (inr (lit≤ tt, lit≤ tt), tt)

colons_written : All IsWrittenByte (codes "::")
colons_written = All-append IsWrittenByte (codes ":") (codes ":") colon_written colon_written

-- groups
groups_written : (b : Bool) (lead text segments : List ℕ) → All IsWrittenByte lead → IsGroupsAfter b lead text segments
    → All IsWrittenByte text
groups_written b lead text [] before h = rw h (All-nil IsWrittenByte)
groups_written b lead text (s ∷ segments) before (inl (group, rest, is, digits, more)) =
    let front = All-append IsWrittenByte lead group before (digits_written group digits.0.0.1) in
    let later = groups_written b (codes ":") rest segments colon_written more in
    rw is (All-append IsWrittenByte (lead ++ group) rest front later)
groups_written b lead text (s ∷ segments) before (inr (last, octets, here, is, dots, value)) =
    rw is (All-append IsWrittenByte lead last before (dots_written last octets dots))

pub colon_hex_written : (text segments : List ℕ) → IsColonHex text segments → All IsWrittenByte text
colon_hex_written text segments (inl h) = groups_written true [] text segments (All-nil IsWrittenByte) h.0
colon_hex_written text segments (inr h) =
    let front = groups_written false [] h.head_text h.head (All-nil IsWrittenByte) h.head_groups in
    let colons = All-append IsWrittenByte h.head_text (codes "::") front colons_written in
    let back = groups_written true [] h.tail_text h.tail (All-nil IsWrittenByte) h.tail_groups in
    rw h.spelled (All-append IsWrittenByte (h.head_text ++ codes "::") h.tail_text colons back)

pub ipv6_written : (text : List ℕ) (n : ℕ) → IsIpv6Text text n → All IsWrittenByte text
ipv6_written text n h = colon_hex_written text h.groups (IsGroupsText-colon_hex text h.groups h.written)

-- a colon stands before the second of several groups
before_second : (b : Bool) (rest : List ℕ) (s : ℕ) (segments : List ℕ) → IsGroupsAfter b (codes ":") rest (s ∷ segments)
    → Contains rest 58
before_second b rest s segments h = grind arith

full_colon : (text segments : List ℕ) → length segments ≡ 8 → IsGroupsAfter true [] text segments → Contains text 58
full_colon text (s ∷ t ∷ segments) eight (inl (group, rest, is, digits, more)) =
    rw is (Contains-append_right group rest 58 (before_second true rest t segments more))
full_colon text (s ∷ t ∷ segments) eight (inr (last, octets, here, is, dots, value)) = grind (arith, segments_of)
full_colon text segments eight h = absurd (omega (arith, eight))

-- an IPv6 text has a colon
pub ipv6_colon : (text : List ℕ) (n : ℕ) → IsIpv6Text text n → Contains text 58
ipv6_colon text n h = elim (IsGroupsText-colon_hex text h.groups h.written) [
  | inl k ↦ full_colon text h.groups k.1 k.0
  | inr k ↦
      let colon = Contains-append_right k.head_text (codes "::") 58 (0, lit≤ tt, refl) in
      rw k.spelled (Contains-append_left (k.head_text ++ codes "::") k.tail_text 58 colon)
]
