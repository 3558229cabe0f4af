-- Texts of addresses: our grammar and that of std's readers are one.
use Rattle.rpki_addr.proofs.Common.{get_or, lit<, last_digit_below, length-last_digits, IsColonHex-ipv6_text, groups_of}
use Rattle.rpki_addr.proofs.Common.{ipv6_text, Bool, IsTrue, List, [], ap, append_assoc, arith, codes, false, flat_map}
use Rattle.rpki_addr.proofs.Common.{inl, inr, length, refl, sym, true, ℕ, ◌%◌, ◌++◌, ◌+◌, ◌-◌, ◌/◌, ◌<◌, ◌∙◌, ◌∷◌, ◌≡◌}
use Rattle.rpki_addr.proofs.Common.{◌⊎◌, AllBelowBase, segments_of, dotted_text, from_octets, AreGroups, AreGroupsAtEnd}
use Rattle.rpki_addr.proofs.Common.{IsGroupText, IsGroupsText, IsIpv4Text, dotted}
use Rattle.std.proofs.lemmas.List.{append-nil}
use Rattle.std.specs.Net.Grammar as std
use Rattle.rpki_text.specs.Lists.{joined_by, HaveValues}

-- four decimals with dots between them, as std writes them
pub dotted_is : (a b c d : ℕ) → dotted_text a b c d ≡ dotted (a ∷ b ∷ c ∷ d ∷ [])
dotted_is a b c d = simp (append_assoc, append-nil)

pub dotted_octets : (octets : List ℕ) → length octets ≡ 4
    → dotted octets ≡ dotted_text (get_or octets 0 0) (get_or octets 1 0) (get_or octets 2 0) (get_or octets 3 0)
dotted_octets (a ∷ b ∷ c ∷ d ∷ []) four = sym (dotted_is a b c d)
dotted_octets octets four = absurd (omega (arith, four))

-- an IPv4 text of ours is one of std's
pub to_dotted : (text octets : List ℕ) → length octets ≡ 4 → AllBelowBase 256 octets → text ≡ dotted octets
    → std.IsDotted text octets
to_dotted text (a ∷ b ∷ c ∷ d ∷ []) four small spelled = grind (arith, dotted_is)
to_dotted text octets four small spelled = absurd (omega (arith, four))

pub IsIpv4Text-dotted : (text : List ℕ) (n : ℕ) (h : IsIpv4Text text n) → std.IsDotted text h.octets
IsIpv4Text-dotted text n h = to_dotted text h.octets h.four h.small h.spelled

-- and one of std's is one of ours
pub IsDotted-ipv4 : (text octets : List ℕ) → std.IsDotted text octets → IsIpv4Text text (from_octets octets)
IsDotted-ipv4 text octets h = grind (arith, dotted_is)

-- the last two groups of four octets
pub two_groups : (text octets : List ℕ) (n : ℕ) → std.IsDotted text octets → from_octets octets ≡ n
    → segments_of octets ≡ (n / 0x10000) ∷ (n % 0x10000) ∷ []
two_groups text octets n h is = grind (arith)

-- texts with `lead` before the first and a colon before each other
abbrev led : List ℕ → List (List ℕ) → List ℕ
led lead [] = []
led lead (t ∷ texts) = lead ++ t ++ led (codes ":") texts

colons_led : (texts : List (List ℕ)) → flat_map (λ next. codes ":" ++ next) texts ≡ led (codes ":") texts
colons_led [] = refl
colons_led (t ∷ texts) = ap (λ r. codes ":" ++ t ++ r) (colons_led texts)

joined_led : (texts : List (List ℕ)) → joined_by (codes ":") texts ≡ led [] texts
joined_led [] = refl
joined_led (t ∷ texts) = ap (λ r. t ++ r) (colons_led texts)

-- groups of ours are groups of std's
groups_led : (b : Bool) (lead : List ℕ) (texts : List (List ℕ)) (groups : List ℕ) → HaveValues IsGroupText texts groups
    → std.IsGroupsAfter b lead (led lead texts) groups
groups_led b lead [] [] h = refl
groups_led b lead (t ∷ texts) (g ∷ groups) h = grind (arith, groups_led b (codes ":") texts groups h.1)
groups_led b lead texts groups h = absurd h

pub AreGroups-std : (b : Bool) (text groups : List ℕ) → AreGroups text groups → std.IsGroups b text groups
AreGroups-std b text groups h = rw (h.spelled, joined_led) (groups_led b [] h.texts groups h.each)

-- the same with an IPv4 text at the end
ipv4_led : (lead : List ℕ) (texts : List (List ℕ)) (front last : List ℕ) (n : ℕ) → HaveValues IsGroupText texts front
    → IsIpv4Text last n
    → std.IsGroupsAfter true lead (led lead (texts ++ last ∷ [])) (front ++ (n / 0x10000) ∷ (n % 0x10000) ∷ [])
ipv4_led lead [] [] last n h k =
    let dots = IsIpv4Text-dotted last n k in
    inr (last, k.octets, refl, append-nil (lead ++ last), dots, sym (two_groups last k.octets n dots k.value))
ipv4_led lead (t ∷ texts) (g ∷ front) last n h k = grind (arith, ipv4_led (codes ":") texts front last n h.1 k)
ipv4_led lead texts front last n h k = absurd h

pub AreGroupsAtEnd-std : (text groups : List ℕ) → AreGroupsAtEnd text groups → std.IsGroups true text groups
AreGroupsAtEnd-std text groups h = grind (arith, AreGroups-std, ipv4_led, joined_led)

-- an IPv6 text of ours is one of std's
pub IsGroupsText-colon_hex : (text groups : List ℕ) → IsGroupsText text groups → std.IsColonHex text groups
IsGroupsText-colon_hex text groups (inl (h, eight)) = inl (AreGroupsAtEnd-std text groups h, eight)
IsGroupsText-colon_hex text groups (inr h) =
    let between : 8 - (length h.front + length h.back) ≡ 8 - length h.front - length h.back = omega arith in
    let value = rw between at h.value in
    let few : length h.front + length h.back < 8 = omega (arith, h.at_most_seven) in
    inr (search (AreGroups-std, AreGroupsAtEnd-std, h.spelled, value, few))

-- groups of std's are groups of ours, an IPv4 text at the end or not
abbrev Led : Bool → List ℕ → List ℕ → List ℕ → Type 0
Led b lead text groups =
    ((texts : List (List ℕ)) × (text ≡ led lead texts) × HaveValues IsGroupText texts groups)
    ⊎ (IsTrue b
    × ((texts : List (List ℕ)) × (front last : List ℕ) × (n : ℕ) × (text ≡ led lead (texts ++ last ∷ []))
    × HaveValues IsGroupText texts front × IsIpv4Text last n
    × (groups ≡ front ++ (n / 0x10000) ∷ (n % 0x10000) ∷ [])))

from_std : (b : Bool) (lead text groups : List ℕ) → std.IsGroupsAfter b lead text groups → Led b lead text groups
from_std b lead text [] h = inl ([], h, tt)
from_std b lead text (g ∷ groups) (inl (group, rest, is, digits, more)) =
    let first : IsGroupText group g = record { digits = digits.0.0; few = digits.1; value = digits.0.1 } in
    elim (from_std b (codes ":") rest groups more) [
      | inl (texts, spelled, each) ↦ inl (group ∷ texts, rw spelled at is, (first, each))
      | inr (ok, (texts, front, last, n, spelled, each, ipv4, value)) ↦
          inr (ok, (group ∷ texts, g ∷ front, last, n, rw spelled at is, (first, each), ipv4, ap (λ gs. g ∷ gs) value))
    ]
from_std b lead text (g ∷ groups) (inr (last, octets, here, is, dots, value)) =
    let ours = IsDotted-ipv4 last octets dots in
    let spelled = is ∙ sym (append-nil (lead ++ last)) in
    inr (here, ([], [], last, from_octets octets, spelled, tt, ours, value ∙ two_groups last octets _ dots refl))

front_groups : (text groups : List ℕ) → std.IsGroups false text groups → AreGroups text groups
front_groups text groups h = grind (arith, from_std, joined_led)

end_groups : (text groups : List ℕ) → std.IsGroups true text groups → AreGroupsAtEnd text groups
end_groups text groups h = grind (arith, from_std, joined_led)

-- an IPv6 text of std's is one of ours
pub IsColonHex-groups : (text groups : List ℕ) → std.IsColonHex text groups → IsGroupsText text groups
IsColonHex-groups text groups h = grind (arith, end_groups, front_groups)

-- a printed IPv6 address is one of std's texts
pub printed_colon_hex : (n : ℕ) → std.IsColonHex (ipv6_text n) (groups_of n)
unfolding ipv6_text
printed_colon_hex n =
    let eight = length-last_digits 0x10000 (lit< tt) 8 n in
    IsColonHex-ipv6_text (groups_of n) eight (last_digit_below 0x10000 (lit< tt) 8 n)
