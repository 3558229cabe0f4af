-- Texts of addresses (RFC 4291, 2.2), each with the number that it writes.
use Rattle.std.specs.Prelude.{◌≡◌, ℕ, ◌-◌, ◌+◌, ◌/◌, ◌%◌, ◌≤◌, ◌⊎◌, List, [], ◌∷◌, ◌++◌, length, map, replicate, codes}
use Rattle.std.specs.Prelude.{decimal}
use Rattle.std.specs.Int.Digits.{AllBelowBase}
use Rattle.std.specs.Str.Parse.{IsNumeral, digits_value}
use Rattle.rpki_text.specs.Digits.{from_octets, from_groups}
use Rattle.rpki_text.specs.Lists.{joined_by, HaveValues}
use Rattle.rpki_addr.specs.declared.addr.IpAddr.{IpAddr}
use Rattle.rpki_addr.specs.declared.addr.IpAddr.TheVariants.{V4, V6}

-- octets in decimal, which has no sign and no leading zero, with dots between them
abbrev pub dotted : List ℕ → List ℕ
dotted octets = joined_by (codes ".") (map decimal octets)

-- The text is four decimals with dots between them, each 0 to 255: the octets of n, the highest first.
pub record IsIpv4Text (text : List ℕ) (n : ℕ) : Type 0 where
  pub octets : List ℕ
  pub four : length octets ≡ 4
  pub small : AllBelowBase 256 octets
  pub spelled : text ≡ dotted octets
  pub value : from_octets octets ≡ n

-- The text is one to four hexadecimal digits, in any case of letters, that write the group.
pub record IsGroupText (text : List ℕ) (group : ℕ) : Type 0 where
  pub digits : IsNumeral 16 text
  pub few : length text ≤ 4
  pub value : digits_value 16 text ≡ group

-- the text is these groups with colons between them, or empty if there are no groups
pub record AreGroups (text groups : List ℕ) : Type 0 where
  pub texts : List (List ℕ)
  pub spelled : text ≡ joined_by (codes ":") texts
  pub each : HaveValues IsGroupText texts groups

-- the text is groups and then an IPv4 text for the last two groups, with colons between them
pub record AreGroupsAndIpv4 (text groups : List ℕ) : Type 0 where
  pub texts : List (List ℕ)
  pub front : List ℕ
  pub last : List ℕ
  pub n : ℕ
  pub spelled : text ≡ joined_by (codes ":") (texts ++ last ∷ [])
  pub each : HaveValues IsGroupText texts front
  pub ipv4 : IsIpv4Text last n
  pub value : groups ≡ front ++ (n / 0x10000) ∷ (n % 0x10000) ∷ []

-- the text is groups, the last two of which may be an IPv4 text (RFC 4291, 2.2)
abbrev pub AreGroupsAtEnd : List ℕ → List ℕ → Type 0
AreGroupsAtEnd text groups = AreGroups text groups ⊎ AreGroupsAndIpv4 text groups

-- The text is groups, `::` and groups, at most seven in all, and the groups between are zero. It may end in an IPv4
-- text.
pub record IsCompressed (text groups : List ℕ) : Type 0 where
  pub front_text : List ℕ
  pub back_text : List ℕ
  pub front : List ℕ
  pub back : List ℕ
  pub spelled : text ≡ front_text ++ codes "::" ++ back_text
  pub front_groups : AreGroups front_text front
  pub back_groups : AreGroupsAtEnd back_text back
  pub at_most_seven : length front + length back ≤ 7
  pub value : groups ≡ front ++ replicate (8 - (length front + length back)) 0 ++ back

-- the text is eight groups, the last two of which may be an IPv4 text, or it is compressed
abbrev pub IsGroupsText : List ℕ → List ℕ → Type 0
IsGroupsText text groups = (AreGroupsAtEnd text groups × (length groups ≡ 8)) ⊎ IsCompressed text groups

-- The text writes the eight groups of n.
pub record IsIpv6Text (text : List ℕ) (n : ℕ) : Type 0 where
  pub groups : List ℕ
  pub written : IsGroupsText text groups
  pub value : from_groups groups ≡ n

-- the text writes the address, in its family
abbrev pub IsIpText : List ℕ → IpAddr → Type 0
IsIpText text (V4 n) = IsIpv4Text text n
IsIpText text (V6 n) = IsIpv6Text text n
