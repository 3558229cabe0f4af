-- The printed text of an address: for IPv6 the form of RFC 5952, section 4, and for mapped addresses that of section
-- 5.
use Rattle.std.specs.Prelude.{◌≡◌, ℕ, ◌/◌, ◌%◌, ◌^◌, ◌≤◌, ◌<◌, ◌⊎◌, List, ◌++◌, length, map, replicate, codes, nat_lt}
use Rattle.std.specs.Prelude.{if◌then◌else◌}
use Rattle.std.specs.Char.{digit_char}
use Rattle.std.specs.Net.Text as std
use Rattle.rpki_addr.specs.AddressText.{dotted}
use Rattle.rpki_text.specs.Digits.{last_digits, octets_of, groups_of}
use Rattle.rpki_text.specs.Lists.{joined_by}
use Rattle.rpki_addr.specs.declared.addr.IpAddr.{IpAddr}
use Rattle.rpki_addr.specs.declared.addr.IpAddr.TheVariants.{V4, V6}

-- the printed text of an IPv4 address: four decimals with dots between them
abbrev pub ipv4_text : ℕ → List ℕ
ipv4_text n = dotted (octets_of n)

-- the number of hexadecimal digits of a group without leading zeros (RFC 5952, 4.1)
abbrev pub hex_len : ℕ → ℕ
hex_len group =
    if nat_lt group 0x10 then 1 else (if nat_lt group 0x100 then 2 else (if nat_lt group 0x1000 then 3 else 4))

-- a group in hexadecimal digits, in lower case and without leading zeros (RFC 5952, 4.1 and 4.3)
abbrev pub hex_text : ℕ → List ℕ
hex_text group = map digit_char (last_digits 16 (hex_len group) group)

-- the texts of groups with colons between them
abbrev pub groups_text : List ℕ → List ℕ
groups_text groups = joined_by (codes ":") (map hex_text groups)

-- the groups are front, n zero groups and back
abbrev pub HasZeroRun : List ℕ → List ℕ → ℕ → List ℕ → Type 0
HasZeroRun groups front n back = groups ≡ front ++ (replicate n 0 ++ back)

-- this is the first of the longest runs of zero groups (RFC 5952, 4.2.3)
pub record IsFirstLongestRun (groups front : List ℕ) (n : ℕ) (back : List ℕ) : Type 0 where
  pub run : HasZeroRun groups front n back
  pub longest : (before : List ℕ) (m : ℕ) (after : List ℕ) → HasZeroRun groups before m after → m ≤ n
  pub first : (before after : List ℕ) → HasZeroRun groups before n after → length front ≤ length before

-- two or more neighbouring groups are zero, and the first longest run of them is printed as `::` (RFC 5952, 4.2)
pub record IsShortened (groups text : List ℕ) : Type 0 where
  pub front : List ℕ
  pub n : ℕ
  pub back : List ℕ
  pub chosen : IsFirstLongestRun groups front n back
  pub two : 2 ≤ n
  pub spelled : text ≡ groups_text front ++ codes "::" ++ groups_text back

-- no two neighbouring groups are zero, and all eight are printed (RFC 5952, 4.2.2)
pub record IsUnshortened (groups text : List ℕ) : Type 0 where
  pub no_two : (front : List ℕ) (n : ℕ) (back : List ℕ) → HasZeroRun groups front n back → n < 2
  pub spelled : text ≡ groups_text groups

-- the first 80 bits are zero and the next 16 are ones: an IPv4-mapped address (RFC 4291, 2.5.5.2)
abbrev pub IsMapped : ℕ → Type 0
IsMapped n = n / 2 ^ 32 ≡ 0xffff

-- The text is the printed text of the IPv6 address n.
abbrev pub IsPrintedIpv6 : ℕ → List ℕ → Type 0
IsPrintedIpv6 n text =
    (IsMapped n × (text ≡ codes "::ffff:" ++ ipv4_text (n % 2 ^ 32)))
    ⊎ ((¬ IsMapped n) × (IsShortened (groups_of n) text ⊎ IsUnshortened (groups_of n) text))

-- The printed text of an IPv6 address, as std's printer makes it. `laws::ipv6_is_printed_so` proves that it is the text
-- of IsPrintedIpv6.
unfoldable pub ipv6_text : ℕ → List ℕ
ipv6_text n = std.ipv6_text (groups_of n)

-- the printed text of an address of either family
abbrev pub ip_text : IpAddr → List ℕ
ip_text (V4 n) = ipv4_text n
ip_text (V6 n) = ipv6_text n
