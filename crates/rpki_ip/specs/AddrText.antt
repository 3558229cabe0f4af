-- Addresses of either family: the family, the numbers of 128 bits that belong to an address, and its texts (RFC 4291,
-- 2.2), parsed as such numbers.
use Rattle.std.specs.Prelude.{◌≡◌, ℕ, ◌+◌, ◌-◌, ◌*◌, ◌^◌, List, Result}
use Rattle.rpki_addr.specs.AddressText.{IsIpv4Text, IsIpv6Text, IsIpText}
use Rattle.rpki_text.specs.Reading.{Answers}
use Rattle.rpki_addr.specs.declared.addr.AddrParseError.{AddrParseError}
use Rattle.rpki_addr.specs.declared.addr.AddrParseError.TheVariants.{Ipv4, Ipv6, Ip}
use Rattle.rpki_addr.specs.declared.addr.IpAddr.{IpAddr}
use Rattle.rpki_addr.specs.declared.addr.IpAddr.TheVariants.{V4, V6}
use Rattle.rpki_der.specs.declared.family.AddressFamily.{AddressFamily}
use Rattle.rpki_der.specs.declared.family.AddressFamily.TheVariants as Family

-- the family of an address
abbrev pub family_of : IpAddr → AddressFamily
family_of (V4 n) = Family.Ipv4
family_of (V6 n) = Family.Ipv6

-- the least number of an address: the 32 bits of an IPv4 address are followed by 96 zeros
abbrev pub first_of : IpAddr → ℕ
first_of (V4 n) = n * 2 ^ 96
first_of (V6 n) = n

-- the greatest number of an address: the 32 bits of an IPv4 address are followed by 96 ones
abbrev pub greatest_of : IpAddr → ℕ
greatest_of (V4 n) = n * 2 ^ 96 + (2 ^ 96 - 1)
greatest_of (V6 n) = n

-- a is the least number of a value that the text denotes
abbrev pub IsFirstOf : {X : Type 0} → (X → ℕ) → (X → Type 0) → ℕ → Type 0
IsFirstOf {X} first Writes a = (x : X) × Writes x × (a ≡ first x)

-- the text denotes no value of the kind, and e is the fault of such a text
abbrev pub IsNoText : {X : Type 0} → (X → Type 0) → AddrParseError → AddrParseError → Type 0
IsNoText {X} Writes fault e = (e ≡ fault) × ((x : X) → ¬ Writes x)

-- The text is parsed as the least number of the IPv4 address that it denotes. Any other text has the fault Ipv4.
abbrev pub ReadsIpv4Addr : List ℕ → Result ℕ AddrParseError → Type 0
ReadsIpv4Addr text r = Answers (IsFirstOf (λ n. n * 2 ^ 96) (IsIpv4Text text)) (IsNoText (IsIpv4Text text) Ipv4) r

-- The text is parsed as the number of the IPv6 address that it denotes. Any other text has the fault Ipv6.
abbrev pub ReadsIpv6Addr : List ℕ → Result ℕ AddrParseError → Type 0
ReadsIpv6Addr text r = Answers (IsFirstOf (λ n. n) (IsIpv6Text text)) (IsNoText (IsIpv6Text text) Ipv6) r

-- The text is parsed as the least number of the address of either family that it denotes. Any other text has the fault
-- Ip.
abbrev pub ReadsAddr : List ℕ → Result ℕ AddrParseError → Type 0
ReadsAddr text r = Answers (IsFirstOf first_of (IsIpText text)) (IsNoText (IsIpText text) Ip) r
