-- The results of the readers of whole texts.
use Rattle.std.specs.Prelude.{◌≡◌, ℕ, ◌^◌, ◌<◌, List, Result, Ok, codes}
use Rattle.rpki_addr.specs.AddressText.{IsIpv4Text, IsIpv6Text, IsIpText}
use Rattle.rpki_addr.specs.PrintedAddress.{ipv4_text, ipv6_text, ip_text}
use Rattle.rpki_text.specs.Reading.{Answers}
use Rattle.rpki_addr.specs.declared.addr.AddrParseError.{AddrParseError}
use Rattle.rpki_addr.specs.declared.addr.AddrParseError.TheVariants.{Ipv4, Ipv6, Ip}
use Rattle.rpki_addr.specs.declared.addr.IpAddr.{IpAddr}
use Rattle.rpki_addr.specs.declared.addr.IpAddr.TheVariants.{V4, V6}

-- The text is read as an IPv4 address if and only if it writes one. Any other text is refused by the error Ipv4. The
-- printed text of an address is read as that address.
pub record ReadsIpv4 (text : List ℕ) (r : Result ℕ AddrParseError) : Type 0 where
  pub exact : Answers (IsIpv4Text text) (λ e. (e ≡ Ipv4) × ((n : ℕ) → ¬ IsIpv4Text text n)) r
  pub reads_back : (n : ℕ) → n < 2 ^ 32 → text ≡ ipv4_text n → r ≡ Ok n

-- The text is read as an IPv6 address if and only if it writes one. Any other text is refused by the error Ipv6. The
-- printed text of an address is read as that address.
pub record ReadsIpv6 (text : List ℕ) (r : Result ℕ AddrParseError) : Type 0 where
  pub exact : Answers (IsIpv6Text text) (λ e. (e ≡ Ipv6) × ((n : ℕ) → ¬ IsIpv6Text text n)) r
  pub reads_back : (n : ℕ) → n < 2 ^ 128 → text ≡ ipv6_text n → r ≡ Ok n

-- the number is an address of the family
abbrev pub IsAddress : IpAddr → Type 0
IsAddress (V4 n) = n < 2 ^ 32
IsAddress (V6 n) = n < 2 ^ 128

-- The text is read as an address of either family if and only if it writes one. Any other text is refused by the error
-- Ip. The printed text of an address is read as that address.
pub record ReadsIp (text : List ℕ) (r : Result IpAddr AddrParseError) : Type 0 where
  pub exact : Answers (IsIpText text) (λ e. (e ≡ Ip) × ((a : IpAddr) → ¬ IsIpText text a)) r
  pub reads_back : (a : IpAddr) → IsAddress a → text ≡ ip_text a → r ≡ Ok a

-- the printed text of a refusal
abbrev pub address_fault_text : AddrParseError → List ℕ
address_fault_text Ipv4 = codes "invalid IPv4 address syntax"
address_fault_text Ipv6 = codes "invalid IPv6 address syntax"
address_fault_text Ip = codes "invalid IP address syntax"

-- the address is an IPv4 address
abbrev pub IsV4 : IpAddr → Type 0
IsV4 (V4 n) = Unit {0}
IsV4 (V6 n) = ⊥
