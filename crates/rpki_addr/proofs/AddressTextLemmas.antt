-- What the readers of addresses answer: a text writes one address at most, and a printed address is read back.
use Rattle.rpki_addr.proofs.Common.{dotted, Result, List, Ok, arith, from_groups, from_octets, lit<, read_ipv4}
use Rattle.rpki_addr.proofs.Common.{read_ipv6, refl, ℕ, ◌<◌, ◌^◌, ◌≡◌, IsDotted-not_colon_hex, last_digits_below}
use Rattle.rpki_addr.proofs.Common.{length-last_digits, number-last_digits, groups_of, octets_of, IsIpText, IsIpv4Text}
use Rattle.rpki_addr.proofs.Common.{IsIpv6Text, ip_text, ipv4_text, ipv6_text, IsAddress, ReadsIp, ReadsIpv4, ReadsIpv6}
use Rattle.rpki_addr.proofs.Common.{IpAddr}
use Rattle.rpki_addr.specs.declared.addr.AddrParseError.{AddrParseError}
use Rattle.rpki_addr.proofs.AddressFronts.{IsReadWhole, ipv4_reader, ipv6_reader, numbered_by, whole_answers, whole_one}
use Rattle.rpki_addr.specs.declared.addr.AddrParseError.TheVariants.{Ipv4, Ipv6}
use Rattle.rpki_addr.proofs.AddressLemmas.{IsIpv4Text-dotted, IsGroupsText-colon_hex, IsColonHex-groups}
use Rattle.rpki_addr.proofs.AddressLemmas.{printed_colon_hex}

-- a text writes one address at most, of one family
pub IsIpv4Text-not_ipv6 : (text : List ℕ) (m n : ℕ) → IsIpv4Text text m → IsIpv6Text text n → ⊥
IsIpv4Text-not_ipv6 text m n h k =
    let colons = IsGroupsText-colon_hex text k.groups k.written in
    IsDotted-not_colon_hex text h.octets k.groups (IsIpv4Text-dotted text m h) colons

pub IsIpText-one : (text : List ℕ) (a b : IpAddr) → IsIpText text a → IsIpText text b → a ≡ b
IsIpText-one text a b h k = grind (arith, IsIpv4Text-not_ipv6, whole_one ipv4_reader, whole_one ipv6_reader)

-- what is printed of an address writes it
pub IsIpv4Text-ipv4_text : (n : ℕ) → n < 2 ^ 32 → IsIpv4Text (ipv4_text n) n
IsIpv4Text-ipv4_text n small =
    let spelled : ipv4_text n ≡ dotted (octets_of n) = refl in
    let small_octets = last_digits_below 0x100 (lit< tt) 4 n in
    search (length-last_digits 0x100 (lit< tt) 4 n, small_octets, spelled, number-last_digits 0x100 (lit< tt) 4 n small)

pub IsIpv6Text-ipv6_text : (n : ℕ) → n < 2 ^ 128 → IsIpv6Text (ipv6_text n) n
IsIpv6Text-ipv6_text n small =
    let written = IsColonHex-groups _ (groups_of n) (printed_colon_hex n) in
    search (written, number-last_digits 0x10000 (lit< tt) 8 n small)

pub IsIpText-ip_text : (a : IpAddr) → IsAddress a → IsIpText (ip_text a) a
IsIpText-ip_text a small = grind (arith, IsIpv4Text-ipv4_text, IsIpv6Text-ipv6_text)

-- a right answer is the only one, and a printed address is read back
pub reads_ipv4 : (text : List ℕ) (r : Result ℕ AddrParseError)
    → IsReadWhole Ipv4 (numbered_by from_octets (read_ipv4 text)) r → ReadsIpv4 text r
reads_ipv4 text r found =
    let exact = whole_answers ipv4_reader Ipv4 text r found in
    record { exact = exact; reads_back = λ n small is. exact.each_value n (rw is (IsIpv4Text-ipv4_text n small)) }

pub reads_ipv6 : (text : List ℕ) (r : Result ℕ AddrParseError)
    → IsReadWhole Ipv6 (numbered_by from_groups (read_ipv6 text)) r → ReadsIpv6 text r
reads_ipv6 text r found =
    let exact = whole_answers ipv6_reader Ipv6 text r found in
    record { exact = exact; reads_back = λ n small is. exact.each_value n (rw is (IsIpv6Text-ipv6_text n small)) }

-- the same of either family
pub reads_ip_ok : (text : List ℕ) (a : IpAddr) → IsIpText text a → ReadsIp text (Ok a)
reads_ip_ok text a h = grind (arith, IsIpText-ip_text, IsIpText-one)
