-- A printed address is made of the bytes of a written one, so it has neither a slash nor a dash nor a comma.
use Rattle.rpki_addr.proofs.Common.{List, arith, lit<, refl, ℕ, ◌≢◌, All, last_digits_below, length-last_digits}
use Rattle.rpki_addr.proofs.Common.{groups_of, octets_of, ip_text, ipv4_text, ipv6_text, IpAddr}
use Rattle.rpki_text.specs.Cuts.{HasNo, slash, dash}
use Rattle.rpki_addr.proofs.AddressLemmas.{to_dotted, printed_colon_hex}
use Rattle.rpki_addr.proofs.WrittenBytes.{IsWrittenByte, dots_written, colon_hex_written}

-- a byte of a printed address
abbrev pub IsAddressByte : ℕ → Type 0
IsAddressByte b = IsWrittenByte b

pub ipv4_bytes : (n : ℕ) → All IsAddressByte (ipv4_text n)
ipv4_bytes n =
    let four = length-last_digits 0x100 (lit< tt) 4 n in
    dots_written _ _ (to_dotted (ipv4_text n) (octets_of n) four (last_digits_below 0x100 (lit< tt) 4 n) refl)

pub ipv6_bytes : (n : ℕ) → All IsAddressByte (ipv6_text n)
ipv6_bytes n = colon_hex_written (ipv6_text n) (groups_of n) (printed_colon_hex n)

-- and one of either family
pub ip_bytes : (a : IpAddr) → All IsAddressByte (ip_text a)
ip_bytes a = grind (arith, ipv4_bytes, ipv6_bytes)

-- none of these bytes is a slash, or a dash
pub not_slash : (b : ℕ) → IsAddressByte b → b ≢ slash
not_slash b h e = grind arith

pub not_dash : (b : ℕ) → IsAddressByte b → b ≢ dash
not_dash b h e = grind arith

-- so it has no slash and no dash
pub no_slash : (text : List ℕ) → All IsAddressByte text → HasNo slash text
no_slash text h k l = not_slash _ (h k 0 l)

pub no_dash : (text : List ℕ) → All IsAddressByte text → HasNo dash text
no_dash text h k l = not_dash _ (h k 0 l)
