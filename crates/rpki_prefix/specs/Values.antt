-- Prefixes of addresses of one family (RFC 4632, 3.1; RFC 4291, 2.3).
use Rattle.std.specs.Prelude.{◌≡◌, ◌≢◌, ℕ, ◌+◌, ◌-◌, ◌%◌, ◌^◌, ◌<◌, ◌≤◌, Bool, true, false, codes, List}
use Rattle.rpki_cover.specs.Bits.{cleared}
pub use Rattle.rpki_addr.specs.Widths.{width}
use Rattle.rpki_cover.specs.Prefixes.{PrefixValue, IsPrefix, IsIn, LiesIn, last_of}
use Rattle.rpki_addr.specs.declared.addr.IpAddr.{IpAddr}
use Rattle.rpki_addr.specs.declared.addr.IpAddr.TheVariants.{V4, V6}
use Rattle.rpki_prefix.specs.declared.error.PrefixError.{PrefixError}
use Rattle.rpki_prefix.specs.declared.error.PrefixError.TheVariants.{LenOverflow, NonZeroHost}

-- the bits of an address as a number
abbrev pub address_number : IpAddr → ℕ
address_number (V4 n) = n
address_number (V6 n) = n

-- whether the address is an IPv6 address
abbrev pub is_v6 : IpAddr → Bool
is_v6 (V4 n) = false
is_v6 (V6 n) = true

-- the address of the same family with the bits of a number
abbrev pub with_bits : IpAddr → ℕ → IpAddr
with_bits (V4 n) m = V4 m
with_bits (V6 n) m = V6 m

-- the model of a prefix: its address, and the number of its leading bits that are fixed
pub record FamilyPrefix : Type 0 where
  pub addr : IpAddr
  pub len : ℕ

-- the numbers of the addresses of a prefix, as a prefix of its family's width
abbrev pub interval : FamilyPrefix → PrefixValue
interval p = record { first = address_number p.addr; len = p.len }

-- the interval is a prefix: the length is one of the family, and the bits after it are clear
abbrev pub IsFamilyPrefix : FamilyPrefix → Type 0
IsFamilyPrefix p = IsPrefix (width p.addr) (interval p)

-- the highest address of a prefix
abbrev pub last_addr : FamilyPrefix → IpAddr
last_addr p = with_bits p.addr (last_of (width p.addr) (interval p))

-- the address with the bits after the first len cleared
abbrev pub cleared_addr : IpAddr → ℕ → IpAddr
cleared_addr a len = with_bits a (cleared (width a) (address_number a) len)

-- the address with the bits after the first len set
abbrev pub filled_addr : IpAddr → ℕ → IpAddr
filled_addr a len = with_bits a (cleared (width a) (address_number a) len + 2 ^ (width a - len) - 1)

-- p is the prefix of an address and a length, if the bits after the length are zero
pub record IsPrefixOf (a : IpAddr) (len : ℕ) (p : FamilyPrefix) : Type 0 where
  pub same_addr : p.addr ≡ a
  pub same_len : p.len ≡ len
  pub is_prefix : IsFamilyPrefix p

-- p is the prefix of the first len bits of an address, for any other bits of it
pub record IsRelaxedPrefixOf (a : IpAddr) (len : ℕ) (p : FamilyPrefix) : Type 0 where
  pub same_bits : p.addr ≡ cleared_addr a len
  pub same_len : p.len ≡ len
  pub is_prefix : IsFamilyPrefix p
  pub holds : IsIn (width p.addr) (interval p) (address_number a)

-- why an address and a length are not a prefix: the length is checked first
abbrev pub HasPrefixError : IpAddr → ℕ → PrefixError → Type 0
HasPrefixError a len LenOverflow = width a < len
HasPrefixError a len NonZeroHost = (len ≤ width a) × (address_number a % 2 ^ (width a - len) ≢ 0)

-- why an address and a length are not a prefix if the host bits are cleared: only the length can be invalid
abbrev pub HasRelaxedPrefixError : IpAddr → ℕ → PrefixError → Type 0
HasRelaxedPrefixError a len LenOverflow = width a < len
HasRelaxedPrefixError a len NonZeroHost = ⊥

-- both are of one family, and each address of q is an address of p
pub record CoversPrefix (p q : FamilyPrefix) : Type 0 where
  pub family : is_v6 p.addr ≡ is_v6 q.addr
  pub inside : LiesIn (width q.addr) (IsIn (width p.addr) (interval p)) (interval q)

-- the printed text of an error
abbrev pub prefix_error_text : PrefixError → List ℕ
prefix_error_text LenOverflow = codes "prefix length too large"
prefix_error_text NonZeroHost = codes "non-zero host portion"
