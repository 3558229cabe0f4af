-- Prefixes inside the sets of resources of their families (RFC 9582, 5; RFC 3779, 2.2.3.6).
use Rattle.std.specs.Prelude.{ℕ, ◌+◌, ◌-◌, ◌*◌, ◌^◌, ◌<◌, List, Option, MatchOption, All, HoldsAt, length}
use Rattle.std.specs.List.{AllWithin}
use Rattle.rpki_addr.specs.declared.addr.IpAddr.{IpAddr}
use Rattle.rpki_addr.specs.declared.addr.IpAddr.TheVariants.{V4, V6}
use Rattle.rpki_cover.specs.Prefixes.{last_of}
use Rattle.rpki_chain_core.specs.Sets.{IsWithin}
use Rattle.rpki_chain.specs.Runs.{Holds}
use Rattle.rpki_ip.specs.AddrText.{family_of}
use Rattle.rpki_prefix.specs.MaxLen.{MaxLenValue}
use Rattle.rpki_prefix.specs.Values.{FamilyPrefix, interval, width}
use Rattle.rpki_resources.specs.Triples.{Triple, set_of_family}

-- how many numbers of 128 bits an address has: an IPv4 address has those that begin with its 32 bits
abbrev pub numbers_each : IpAddr → ℕ
numbers_each (V4 n) = 2 ^ 96
numbers_each (V6 n) = 1

-- the lowest and the highest of the numbers of the prefix's addresses
abbrev pub prefix_numbers : FamilyPrefix → ℕ × ℕ
prefix_numbers p =
    ((interval p).first * numbers_each p.addr, (last_of (width p.addr) (interval p) + 1) * numbers_each p.addr - 1)

-- the set's addresses of the prefix's family include each address of the prefix
abbrev pub IsPrefixInside : Triple → FamilyPrefix → Type 0
IsPrefixInside set p = (n : ℕ) → IsWithin (prefix_numbers p) n → Holds (set_of_family (family_of p.addr) set) n

-- the lowest index whose prefix isn't inside the set, or None if all prefixes are inside
abbrev pub IsFirstOutside : Triple → List MaxLenValue → Option ℕ → Type 0
IsFirstOutside set prefixes found =
    MatchOption found (All (λ e. IsPrefixInside set e.prefix) prefixes)
    (λ at. (at < length prefixes) × HoldsAt (λ e. ¬ IsPrefixInside set e.prefix) prefixes at
    × AllWithin (λ e. IsPrefixInside set e.prefix) prefixes 0 at)
