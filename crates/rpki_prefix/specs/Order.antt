-- The order of prefixes, as in the Rust crate `rpki` 0.20.1: by family, by last address, and a longer prefix before a
-- shorter one.
use Rattle.std.specs.Prelude.{ℕ}
use Rattle.std.specs.declared.cmp.Ordering.{Ordering}
use Rattle.std.specs.Ordering.{on, then_cmp, flip_args, bool_cmp, nat_cmp}
use Rattle.rpki_cover.specs.Prefixes.{last_of}
use Rattle.rpki_prefix.specs.Values.{FamilyPrefix, width, is_v6, interval}

-- the highest address of a prefix as a number
abbrev pub last_bits : FamilyPrefix → ℕ
last_bits p = last_of (width p.addr) (interval p)

-- the order of prefixes: IPv4 before IPv6, then by the highest address, then the longer prefix first
abbrev pub prefix_cmp : FamilyPrefix → FamilyPrefix → Ordering
prefix_cmp =
    then_cmp (on (λ p. is_v6 p.addr) bool_cmp) (then_cmp (on last_bits nat_cmp) (flip_args (on (λ p. p.len) nat_cmp)))
