use Rattle.std.proofs.Common.{◌≡◌, ◌++◌, map}
use Rattle.pigyelund_c.specs.Covers.{raw_prefix}
use Rattle.pigyelund_c.proofs.cover.family_prefixes.Given as given

-- the prefixes so far, with those that are left, are all of them
abbrev pub invariant-loop-prefix : given.invariant-loop-prefix
invariant-loop-prefix g l = l.list.items ++ map (raw_prefix g.F.Family.FAMILY) l.prefix-iterator
    ≡ map (raw_prefix g.F.Family.FAMILY) l.initial.prefix-iterator
