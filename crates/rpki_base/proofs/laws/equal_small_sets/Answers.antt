-- `==` compares the lists, and lists of the same numbers are one.
use Rattle.rpki_base.proofs.Common.{arith}
use Rattle.std.specs.Cmp.Lexicographic.{bytes_decides}
use Rattle.rpki_base.proofs.SmallSetLemmas.{one_set}
use Rattle.rpki_base.proofs.laws.equal_small_sets.Goals as goal

pub returns : goal.returns
returns g c a b left right =
    let equal = bytes_decides a b in
    ((λ same n. grind (arith, equal.0 same)), λ numbers. equal.1 (one_set a b left right numbers))
