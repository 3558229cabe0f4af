-- Unions, intersections and differences of sets of whole IPv4 addresses consist of whole IPv4 addresses.
use Rattle.rpki_ipres.proofs.Common.{inl, inr, sym, ⊎_elim, Holds, Runs, IsWhole}
use Rattle.rpki_chain.specs.Operations.{IsUnion, IsIntersection, IsDifference}

pub whole_union : (a b set : Runs) → IsWhole (Holds a) → IsWhole (Holds b) → IsUnion a b set → IsWhole (Holds set)
whole_union a b set own other is m n same held =
    (is.members n).1 (⊎_elim (λ x. inl (own m n same x)) (λ y. inr (other m n same y)) ((is.members m).0 held))

pub whole_intersection : (a b set : Runs) → IsWhole (Holds a) → IsWhole (Holds b) → IsIntersection a b set
    → IsWhole (Holds set)
whole_intersection a b set own other is m n same held =
    let (x, y) = (is.members m).0 held in
    (is.members n).1 (own m n same x, other m n same y)

pub whole_difference : (a b set : Runs) → IsWhole (Holds a) → IsWhole (Holds b) → IsDifference a b set
    → IsWhole (Holds set)
whole_difference a b set own other is m n same held =
    let (x, outside) = (is.members m).0 held in
    (is.members n).1 (own m n same x, λ y. outside (other n m (sym same) y))
