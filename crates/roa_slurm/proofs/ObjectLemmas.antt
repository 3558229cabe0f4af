-- The names of an object's members, one after another.
use Rattle.roa_slurm.proofs.Common.{List, [], arith, inl, inr, suc, take, zero, ℕ, ◌++◌, ◌+◌, ◌<◌, ◌∷◌, ◌≡◌, length}
use Rattle.roa_slurm.proofs.Common.{get_or, take_more, Bor, Value, members_view, Defines, HasUnknown, KnowsAll}
use Rattle.roa_slurm.proofs.Common.{SlurmObject}

-- one more name that the RFC defines
known_push : {A : Type 0} (whole : SlurmObject) (ms : List (Bor (List ℕ) × Value A)) (m : Bor (List ℕ) × Value A)
    → KnowsAll whole (members_view ms) → Defines whole m.0.now → KnowsAll whole (members_view (ms ++ m ∷ []))
known_push whole [] m known is = (is, tt)
known_push whole (n ∷ ms) m known is = grind (arith, known_push whole ms)

-- the next member is one that the RFC defines
pub known_more : {A : Type 0} (whole : SlurmObject) (all : List (Bor (List ℕ) × Value A)) (i : ℕ)
    (m : Bor (List ℕ) × Value A) → i < length all → m ≡ get_or all i m
    → KnowsAll whole (members_view (take i all)) → Defines whole m.0.now
    → KnowsAll whole (members_view (take (i + 1) all))
known_more whole all i m less is known defined = grind (arith, known_push, take_more)

-- or it is the first that the RFC doesn't define
pub unknown_at : {A : Type 0} (whole : SlurmObject) (first at : ℕ) (all : List (Bor (List ℕ) × Value A)) (i : ℕ)
    (m : Bor (List ℕ) × Value A) → i < length all → m ≡ get_or all i m
    → KnowsAll whole (members_view (take i all)) → ¬ Defines whole m.0.now → first + i ≡ at
    → HasUnknown whole first (members_view all) at
unknown_at whole first at [] i m less is known other sum = absurd (omega arith)
unknown_at whole first at (n ∷ all) zero m less is known other sum =
    inl (rw is at other, omega arith)
unknown_at whole first at (n ∷ all) (suc i) m less is known other sum =
    inr (known.0, unknown_at whole (first + 1) at all i m (omega arith) is known.1 other (omega arith))
