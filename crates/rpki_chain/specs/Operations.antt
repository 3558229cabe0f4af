-- Unions, intersections and differences of sets of whole numbers, by membership.
use Rattle.std.specs.Prelude.{◌⊎◌}
use Rattle.rpki_chain.specs.Runs.{Runs, Holds, IsRunsOf}

-- the numbers that at least one of both has
abbrev pub IsUnion : Runs → Runs → Runs → Type 0
IsUnion a b set = IsRunsOf (λ n. Holds a n ⊎ Holds b n) set

-- the numbers that both have
abbrev pub IsIntersection : Runs → Runs → Runs → Type 0
IsIntersection a b set = IsRunsOf (λ n. Holds a n × Holds b n) set

-- the numbers of the first that the second doesn't have
abbrev pub IsDifference : Runs → Runs → Runs → Type 0
IsDifference a b set = IsRunsOf (λ n. Holds a n × (Holds b n → ⊥)) set
