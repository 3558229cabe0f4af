-- VRPs of one table that another does not have, by the lists that the tables are made of.
use Rattle.pigyelund_routes.proofs.Common.{List, map}
use Rattle.roa_origin.specs.Tables.{IsTableOf, IsWithout, as_sent}
use Rattle.roa_origin.specs.Vrps.{Vrp}

pub without : (one other one_sent other_sent left : List Vrp) → IsTableOf one one_sent → IsTableOf other other_sent
    → IsWithout one_sent other_sent left → IsWithout (map as_sent one) (map as_sent other) left
without one other one_sent other_sent left are others is = record {
  ascending = is.ascending;
  members = λ p. (
    λ in_left. let (has, not) = (is.members p).0 in_left in
        ((are.members p).0 has, λ other_has. not ((others.members p).1 other_has)),
    λ (has, not). (is.members p).1 ((are.members p).1 has, λ other_has. not ((others.members p).0 other_has)),
  );
}
