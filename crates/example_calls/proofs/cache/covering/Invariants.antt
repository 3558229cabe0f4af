-- What was found so far are the prefixes, of those gone through, that cover the route.
use Rattle.example_calls.proofs.Common.{take, AreThose, CoversPrefix}
use Rattle.example_calls.proofs.cache.covering.Given as goal

abbrev pub invariant-loop-prefix : goal.invariant-loop-prefix
invariant-loop-prefix g l = AreThose (λ p. CoversPrefix p l.route) (take l.prefix-index l.table) l.found.items
