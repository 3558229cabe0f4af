use Rattle.example_calls.proofs.Common.{◌++◌, ◌≡◌}
use Rattle.example_calls.proofs.filters.v4_filter.Given as goal

-- the prefixes so far, with those that are left, are all of them
abbrev pub invariant-loop-prefix : goal.invariant-loop-prefix
invariant-loop-prefix g l = l.list.items ++ l.prefix-iterator ≡ l.initial.prefix-iterator
