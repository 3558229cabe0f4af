-- The routes gone through are counted.
use Rattle.example_calls.proofs.Common.{take, ◌≤◌, IsCountOfInvalid}
use Rattle.example_calls.proofs.routes.count_invalid.Given as goal

abbrev pub invariant-loop-route : goal.invariant-loop-route
invariant-loop-route g l = (l.count ≤ l.route-index) × IsCountOfInvalid l.table (take l.route-index l.routes) l.count
