-- The places so far are those of the routes gone through whose validity differs.
use Rattle.roa_origin.proofs.ChangedRoutes.{AreSoFar}
use Rattle.roa_origin.proofs.reevaluation.changed_routes.Given as goal

abbrev pub invariant-loop-place : goal.invariant-loop-place
invariant-loop-place g l = AreSoFar l.old l.new l.routes l.place l.places.items
