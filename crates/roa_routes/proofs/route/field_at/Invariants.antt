-- What is left to pass leads to the field.
use Rattle.roa_routes.proofs.Common.{fields_of, slice_get, ◌≡◌}
use denote.Shadow.{shadow}
use denote.Text.{Utf8}
use Rattle.roa_routes.proofs.route.field_at.Given as goal

abbrev pub invariant-loop-left : goal.invariant-loop-left
invariant-loop-left l =
    (slice_get (fields_of l.rest) l.left ≡ slice_get (fields_of l.line) l.place) × shadow (Utf8 l.rest)

abbrev pub decreases-loop-left : goal.decreases-loop-left
decreases-loop-left l = l.left
