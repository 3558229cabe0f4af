-- None was found so far.
use Rattle.roa_origin.proofs.Common.{List, ℕ, ◌<◌, Vrp, AreChangesOf, IsDuplicateAnnouncement}
use Rattle.roa_origin.proofs.updates.first_duplicate.Given as goal

abbrev pub invariant-loop-place : goal.invariant-loop-place
invariant-loop-place l =
    (gone : List Vrp) → AreChangesOf gone l.withdrawn → (n : ℕ) → n < l.place
    → ¬ IsDuplicateAnnouncement l.table l.announced gone n
