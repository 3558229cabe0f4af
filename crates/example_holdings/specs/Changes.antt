-- The changes for a holder of resources.
use Rattle.std.specs.Prelude.{◌≡◌}
use Rattle.rpki_resources.specs.Triples.{Triple, Changes, IsDifferenceOf, IsUnionOf}

-- the set `had` without the removed resources, and with the added ones, is the set `gets`
abbrev pub LeadsTo : Triple → Changes → Triple → Type 0
LeadsTo had changes gets =
    (kept set : Triple) → IsDifferenceOf had changes.removed kept → IsUnionOf kept changes.added set → set ≡ gets
