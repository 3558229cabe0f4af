-- The VRPs that are announced and withdrawn from one table to the next (RFC 8210, 5.6 and 8.2).
use Rattle.std.specs.Prelude.{List}
use Rattle.roa_origin.specs.Vrps.{Vrp}
use Rattle.roa_origin.specs.Tables.{IsWithout}
use Rattle.roa_origin.specs.declared.changes.VrpChanges.{VrpChanges}

-- Announced VRPs are in the next table and not in the previous one. Withdrawn VRPs are in the previous table and not in
-- the next one.
pub record AreVrpChanges {A : Type 0} (table next : List Vrp) (changes : VrpChanges A) : Type 0 where
  pub announced : IsWithout next table changes.announced
  pub withdrawn : IsWithout table next changes.withdrawn
