-- The VRPs in which two tables differ, as a cache sends them (RFC 8210, 5.6).
use Rattle.std.specs.Prelude.{◌≡◌, ◌⊎◌, ℕ, List, map}
use Rattle.std.specs.Ptr.{Ptr}
use Rattle.roa_origin.specs.Tables.{IsWithout, as_sent}
use Rattle.roa_origin.specs.Vrps.{Vrp}
use Rattle.pigyelund_routes.specs.ReturnedVrps.{handed_of}
use Rattle.pigyelund_routes.specs.Tables.{IsAsked}
use Rattle.pigyelund_routes.specs.Written.{AreBothWritten}
use Rattle.pigyelund_routes.specs.declared.route.RawVrp.{RawVrp as Handed}

-- The list has the VRPs of one table that the other does not have, ascending and each once, in the form for C. VRPs are
-- compared as they are sent: with a maximum length.
abbrev pub AreMissing : List Vrp → List Vrp → List Handed → Type 0
AreMissing one other list =
    (vrps : List Vrp) × IsWithout (map as_sent one) (map as_sent other) vrps × (list ≡ map handed_of vrps)

-- Announced VRPs are in the next table and not in the old one. Withdrawn VRPs are in the old table and not in the next
-- one.
pub record AreBothMissing (old next : List Vrp) (announced withdrawn : List Handed) : Type 0 where
  pub announced_are : AreMissing next old announced
  pub withdrawn_are : AreMissing old next withdrawn

-- The VRPs in which two tables differ are written, or one of the buffers is too small. Or the status is 512, and
-- nothing is written.
abbrev pub AreChangesWritten : List Vrp → List Vrp → List Handed → List Handed → ℕ → List Handed → List Handed → ℕ → ℕ
    → Type 0
AreChangesWritten old next before after len withdrawn_before withdrawn_after withdrawn_len result =
    ((announced : List Handed) × (withdrawn : List Handed) × AreBothMissing old next announced withdrawn
    × AreBothWritten announced withdrawn before after len withdrawn_before withdrawn_after withdrawn_len result)
    ⊎ ((result ≡ 512) × (after ≡ before) × (withdrawn_after ≡ withdrawn_before) × (len ≡ 0) × (withdrawn_len ≡ 0))

-- The VRPs in which two tables differ are returned.
abbrev pub AreTableChangesReturned : Ptr → List Vrp → Ptr → List Vrp → List Handed → List Handed → ℕ → List Handed
    → List Handed → ℕ → ℕ → Type 0
AreTableChangesReturned old_at old next_at next before after len withdrawn_before withdrawn_after withdrawn_len result =
    let Nothing : Type 0 = (after ≡ before) × (withdrawn_after ≡ withdrawn_before) × (len ≡ 0) × (withdrawn_len ≡ 0) in
    IsAsked old_at
    (IsAsked next_at
    (AreChangesWritten old next before after len withdrawn_before withdrawn_after withdrawn_len result)
    Nothing result)
    Nothing result
