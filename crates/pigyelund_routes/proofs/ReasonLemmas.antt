-- The validity of a route that a lookup finds, and its reason.
use Rattle.std.proofs.Common.{◌≡◌, ℕ, Bool, true, false, List, arith, inl, inr, refl}
use Rattle.std.specs.Prelude.{◌↔◌, IsTrue}
use Rattle.rpki_prefix.specs.Values.{FamilyPrefix}
use Rattle.roa_origin.specs.Vrps.{Vrp}
use Rattle.roa_origin.specs.Validities.{HasCoveringAsn}
use Rattle.roa_origin.specs.declared.validation.Validity.{Validity}
use Rattle.roa_origin.specs.declared.validation.Validity.TheVariants.{Valid, Invalid, NotFound}
use Rattle.pigyelund_routes.specs.Reasons.{IsReason, reason_number}

valid_is_not_invalid : Valid ≡ Invalid → ⊥
valid_is_not_invalid same = grind (arith, same)

unknown_is_not_invalid : NotFound ≡ Invalid → ⊥
unknown_is_not_invalid same = grind (arith, same)

false_is_not_true : IsTrue false → ⊥
false_is_not_true same = grind (arith, same)

-- the number of the reason says whether a VRP that covers the route has its AS
pub reason_is : (route : FamilyPrefix) (asn : ℕ) (vrps : List Vrp) (validity : Validity) (has_as : Bool) (reason : ℕ)
    → (IsTrue has_as ↔ HasCoveringAsn route asn vrps) → reason ≡ reason_number validity has_as
    → IsReason route asn vrps validity reason
reason_is route asn vrps Valid has_as reason holds same = inl (same, valid_is_not_invalid)
reason_is route asn vrps NotFound has_as reason holds same = inl (same, unknown_is_not_invalid)
reason_is route asn vrps Invalid true reason holds same = inr (inr (same, refl, holds.0 refl))
reason_is route asn vrps Invalid false reason holds same =
    inr (inl (same, refl, λ has. false_is_not_true (holds.1 has)))
