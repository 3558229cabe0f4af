-- The part of a trust anchor's resources that the certificates on a path leave (RFC 3779, 2.3 and 3.3; RFC 6487, 7.2;
-- RFC 8360, 4).
use Rattle.std.specs.Prelude.{◌≡◌, ◌<◌, List, [], ◌∷◌, take, slice_index_or, length}
use Rattle.rpki_resources.specs.Triples.{Triple}
use Rattle.rpki_extensions.specs.Issued.{HasVerifyError, IsVerified}
use Rattle.rpki_extensions.specs.declared.error.VerifyPathError.{VerifyPathError}
use Rattle.rpki_extensions.specs.declared.extensions.Extensions.{Extensions}

-- The set is the part of the anchor's that the certificates leave. Each is verified by the part that the certificates
-- before it leave.
abbrev pub IsVerifiedPath : Triple → List Extensions → Triple → Type 0
IsVerifiedPath anchor [] set = set ≡ anchor
IsVerifiedPath anchor (certificate ∷ certificates) set =
    (next : Triple) × IsVerified anchor certificate next × IsVerifiedPath next certificates set

-- the certificate at the index isn't verified, for the reason, by the part that the certificates before it leave
abbrev pub IsFirstVerifyError : {A : Type 0} → Triple → List Extensions → VerifyPathError A → Type 0
IsFirstVerifyError anchor certificates refusal =
    (certificate : Extensions) × (refusal.step < length certificates)
    × (slice_index_or certificates refusal.step certificate ≡ certificate)
    × ((issuer : Triple) × IsVerifiedPath anchor (take refusal.step certificates) issuer
    × HasVerifyError issuer certificate refusal.reason)
