-- The part of a trust anchor's set that certificates leave (RFC 6487, 7.2; RFC 8360, 4; RFC 8630, 2.3).
use Rattle.std.specs.Prelude.{List}
use Rattle.rpki_resources.specs.Triples.{HasEachOf, Triple}
use Rattle.rpki_extensions.specs.Anchors.{IsAnchorSet, IsNoAnchor}
use Rattle.rpki_extensions.specs.Paths.{IsFirstVerifyError, IsVerifiedPath}
use Rattle.rpki_extensions.specs.declared.extensions.Extensions.{Extensions}
use Rattle.rpki_extensions.specs.declared.error.VerifyBelowError.{VerifyBelowError}
use Rattle.rpki_extensions.specs.declared.error.VerifyBelowError.TheVariants.{Anchor, Certificate}

-- the anchor lists a set, and the certificates leave this part of it
abbrev pub IsLeftBelow : Extensions → List Extensions → Triple → Type 0
IsLeftBelow anchor certificates set = (root : Triple) × IsAnchorSet anchor root × IsVerifiedPath root certificates set

-- the anchor lists a set that includes this set
abbrev pub LiesInAnchor : Extensions → Triple → Type 0
LiesInAnchor anchor set = (root : Triple) × IsAnchorSet anchor root × HasEachOf root set

-- the certificate is the first that isn't verified by the part of the root that the certificates before it leave
abbrev pub IsVerifyBelowErrorOfRoot : {A : Type 0} → Triple → List Extensions → VerifyBelowError A → Type 0
IsVerifyBelowErrorOfRoot root certificates (Anchor reason) = ⊥
IsVerifyBelowErrorOfRoot root certificates (Certificate refusal) = IsFirstVerifyError root certificates refusal

-- the anchor lists no set for the reason, or else the certificate is the first that isn't verified
abbrev pub IsVerifyBelowError : {A : Type 0} → Extensions → List Extensions → VerifyBelowError A → Type 0
IsVerifyBelowError anchor certificates (Anchor reason) = IsNoAnchor anchor reason
IsVerifyBelowError anchor certificates (Certificate refusal) =
    (root : Triple) × IsAnchorSet anchor root × IsFirstVerifyError root certificates refusal
