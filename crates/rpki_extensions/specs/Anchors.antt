-- The resources of a trust anchor, which has no issuer (RFC 6487, 4.8.10 and 4.8.11; RFC 8630, 2.3).
use Rattle.std.specs.Prelude.{◌⊎◌}
use Rattle.rpki_chain.specs.Claims.{Claim}
use Rattle.rpki_resources.specs.Triples.{AreListed, IsOneInherited, Triple}
use Rattle.rpki_extensions.specs.Claims.{AreClaims, AreNoClaims}
use Rattle.rpki_extensions.specs.declared.error.VerifyError.{VerifyError}
use Rattle.rpki_extensions.specs.declared.error.VerifyError.TheVariants.{Absent, AsOctets, AddressOctets, Inherited}
use Rattle.rpki_extensions.specs.declared.error.VerifyError.TheVariants.{Asn, Ipv4, Ipv6}
use Rattle.rpki_extensions.specs.declared.extensions.Extensions.{Extensions}

-- the extensions claim resources, and list this set
abbrev pub IsAnchorSet : Extensions → Triple → Type 0
IsAnchorSet certificate set =
    (asn : Claim) × (v4 : Claim) × (v6 : Claim) × AreClaims certificate asn v4 v6 × AreListed asn v4 v6 set

-- the extensions inherit some resources, and the reason is Inherited
abbrev pub InheritsSome : {A : Type 0} → Extensions → VerifyError A → Type 0
InheritsSome certificate Inherited =
    (asn : Claim) × (v4 : Claim) × (v6 : Claim) × AreClaims certificate asn v4 v6 × IsOneInherited asn v4 v6
InheritsSome certificate Absent = ⊥
InheritsSome certificate (AsOctets fault) = ⊥
InheritsSome certificate (AddressOctets fault) = ⊥
InheritsSome certificate (Asn excess) = ⊥
InheritsSome certificate (Ipv4 excess) = ⊥
InheritsSome certificate (Ipv6 excess) = ⊥

-- the extensions list no set for this reason: there are no claims, or some resources are inherited
abbrev pub IsNoAnchor : {A : Type 0} → Extensions → VerifyError A → Type 0
IsNoAnchor certificate reason = AreNoClaims certificate reason ⊎ InheritsSome certificate reason
