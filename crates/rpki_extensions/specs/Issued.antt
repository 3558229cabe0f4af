-- The part of an issuer's resources that a certificate claims (RFC 3779, 2.3 and 3.3; RFC 6487, 7.2; RFC 8360, 4).
use Rattle.std.specs.Prelude.{◌≡◌, ◌↔◌, ◌⊎◌, ℕ}
use Rattle.rpki_chain.specs.Claims.{Claim}
use Rattle.rpki_chain.specs.Paths.{IsExcess, IsIssued, Leaves, Lists}
use Rattle.rpki_chain.specs.Runs.{Runs, Holds}
use Rattle.rpki_chain.specs.declared.path.Overclaim.{Overclaim}
use Rattle.rpki_chain.specs.declared.path.Overclaim.TheVariants.{Refuse}
use Rattle.rpki_resources.specs.Triples.{Triple}
use Rattle.rpki_extensions.specs.Claims.{AreClaims, AreNoClaims}
use Rattle.rpki_extensions.specs.declared.error.VerifyError.{VerifyError}
use Rattle.rpki_extensions.specs.declared.error.VerifyError.TheVariants.{Absent, AsOctets, AddressOctets, Inherited}
use Rattle.rpki_extensions.specs.declared.error.VerifyError.TheVariants.{Asn, Ipv4, Ipv6}
use Rattle.rpki_extensions.specs.declared.extensions.Extensions.{Extensions}

-- the reason is the overclaimed AS numbers
abbrev pub IsAsExcess : {A : Type 0} → Runs → Claim → Overclaim → VerifyError A → Type 0
IsAsExcess issuer claim mode (Asn excess) = IsExcess (Holds issuer) claim mode excess
IsAsExcess issuer claim mode Absent = ⊥
IsAsExcess issuer claim mode (AsOctets fault) = ⊥
IsAsExcess issuer claim mode (AddressOctets fault) = ⊥
IsAsExcess issuer claim mode Inherited = ⊥
IsAsExcess issuer claim mode (Ipv4 excess) = ⊥
IsAsExcess issuer claim mode (Ipv6 excess) = ⊥

-- the reason is the overclaimed IPv4 addresses
abbrev pub IsV4Excess : {A : Type 0} → Runs → Claim → Overclaim → VerifyError A → Type 0
IsV4Excess issuer claim mode (Ipv4 excess) = IsExcess (Holds issuer) claim mode excess
IsV4Excess issuer claim mode Absent = ⊥
IsV4Excess issuer claim mode (AsOctets fault) = ⊥
IsV4Excess issuer claim mode (AddressOctets fault) = ⊥
IsV4Excess issuer claim mode Inherited = ⊥
IsV4Excess issuer claim mode (Asn excess) = ⊥
IsV4Excess issuer claim mode (Ipv6 excess) = ⊥

-- the reason is the overclaimed IPv6 addresses
abbrev pub IsV6Excess : {A : Type 0} → Runs → Claim → Overclaim → VerifyError A → Type 0
IsV6Excess issuer claim mode (Ipv6 excess) = IsExcess (Holds issuer) claim mode excess
IsV6Excess issuer claim mode Absent = ⊥
IsV6Excess issuer claim mode (AsOctets fault) = ⊥
IsV6Excess issuer claim mode (AddressOctets fault) = ⊥
IsV6Excess issuer claim mode Inherited = ⊥
IsV6Excess issuer claim mode (Asn excess) = ⊥
IsV6Excess issuer claim mode (Ipv4 excess) = ⊥

-- ---- claims

-- the sets are the parts of the issuer's that the claims on addresses leave
abbrev pub AreIssued : Triple → Claim → Claim → Overclaim → Runs × Runs → Type 0
AreIssued issuer v4 v6 mode sets =
    IsIssued (Holds issuer.ipv4) v4 mode sets.0 × IsIssued (Holds issuer.ipv6) v6 mode sets.1

-- the claim on IPv4 is refused, or else the claim on IPv6
abbrev pub AreNotIssued : {A : Type 0} → Triple → Claim → Claim → Overclaim → VerifyError A → Type 0
AreNotIssued issuer v4 v6 mode reason =
    IsV4Excess issuer.ipv4 v4 mode reason
    ⊎ (((set : Runs) × IsIssued (Holds issuer.ipv4) v4 mode set) × IsV6Excess issuer.ipv6 v6 mode reason)

-- the set of each kind is the part of the issuer's that the claim leaves
pub record IsIssuedOfEach (issuer : Triple) (numbers v4 v6 : Claim) (mode : Overclaim) (set : Triple) : Type 0 where
  pub asn : IsIssued (Holds issuer.asn) numbers mode set.asn
  pub of_families : AreIssued issuer v4 v6 mode (set.ipv4, set.ipv6)

-- the claim on AS numbers is refused, or else one on addresses
abbrev pub IsNotIssuedOfEach : {A : Type 0} → Triple → Claim → Claim → Claim → Overclaim → VerifyError A → Type 0
IsNotIssuedOfEach issuer asn v4 v6 mode reason =
    IsAsExcess issuer.asn asn mode reason
    ⊎ (((set : Runs) × IsIssued (Holds issuer.asn) asn mode set) × AreNotIssued issuer v4 v6 mode reason)

-- ---- a certificate

-- the set is the part of the issuer's that the extensions claim
abbrev pub IsVerified : Triple → Extensions → Triple → Type 0
IsVerified issuer certificate set =
    (asn : Claim) × (v4 : Claim) × (v6 : Claim) × AreClaims certificate asn v4 v6
    × IsIssuedOfEach issuer asn v4 v6 certificate.mode set

-- the reason is that there are no claims, or that a claim is refused
abbrev pub HasVerifyError : {A : Type 0} → Triple → Extensions → VerifyError A → Type 0
HasVerifyError issuer certificate reason =
    AreNoClaims certificate reason
    ⊎ ((asn : Claim) × (v4 : Claim) × (v6 : Claim) × AreClaims certificate asn v4 v6
    × IsNotIssuedOfEach issuer asn v4 v6 certificate.mode reason)

-- The set has exactly the issuer's numbers that the certificate claims. In mode Refuse the certificate lists no number
-- that the issuer doesn't have.
abbrev pub GetsClaimed : Triple → Extensions → Triple → Type 0
GetsClaimed issuer certificate set =
    (asn : Claim) × (v4 : Claim) × (v6 : Claim) × AreClaims certificate asn v4 v6
    × ((n : ℕ) → Holds set.asn n ↔ (Holds issuer.asn n × Leaves asn n))
    × ((n : ℕ) → Holds set.ipv4 n ↔ (Holds issuer.ipv4 n × Leaves v4 n))
    × ((n : ℕ) → Holds set.ipv6 n ↔ (Holds issuer.ipv6 n × Leaves v6 n))
    × (certificate.mode ≡ Refuse → (n : ℕ) → (Lists asn n → Holds issuer.asn n)
    × (Lists v4 n → Holds issuer.ipv4 n) × (Lists v6 n → Holds issuer.ipv6 n))
