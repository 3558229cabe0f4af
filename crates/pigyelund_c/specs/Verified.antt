-- The claims of a certificate's extensions on an issuer's resources (RFC 3779, 2.3 and 3.3; RFC 6487, 7.2; RFC 8360,
-- 4), and the reasons why an issuer does not verify them.
use Rattle.std.specs.Prelude.{◌≡◌, ◌≢◌, ◌⊎◌, ℕ, List}
use Rattle.rpki_resources.specs.Triples.{Triple}
use Rattle.rpki_extensions.specs.Issued.{HasVerifyError, IsVerified}
use Rattle.rpki_extensions.specs.declared.encoding.Encoding.{Encoding}
use Rattle.rpki_extensions.specs.declared.extensions.Extensions.{Extensions}
use Rattle.pigyelund_c.specs.Certificates.{IsCertificate, IsArgumentError}
use Rattle.pigyelund_c.specs.Numbers.{encoding_number}
use Rattle.pigyelund_c.specs.Sets.{IsNoSet, IsSet}
use Rattle.pigyelund_c.specs.declared.refusal.ArgumentError.{ArgumentError}
use Rattle.pigyelund_c.specs.declared.refusal.ArgumentError.TheVariants.{NoEncoding}
use Rattle.pigyelund_c.specs.declared.refusal.Refusal.{Refusal}
use Rattle.pigyelund_c.specs.declared.refusal.Refusal.TheVariants.{Asked, Issuer, Unverified}
use Rattle.pigyelund_c.specs.declared.refusal.ReadSetError.{ReadSetError}

-- ---- a certificate

-- The issuer's set does not verify the certificate, for the given reason: there are no claims, or they overclaim.
abbrev pub IsVerifyRefusal : Triple → Extensions → Refusal → Type 0
IsVerifyRefusal issuer certificate (Asked why) = ⊥
IsVerifyRefusal issuer certificate (Issuer reason) = ⊥
IsVerifyRefusal issuer certificate (Unverified reason) = HasVerifyError issuer certificate reason

-- ---- by an issuer's set that is passed as octets

-- The set is the part of the issuer's set that the certificate claims.
abbrev pub IsLeftByOctets : List ℕ → List ℕ → Encoding → Extensions → Triple → Type 0
IsLeftByOctets issuer_as issuer_ip encoding certificate set =
    (issuer : Triple) × IsSet encoding issuer_as issuer_ip issuer × IsVerified issuer certificate set

-- The refusal is an error in the issuer's octets for which P holds.
abbrev pub OfIssuer : (ReadSetError → Type 0) → Refusal → Type 0
OfIssuer P (Asked why) = ⊥
OfIssuer P (Issuer reason) = P reason
OfIssuer P (Unverified reason) = ⊥

-- The issuer's octets list no set, or else their set does not verify the certificate.
abbrev pub IsNotLeftByOctets : List ℕ → List ℕ → Encoding → Extensions → Refusal → Type 0
IsNotLeftByOctets issuer_as issuer_ip encoding certificate reason =
    OfIssuer (IsNoSet encoding issuer_as issuer_ip) reason
    ⊎ ((issuer : Triple) × IsSet encoding issuer_as issuer_ip issuer × IsVerifyRefusal issuer certificate reason)

-- ---- of a certificate that is passed as octets and numbers

-- The refusal is an invalid argument for which P holds.
abbrev pub OfArgumentError : (ArgumentError → Type 0) → Refusal → Type 0
OfArgumentError P (Asked why) = P why
OfArgumentError P (Issuer reason) = ⊥
OfArgumentError P (Unverified reason) = ⊥

-- The set is the part of the issuer's set that the certificate claims. Both are passed as octets.
abbrev pub IsOutcomeIn : List ℕ → List ℕ → ℕ → List ℕ → List ℕ → Encoding → ℕ → Triple → Type 0
IsOutcomeIn issuer_as issuer_ip present cert_as cert_ip encoding mode set =
    (certificate : Extensions) × IsCertificate present cert_as cert_ip encoding mode certificate
    × IsLeftByOctets issuer_as issuer_ip encoding certificate set

-- A number of the certificate is unknown, or else the issuer does not verify it for the reason.
abbrev pub IsNoOutcomeIn : List ℕ → List ℕ → ℕ → List ℕ → List ℕ → Encoding → ℕ → Refusal → Type 0
IsNoOutcomeIn issuer_as issuer_ip present cert_as cert_ip encoding mode reason =
    OfArgumentError (IsArgumentError present mode) reason
    ⊎ ((certificate : Extensions) × IsCertificate present cert_as cert_ip encoding mode certificate
    × IsNotLeftByOctets issuer_as issuer_ip encoding certificate reason)

-- The set is the part that the certificate claims, in the encoding with this number.
abbrev pub IsOutcome : List ℕ → List ℕ → ℕ → List ℕ → List ℕ → ℕ → ℕ → Triple → Type 0
IsOutcome issuer_as issuer_ip present cert_as cert_ip encoding mode set =
    (way : Encoding) × (encoding ≡ encoding_number way)
    × IsOutcomeIn issuer_as issuer_ip present cert_as cert_ip way mode set

-- The number of the encoding is unknown, and this is the refusal.
abbrev pub HasNoEncoding : ℕ → Refusal → Type 0
HasNoEncoding encoding reason = (reason ≡ Asked NoEncoding) × ((way : Encoding) → encoding ≢ encoding_number way)

-- The number of the encoding is unknown, or else there is another reason.
abbrev pub IsNoOutcome : List ℕ → List ℕ → ℕ → List ℕ → List ℕ → ℕ → ℕ → Refusal → Type 0
IsNoOutcome issuer_as issuer_ip present cert_as cert_ip encoding mode reason =
    HasNoEncoding encoding reason
    ⊎ ((way : Encoding) × (encoding ≡ encoding_number way)
    × IsNoOutcomeIn issuer_as issuer_ip present cert_as cert_ip way mode reason)
