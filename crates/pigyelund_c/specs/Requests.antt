-- The arguments of a verification: an issuer's set and a certificate, which are passed as octets and numbers.
use Rattle.std.specs.Prelude.{◌≡◌, ◌⊎◌, ℕ, List}
use Rattle.rpki_extensions.specs.declared.encoding.Encoding.{Encoding}
use Rattle.rpki_extensions.specs.declared.extensions.Extensions.{Extensions}
use Rattle.pigyelund_c.specs.Certificates.{IsCertificate, IsArgumentError}
use Rattle.pigyelund_c.specs.Numbers.{encoding_number}
use Rattle.pigyelund_c.specs.Sets.{IsNoSet, IsSet}
use Rattle.pigyelund_c.specs.Verified.{HasNoEncoding, OfArgumentError, OfIssuer}
use Rattle.pigyelund_c.specs.declared.refusal.Refusal.{Refusal}
use Rattle.pigyelund_c.specs.declared.request.Request.{Request}

-- The request has the certificate and the issuer's set, in the encoding with this number.
abbrev pub IsRequest : List ℕ → List ℕ → ℕ → List ℕ → List ℕ → ℕ → ℕ → Request → Type 0
IsRequest issuer_as issuer_ip present cert_as cert_ip encoding mode request =
    (way : Encoding) × (encoding ≡ encoding_number way)
    × IsCertificate present cert_as cert_ip way mode request.certificate
    × IsSet way issuer_as issuer_ip request.issuer

-- A number of the certificate is unknown, or else the issuer's octets list no set.
abbrev pub IsNoRequestIn : List ℕ → List ℕ → ℕ → List ℕ → List ℕ → Encoding → ℕ → Refusal → Type 0
IsNoRequestIn issuer_as issuer_ip present cert_as cert_ip encoding mode reason =
    OfArgumentError (IsArgumentError present mode) reason
    ⊎ ((certificate : Extensions) × IsCertificate present cert_as cert_ip encoding mode certificate
    × OfIssuer (IsNoSet encoding issuer_as issuer_ip) reason)

-- The number of the encoding is unknown, or else there is another reason.
abbrev pub IsNoRequest : List ℕ → List ℕ → ℕ → List ℕ → List ℕ → ℕ → ℕ → Refusal → Type 0
IsNoRequest issuer_as issuer_ip present cert_as cert_ip encoding mode reason =
    HasNoEncoding encoding reason
    ⊎ ((way : Encoding) × (encoding ≡ encoding_number way)
    × IsNoRequestIn issuer_as issuer_ip present cert_as cert_ip way mode reason)
