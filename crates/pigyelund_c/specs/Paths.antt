-- The set that certificates on a path leave of an anchor's set. Their extensions are in a run of octets.
use Rattle.std.specs.Prelude.{◌≡◌, ◌⊎◌, ℕ, ◌<◌, List, [], ◌∷◌, Result, Ok, Err, length, slice_index_or, take}
use Rattle.rpki_text.specs.declared.memory.OrMemory.{OrMemory}
use Rattle.rpki_text.specs.declared.memory.OrMemory.TheVariants.{Refused, Memory}
use Rattle.rpki_resources.specs.Triples.{Triple}
use Rattle.rpki_extensions.specs.Issued.{IsVerified}
use Rattle.rpki_extensions.specs.declared.encoding.Encoding.{Encoding}
use Rattle.rpki_extensions.specs.declared.extensions.Extensions.{Extensions}
use Rattle.pigyelund_c.specs.Certificates.{IsCertificateAt, IsArgumentErrorAt}
use Rattle.pigyelund_c.specs.Numbers.{encoding_number}
use Rattle.pigyelund_c.specs.Sets.{IsNoSet, IsSet}
use Rattle.pigyelund_c.specs.Verified.{HasNoEncoding, IsVerifyRefusal, OfIssuer, OfArgumentError}
use Rattle.pigyelund_c.specs.declared.certificate.Certificate.{Certificate}
use Rattle.pigyelund_c.specs.declared.path.PathError.{PathError}
use Rattle.pigyelund_c.specs.declared.refusal.Refusal.{Refusal}

-- The set is the part of its issuer's set that one certificate claims.
abbrev pub IsCertificateStep : List ℕ → Encoding → Triple → Certificate → Triple → Type 0
IsCertificateStep run encoding issuer c set =
    (certificate : Extensions) × IsCertificateAt run encoding c certificate × IsVerified issuer certificate set

-- A range or a number of the certificate is invalid, or else its issuer's set does not verify it.
abbrev pub IsNoCertificateStep : List ℕ → Encoding → Triple → Certificate → Refusal → Type 0
IsNoCertificateStep run encoding issuer c reason =
    OfArgumentError (IsArgumentErrorAt run c) reason
    ⊎ ((certificate : Extensions) × IsCertificateAt run encoding c certificate
    × IsVerifyRefusal issuer certificate reason)

-- The certificates have the octets of the ranges of the run, in this order.
abbrev pub AreCertificatesAt : List ℕ → Encoding → List Certificate → List Extensions → Type 0
AreCertificatesAt run encoding [] [] = Unit {0}
AreCertificatesAt run encoding (c ∷ cs) (certificate ∷ certificates) =
    IsCertificateAt run encoding c certificate × AreCertificatesAt run encoding cs certificates
AreCertificatesAt run encoding [] (certificate ∷ certificates) = ⊥
AreCertificatesAt run encoding (c ∷ cs) [] = ⊥

-- The set is the part of the anchor's set that all certificates leave. Each is verified by the part that the
-- certificates before it leave.
abbrev pub IsLeftOnPath : List ℕ → Encoding → Triple → List Certificate → Triple → Type 0
IsLeftOnPath run encoding anchor [] set = set ≡ anchor
IsLeftOnPath run encoding anchor (c ∷ cs) set =
    (next : Triple) × IsCertificateStep run encoding anchor c next × IsLeftOnPath run encoding next cs set

-- The number of verified certificates, and the reason why the next one is not verified.
abbrev pub IsFirstRefused : List ℕ → Encoding → Triple → List Certificate → PathError → Type 0
IsFirstRefused run encoding anchor cs error =
    (c : Certificate) × (error.verified < length cs) × (slice_index_or cs error.verified c ≡ c)
    × ((issuer : Triple) × IsLeftOnPath run encoding anchor (take error.verified cs) issuer
    × IsNoCertificateStep run encoding issuer c error.reason)

-- ---- from the anchor's octets

-- The set is the part that the certificates leave of the set that the anchor's octets list.
abbrev pub IsPathOutcomeIn : List ℕ → List ℕ → List ℕ → List Certificate → Encoding → Triple → Type 0
IsPathOutcomeIn anchor_as anchor_ip run cs encoding set =
    (anchor : Triple) × IsSet encoding anchor_as anchor_ip anchor × IsLeftOnPath run encoding anchor cs set

-- The anchor's octets list no set, or else a certificate is not verified.
abbrev pub IsNoPathOutcomeIn : List ℕ → List ℕ → List ℕ → List Certificate → Encoding → PathError → Type 0
IsNoPathOutcomeIn anchor_as anchor_ip run cs encoding error =
    ((error.verified ≡ 0) × OfIssuer (IsNoSet encoding anchor_as anchor_ip) error.reason)
    ⊎ ((anchor : Triple) × IsSet encoding anchor_as anchor_ip anchor × IsFirstRefused run encoding anchor cs error)

-- The set is the part that the certificates leave, in the encoding with this number.
abbrev pub IsPathOutcome : List ℕ → List ℕ → List ℕ → List Certificate → ℕ → Triple → Type 0
IsPathOutcome anchor_as anchor_ip run cs encoding set =
    (way : Encoding) × (encoding ≡ encoding_number way) × IsPathOutcomeIn anchor_as anchor_ip run cs way set

-- The number of the encoding is unknown, or else the path has this error.
abbrev pub IsNoPathOutcome : List ℕ → List ℕ → List ℕ → List Certificate → ℕ → PathError → Type 0
IsNoPathOutcome anchor_as anchor_ip run cs encoding error =
    ((error.verified ≡ 0) × HasNoEncoding encoding error.reason)
    ⊎ ((way : Encoding) × (encoding ≡ encoding_number way) × IsNoPathOutcomeIn anchor_as anchor_ip run cs way error)

-- ---- reported

-- The number of verified certificates: all n if there is a set, and 0 if out of memory.
abbrev pub verified_count : ℕ → Result Triple (OrMemory PathError) → ℕ
verified_count n (Ok set) = n
verified_count n (Err (Refused error)) = error.verified
verified_count n (Err (Memory error)) = 0

-- The outcome without the number of verified certificates.
abbrev pub outcome_alone : Result Triple (OrMemory PathError) → Result Triple (OrMemory Refusal)
outcome_alone (Ok set) = Ok set
outcome_alone (Err (Refused error)) = Err (Refused error.reason)
outcome_alone (Err (Memory error)) = Err (Memory error)
