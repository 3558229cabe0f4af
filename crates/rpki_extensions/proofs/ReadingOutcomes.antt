-- Octets have at most one claim or one fault, and so have the extensions of a certificate.
use Rattle.rpki_extensions.proofs.Common.{Err, List, None, Option, Some, [], ap, length, refl, sym, ℕ, ◌<◌, ◌^◌, ◌∙◌}
use Rattle.rpki_extensions.proofs.Common.{◌≡◌, IfSome, DerError, ByFamily, Claim}
use Rattle.rpki_extensions.proofs.Common.{AreAddressClaims, AreClaims, claim_or_missing}
use Rattle.rpki_extensions.proofs.Common.{IsAddressValue, IsSaidIn, Encoding, Any, Canonical, Extensions}
use Rattle.rpki_as.proofs.AsResourcesDer.{one_resources, resources_in_modes, resources_short}
use Rattle.rpki_der.proofs.SaidInModes.{said_alike}
use Rattle.rpki_der.specs.Der.{HasNone, OneFront}
use Rattle.rpki_ipres.proofs.FamilyModes.{families_in_modes}
use Rattle.rpki_ipres.proofs.IpResourcesWritten.{one_of_families}
use Rattle.std.specs.Prelude.{Result}
use Rattle.rpki_extensions.proofs.OutcomeLemmas.{AtMostOne}
use Rattle.rpki_extensions.specs.Claims.{AreAbsent, AreClaimed, AreNoClaims, HasAddressesFault, HasNumbersFault}
use Rattle.rpki_extensions.specs.Claims.{IsNumbersClaim, octets_of_addresses, octets_of_numbers}
use Rattle.rpki_extensions.specs.Encodings.{HasAddressValueFault, HasAsFault, IsAsValue}
use Rattle.rpki_extensions.specs.Kinds.{ClaimTriple}
use Rattle.rpki_extensions.specs.Outcomes.{HasFewOctets, OneOutcome}
use Rattle.rpki_extensions.specs.declared.error.VerifyError.{VerifyError}
use Rattle.rpki_extensions.specs.declared.error.VerifyError.TheVariants.{Absent, AsOctets, AddressOctets, Inherited}
use Rattle.rpki_extensions.specs.declared.error.VerifyError.TheVariants.{Asn, Ipv4, Ipv6}

-- errors that a reading returns are one
one_error : {X : Type 0} (r : Result X DerError) (d e : DerError) → r ≡ Err d → r ≡ Err e → d ≡ e
one_error r d e h k = cc

module _ {X : Type 0} {G : List ℕ → X → Type 0} {P : X → Type 0} {written : X → List ℕ} (octets : List ℕ)
    (one : OneFront G) (alike : (a b : X) → P a → P b → octets ≡ written a → octets ≡ written b → a ≡ b) where
  -- octets say at most one value in an encoding
  one_said_in : (encoding : Encoding) → AtMostOne (IsSaidIn encoding G P written octets)
  one_said_in Any a b h k = (one octets octets a b [] [] h k refl).1
  one_said_in Canonical a b h k = alike a b h.0 k.0 h.1 k.1

-- a value or a fault of all octets
one_of_octets : {X Y : Type 0} (Value : List ℕ → X → Type 0) (octets : List ℕ) (read : Result Y DerError)
    → AtMostOne (Value octets) → OneOutcome (Value octets) (λ fault. HasNone Value octets × (read ≡ Err fault))
one_of_octets Value octets read one = record {
  one_value = one;
  one_refusal = λ d e h k. one_error read d e h.1 k.1;
  apart = λ a e h k. k.0 a h;
}

-- the value of the AS identifiers
pub one_as_value : (encoding : Encoding) (octets : List ℕ)
    → OneOutcome (IsAsValue encoding octets) (HasAsFault encoding octets)
one_as_value encoding octets =
    one_of_octets (IsAsValue encoding) octets _
    (one_said_in octets one_resources
    (λ a b p q h k. said_alike resources_in_modes a b p q (resources_short a p.0) (sym h ∙ k)) encoding)

-- the value of the IP address blocks
pub one_address_value : (encoding : Encoding) (octets : List ℕ) → length octets < 2 ^ 64
    → OneOutcome (IsAddressValue encoding octets) (HasAddressValueFault encoding octets)
one_address_value encoding octets few =
    one_of_octets (IsAddressValue encoding) octets _
    (one_said_in octets one_of_families
    (λ a b p q h k. said_alike families_in_modes a b p q (rw (← h) few) (sym h ∙ k)) encoding)

-- the claims on addresses
pub one_claimed : (encoding : Encoding) (octets : List ℕ) → length octets < 2 ^ 64
    → OneOutcome (AreClaimed encoding octets) (HasAddressValueFault encoding octets)
one_claimed encoding octets few =
    let one = one_address_value encoding octets few in
    record {
      one_value = λ a b (x, h, same) (y, k, also).
          same ∙ ap (λ (fs : ByFamily Claim). (claim_or_missing fs.0, claim_or_missing fs.1)) (one.one_value x y h k)
          ∙ sym also;
      one_refusal = one.one_refusal;
      apart = λ a e (x, h, same) k. one.apart x e h k;
    }

-- ---- an extension that may be absent

-- the AS identifiers
pub one_numbers_claim : (encoding : Encoding) (octets : Option (List ℕ))
    → OneOutcome (IsNumbersClaim encoding octets) (HasNumbersFault encoding octets)
one_numbers_claim encoding None = record {
  one_value = λ a b h k. h ∙ sym k;
  one_refusal = λ d e h k. absurd h;
  apart = λ a e h k. k;
}
one_numbers_claim encoding (Some octets) = one_as_value encoding octets

-- the IP address blocks
pub one_address_claims : (encoding : Encoding) (octets : Option (List ℕ)) → IfSome octets (λ o. length o < 2 ^ 64)
    → OneOutcome (AreAddressClaims encoding octets) (HasAddressesFault encoding octets)
one_address_claims encoding None few = record {
  one_value = λ a b h k. h ∙ sym k;
  one_refusal = λ d e h k. absurd h;
  apart = λ a e h k. k;
}
one_address_claims encoding (Some octets) few = one_claimed encoding octets few

-- ---- a certificate

-- the claims of a certificate
abbrev pub AreTheClaims : Extensions → ClaimTriple → Type 0
AreTheClaims certificate claims = AreClaims certificate claims.asn claims.ipv4 claims.ipv6

module _ (certificate : Extensions) (few : HasFewOctets certificate) where
  numbers : OneOutcome (IsNumbersClaim certificate.encoding (octets_of_numbers certificate))
      (HasNumbersFault certificate.encoding (octets_of_numbers certificate))
  numbers = one_numbers_claim certificate.encoding (octets_of_numbers certificate)

  addresses : OneOutcome (AreAddressClaims certificate.encoding (octets_of_addresses certificate))
      (HasAddressesFault certificate.encoding (octets_of_addresses certificate))
  addresses = one_address_claims certificate.encoding (octets_of_addresses certificate) few

  -- absent extensions have no fault
  absent_numbers : (fault : DerError) → AreAbsent certificate
      → HasNumbersFault certificate.encoding (octets_of_numbers certificate) fault → ⊥
  absent_numbers fault absent h = rw absent.0 at h

  absent_addresses : (fault : DerError) → AreAbsent certificate
      → HasAddressesFault certificate.encoding (octets_of_addresses certificate) fault → ⊥
  absent_addresses fault absent h = rw absent.1 at h

  module _ {A : Type 0} where
    -- there are no claims for at most one reason
    one_reason : (d e : VerifyError A) → AreNoClaims certificate d → AreNoClaims certificate e → d ≡ e
    one_reason Absent Absent h k = refl
    one_reason Absent (AsOctets g) h k = absurd (absent_numbers g h k)
    one_reason Absent (AddressOctets g) h k = absurd (absent_addresses g h k.1)
    one_reason (AsOctets f) Absent h k = absurd (absent_numbers f k h)
    one_reason (AsOctets f) (AsOctets g) h k =
        ap (λ (fault : DerError). AsOctets fault) (numbers.one_refusal f g h k)
    one_reason (AsOctets f) (AddressOctets g) h k = absurd (numbers.apart k.0.0 f k.0.1 h)
    one_reason (AddressOctets f) Absent h k = absurd (absent_addresses f k h.1)
    one_reason (AddressOctets f) (AsOctets g) h k = absurd (numbers.apart h.0.0 g h.0.1 k)
    one_reason (AddressOctets f) (AddressOctets g) h k =
        ap (λ (fault : DerError). AddressOctets fault) (addresses.one_refusal f g h.1 k.1)
    one_reason Inherited e h k = absurd h
    one_reason (Asn x) e h k = absurd h
    one_reason (Ipv4 x) e h k = absurd h
    one_reason (Ipv6 x) e h k = absurd h
    one_reason d e h k = absurd k

    -- claims and such a reason exclude each other
    claims_apart : (claims : ClaimTriple) (e : VerifyError A) → AreTheClaims certificate claims
        → AreNoClaims certificate e → ⊥
    claims_apart claims Absent h k = h.0 k
    claims_apart claims (AsOctets fault) h k = numbers.apart claims.asn fault h.1 k
    claims_apart claims (AddressOctets fault) h k = addresses.apart (claims.ipv4, claims.ipv6) fault h.2 k.1
    claims_apart claims e h k = k

    -- a certificate has one triple of claims or one reason
    pub one_claims : OneOutcome (AreTheClaims certificate) (AreNoClaims {A = A} certificate)
    one_claims = record {
      one_value = λ a b h k.
          let asn = numbers.one_value a.asn b.asn h.1 k.1 in
          let ips = addresses.one_value (a.ipv4, a.ipv6) (b.ipv4, b.ipv6) h.2 k.2 in
          λ i. record { asn = asn i; ipv4 = (ips i).0; ipv6 = (ips i).1 };
      one_refusal = one_reason;
      apart = claims_apart;
    }
