-- A verification has at most one outcome: one set, or one refusal.
use Rattle.std.proofs.Common.{ℕ, ◌<◌, List, [], ◌∷◌, length, arith, inl, inr, refl, subst, sym}
use Rattle.std.proofs.Common.{◌∙◌, ◌≡◌, ◌⊎◌}
use Rattle.std.specs.Prelude.{◌^◌, IfSome}
use Rattle.rpki_chain.specs.Claims.{Claim}
use Rattle.rpki_chain.specs.declared.path.Overclaim.{Overclaim}
use Rattle.rpki_chain.specs.declared.path.Overclaim.TheVariants.{Refuse, Trim}
use Rattle.rpki_der.specs.declared.error.DerError.{DerError}
use Rattle.rpki_resources.specs.Triples.{AreListed, IsOneInherited, Triple}
use Rattle.rpki_extensions.proofs.OutcomeLemmas.{AtMostOne, and_then, as_errors, outcome_by}
use Rattle.rpki_extensions.proofs.ReadingOutcomes.{one_address_claims, one_numbers_claim}
use Rattle.rpki_extensions.proofs.VerifiedOutcomes.{one_list, one_verified}
use Rattle.rpki_extensions.specs.Claims.{AreAddressClaims, AreNoClaims, HasAddressesFault, HasNumbersFault}
use Rattle.rpki_extensions.specs.Claims.{IsNumbersClaim, octets_of_addresses, octets_of_numbers}
use Rattle.rpki_extensions.specs.Issued.{HasVerifyError, IsIssuedOfEach, IsNotIssuedOfEach, IsVerified}
use Rattle.rpki_extensions.specs.Outcomes.{HasFewOctets, OneOutcome}
use Rattle.rpki_extensions.specs.declared.encoding.Encoding.{Encoding}
use Rattle.rpki_extensions.specs.declared.encoding.Encoding.TheVariants.{Any, Canonical}
use Rattle.rpki_extensions.specs.declared.error.VerifyError.{VerifyError}
use Rattle.rpki_extensions.specs.declared.error.VerifyError.TheVariants.{Absent, AsOctets, AddressOctets}
use Rattle.rpki_extensions.specs.declared.error.VerifyError.TheVariants.{Inherited as Inherits, Asn, Ipv4, Ipv6}
use Rattle.rpki_extensions.specs.declared.extensions.Extensions.{Extensions}
use Rattle.pigyelund_c.specs.Certificates.{IsArgumentError, IsCertificate}
use Rattle.pigyelund_c.specs.Numbers.{addresses_there, encoding_number, mode_number, numbers_there, present_number}
use Rattle.pigyelund_c.specs.Sets.{IsNoSet, IsSet, some_octets}
use Rattle.pigyelund_c.specs.Verified.{HasNoEncoding, IsNoOutcome, IsNoOutcomeIn, IsNotLeftByOctets, IsLeftByOctets}
use Rattle.pigyelund_c.specs.Verified.{IsOutcome, IsOutcomeIn, IsVerifyRefusal, OfArgumentError, OfIssuer}
use Rattle.pigyelund_c.specs.declared.encodings.Present.{Present}
use Rattle.pigyelund_c.specs.declared.encodings.Present.TheVariants.{Neither, Numbers as HasNumbers}
use Rattle.pigyelund_c.specs.declared.encodings.Present.TheVariants.{Addresses as HasAddresses, Both}
use Rattle.pigyelund_c.specs.declared.refusal.ArgumentError.TheVariants.{NoEncoding, NoMode, NoPresence}
use Rattle.pigyelund_c.specs.declared.refusal.ArgumentError.TheVariants.{NoFamily, Outside}
use Rattle.pigyelund_c.specs.declared.refusal.ReadSetError.{ReadSetError}
use Rattle.pigyelund_c.specs.declared.refusal.ReadSetError.TheVariants.{Numbers, Addresses, Inherited}
use Rattle.pigyelund_c.specs.declared.refusal.Refusal.{Refusal}
use Rattle.pigyelund_c.specs.declared.refusal.Refusal.TheVariants.{Asked, Issuer, Unverified}

-- ---- numbers

-- a number is that of one encoding
one_encoding : (a b : Encoding) → encoding_number a ≡ encoding_number b → a ≡ b
one_encoding Any Any same = refl
one_encoding Any Canonical same = absurd (omega (arith, same))
one_encoding Canonical Any same = absurd (omega (arith, same))
one_encoding Canonical Canonical same = refl

-- of one mode
one_mode : (a b : Overclaim) → mode_number a ≡ mode_number b → a ≡ b
one_mode Refuse Refuse same = refl
one_mode Refuse Trim same = absurd (omega (arith, same))
one_mode Trim Refuse same = absurd (omega (arith, same))
one_mode Trim Trim same = refl

-- and of one choice of extensions
one_present : (a b : Present) → present_number a ≡ present_number b → a ≡ b
one_present Neither Neither same = refl
one_present HasNumbers HasNumbers same = refl
one_present HasAddresses HasAddresses same = refl
one_present Both Both same = refl
one_present a b same = absurd (grind (arith, same))

-- ---- a set

few_or_none : (octets : List ℕ) → length octets < 2 ^ 64 → IfSome (some_octets octets) (λ o. length o < 2 ^ 64)
few_or_none [] few = tt
few_or_none (octet ∷ octets) few = few

module _ (encoding : Encoding) (numbers addresses : List ℕ) (few : length addresses < 2 ^ 64) where
  -- the reasons, in the order in which they are found: an invalid extension, or an inherited claim
  abbrev OfNumbers : ReadSetError → Type 0
  OfNumbers reason =
      (fault : DerError) × (reason ≡ Numbers fault) × HasNumbersFault encoding (some_octets numbers) fault

  abbrev OfAddresses : ReadSetError → Type 0
  OfAddresses reason =
      (fault : DerError) × (reason ≡ Addresses fault) × HasAddressesFault encoding (some_octets addresses) fault

  abbrev OfInherited : Claim → Claim × Claim → ReadSetError → Type 0
  OfInherited asn ip reason = (reason ≡ Inherited) × IsOneInherited asn ip.0 ip.1

  one_of_numbers : OneOutcome (IsNumbersClaim encoding (some_octets numbers)) OfNumbers
  one_of_numbers = as_errors (λ fault. Numbers fault) (one_numbers_claim encoding (some_octets numbers)) (λ e h. h)

  one_of_addresses : OneOutcome (AreAddressClaims encoding (some_octets addresses)) OfAddresses
  one_of_addresses =
      as_errors (λ fault. Addresses fault)
      (one_address_claims encoding (some_octets addresses) (few_or_none addresses few)) (λ e h. h)

  one_of_claims : (asn : Claim) (ip : Claim × Claim) → OneOutcome (AreListed asn ip.0 ip.1) (OfInherited asn ip)
  one_of_claims asn ip =
      as_errors (λ (e : VerifyError (Unit {0})). Inherited) (one_list (record { asn = asn; ipv4 = ip.0; ipv6 = ip.1 }))
      (λ e h. (Inherits, h.0, (refl, h.1)))

  first_reason : (reason : ReadSetError) → IsNoSet encoding numbers addresses reason
      → OfNumbers reason
      ⊎ ((asn : Claim) × IsNumbersClaim encoding (some_octets numbers) asn
      × (OfAddresses reason
      ⊎ ((ip : Claim × Claim) × AreAddressClaims encoding (some_octets addresses) ip × OfInherited asn ip reason)))
  first_reason (Numbers fault) h = inl (fault, refl, h)
  first_reason (Addresses fault) ((asn, is), h) = inr (asn, is, inl (fault, refl, h))
  first_reason Inherited h = inr (h.asn, h.are_numbers, inr (h.ip, h.are_addresses, (refl, h.inherited)))

  one_set : OneOutcome (IsSet encoding numbers addresses) (IsNoSet encoding numbers addresses)
  one_set =
      outcome_by
      (and_then one_of_numbers (λ asn is. and_then one_of_addresses (λ ip are. one_of_claims asn ip)))
      (λ set h. (h.asn, h.are_numbers, (h.ip, h.are_addresses, h.listed))) first_reason

-- ---- certificates with the same octets, encoding and mode

module _ (c d : Extensions) (numbers : octets_of_numbers c ≡ octets_of_numbers d)
    (addresses : octets_of_addresses c ≡ octets_of_addresses d) (encoding : c.encoding ≡ d.encoding)
    (mode : c.mode ≡ d.mode) where
  numbers_alike : (asn : Claim) → IsNumbersClaim c.encoding (octets_of_numbers c) asn
      → IsNumbersClaim d.encoding (octets_of_numbers d) asn
  numbers_alike asn is =
      subst (λ o. IsNumbersClaim d.encoding o asn) numbers
      (subst (λ e. IsNumbersClaim e (octets_of_numbers c) asn) encoding is)

  addresses_alike : (ip : Claim × Claim) → AreAddressClaims c.encoding (octets_of_addresses c) ip
      → AreAddressClaims d.encoding (octets_of_addresses d) ip
  addresses_alike ip are =
      subst (λ o. AreAddressClaims d.encoding o ip) addresses
      (subst (λ e. AreAddressClaims e (octets_of_addresses c) ip) encoding are)

  -- they are verified alike
  verified_alike : (issuer set : Triple) → IsVerified issuer c set → IsVerified issuer d set
  verified_alike issuer set (asn, v4, v6, (some, is, are), issued) = (
    asn,
    v4,
    v6,
    (λ none. some (numbers ∙ none.0, addresses ∙ none.1), numbers_alike asn is, addresses_alike (v4, v6) are),
    subst (λ m. IsIssuedOfEach issuer asn v4 v6 m set) mode issued,
  )

  module _ {A : Type 0} where
    none_alike : (reason : VerifyError A) → AreNoClaims c reason → AreNoClaims d reason
    none_alike Absent none = (sym numbers ∙ none.0, sym addresses ∙ none.1)
    none_alike (AsOctets fault) h =
        subst (λ o. HasNumbersFault d.encoding o fault) numbers
        (subst (λ e. HasNumbersFault e (octets_of_numbers c) fault) encoding h)
    none_alike (AddressOctets fault) ((asn, is), h) = (
      (asn, numbers_alike asn is),
      subst (λ o. HasAddressesFault d.encoding o fault) addresses
          (subst (λ e. HasAddressesFault e (octets_of_addresses c) fault) encoding h),
    )
    none_alike Inherits h = h
    none_alike (Asn excess) h = h
    none_alike (Ipv4 excess) h = h
    none_alike (Ipv6 excess) h = h

    -- and refused alike
    refused_alike : (issuer : Triple) (reason : VerifyError A) → HasVerifyError issuer c reason
        → HasVerifyError issuer d reason
    refused_alike issuer reason (inl none) = inl (none_alike reason none)
    refused_alike issuer reason (inr (asn, v4, v6, (some, is, are), refused)) =
        inr (
          asn,
          v4,
          v6,
          (λ none. some (numbers ∙ none.0, addresses ∙ none.1), numbers_alike asn is, addresses_alike (v4, v6) are),
          subst (λ m. IsNotIssuedOfEach issuer asn v4 v6 m reason) mode refused,
        )

-- ---- in an encoding

module _ (issuer_as issuer_ip : List ℕ) (few : length issuer_ip < 2 ^ 64) (encoding : Encoding) where
  issuer_reason : (reason : Refusal) → OfIssuer (IsNoSet encoding issuer_as issuer_ip) reason
      → (e : ReadSetError) × (reason ≡ Issuer e) × IsNoSet encoding issuer_as issuer_ip e
  issuer_reason (Issuer e) h = (e, refl, h)
  issuer_reason (Asked why) h = absurd h
  issuer_reason (Unverified e) h = absurd h

  verify_reason : (issuer : Triple) (certificate : Extensions) (reason : Refusal)
      → IsVerifyRefusal issuer certificate reason
      → (e : VerifyError _) × (reason ≡ Unverified e) × HasVerifyError issuer certificate e
  verify_reason issuer certificate (Unverified e) h = (e, refl, h)
  verify_reason issuer certificate (Asked why) h = absurd h
  verify_reason issuer certificate (Issuer e) h = absurd h

  -- below the set in an issuer's octets
  one_left : (certificate : Extensions) → HasFewOctets certificate
      → OneOutcome (IsLeftByOctets issuer_as issuer_ip encoding certificate)
      (IsNotLeftByOctets issuer_as issuer_ip encoding certificate)
  one_left certificate small =
      and_then (as_errors (λ e. Issuer e) (one_set encoding issuer_as issuer_ip few) issuer_reason)
      (λ issuer is. as_errors (λ e. Unverified e) (one_verified issuer certificate small)
      (verify_reason issuer certificate))

  module _ (present : ℕ) (cert_as cert_ip : List ℕ) (mode : ℕ) (small : length cert_ip < 2 ^ 64) where
    -- a certificate of these octets and numbers
    abbrev Is : Extensions → Type 0
    Is = IsCertificate present cert_as cert_ip encoding mode

    few_there : (there : Present) → IfSome (addresses_there there cert_ip) (λ o. length o < 2 ^ 64)
    few_there Neither = tt
    few_there HasNumbers = tt
    few_there HasAddresses = small
    few_there Both = small

    has_few : (certificate : Extensions) → Is certificate → HasFewOctets certificate
    has_few certificate is =
        subst (λ o. IfSome o (λ octets. length octets < 2 ^ 64)) (sym is.addresses_are) (few_there is.there)

    -- two such certificates are alike
    module _ (c d : Extensions) (is : Is c) (also : Is d) where
      same_there : is.there ≡ also.there
      same_there = one_present is.there also.there (sym is.is_there ∙ also.is_there)

      same_numbers : octets_of_numbers c ≡ octets_of_numbers d
      same_numbers =
          is.numbers_are ∙ subst (λ t. numbers_there is.there cert_as ≡ numbers_there t cert_as) same_there refl
          ∙ sym also.numbers_are

      same_addresses : octets_of_addresses c ≡ octets_of_addresses d
      same_addresses =
          is.addresses_are ∙ subst (λ t. addresses_there is.there cert_ip ≡ addresses_there t cert_ip) same_there refl
          ∙ sym also.addresses_are

      same_encoding : c.encoding ≡ d.encoding
      same_encoding = is.is_read ∙ sym also.is_read

      same_mode : c.mode ≡ d.mode
      same_mode = one_mode c.mode d.mode (sym is.is_mode ∙ also.is_mode)

      left_alike : (set : Triple) → IsLeftByOctets issuer_as issuer_ip encoding c set
          → IsLeftByOctets issuer_as issuer_ip encoding d set
      left_alike set (issuer, lists, verified) = (
        issuer,
        lists,
        verified_alike c d same_numbers same_addresses same_encoding same_mode issuer set verified,
      )

      not_left_alike : (reason : Refusal) → IsNotLeftByOctets issuer_as issuer_ip encoding c reason
          → IsNotLeftByOctets issuer_as issuer_ip encoding d reason
      not_left_alike reason (inl none) = inl none
      not_left_alike (Unverified e) (inr (issuer, lists, refused)) =
          inr (
            issuer,
            lists,
            refused_alike c d same_numbers same_addresses same_encoding same_mode issuer e refused,
          )
      not_left_alike (Asked why) (inr (issuer, lists, refused)) = absurd refused
      not_left_alike (Issuer e) (inr (issuer, lists, refused)) = absurd refused

    -- a certificate has no invalid argument
    no_argument_error : (certificate : Extensions) (reason : Refusal) → Is certificate
        → OfArgumentError (IsArgumentError present mode) reason → ⊥
    no_argument_error certificate (Asked NoPresence) is h = h is.there is.is_there
    no_argument_error certificate (Asked NoMode) is h = h.1 certificate.mode is.is_mode
    no_argument_error certificate (Asked NoEncoding) is h = h
    no_argument_error certificate (Asked NoFamily) is h = h
    no_argument_error certificate (Asked Outside) is h = h
    no_argument_error certificate (Issuer e) is h = h
    no_argument_error certificate (Unverified e) is h = h

    -- there is at most one
    one_argument_error : AtMostOne (OfArgumentError (IsArgumentError present mode))
    one_argument_error (Asked NoPresence) (Asked NoPresence) h k = refl
    one_argument_error (Asked NoMode) (Asked NoMode) h k = refl
    one_argument_error (Asked NoPresence) (Asked NoMode) h k = absurd (h k.0.0 k.0.1)
    one_argument_error (Asked NoMode) (Asked NoPresence) h k = absurd (k h.0.0 h.0.1)
    one_argument_error (Asked NoEncoding) e h k = absurd h
    one_argument_error (Asked NoFamily) e h k = absurd h
    one_argument_error (Asked Outside) e h k = absurd h
    one_argument_error (Issuer d) e h k = absurd h
    one_argument_error (Unverified d) e h k = absurd h
    one_argument_error d (Asked NoEncoding) h k = absurd k
    one_argument_error d (Asked NoFamily) h k = absurd k
    one_argument_error d (Asked Outside) h k = absurd k
    one_argument_error d (Issuer e) h k = absurd k
    one_argument_error d (Unverified e) h k = absurd k

    one_refusal_in : AtMostOne (IsNoOutcomeIn issuer_as issuer_ip present cert_as cert_ip encoding mode)
    one_refusal_in d e (inl h) (inl k) = one_argument_error d e h k
    one_refusal_in d e (inl h) (inr (c, is, k)) = absurd (no_argument_error c d is h)
    one_refusal_in d e (inr (c, is, h)) (inl k) = absurd (no_argument_error c e is k)
    one_refusal_in d e (inr (c, is, h)) (inr (other, also, k)) =
        (one_left c (has_few c is)).one_refusal d e h (not_left_alike other c also is e k)

    apart_in : (set : Triple) (e : Refusal)
        → IsOutcomeIn issuer_as issuer_ip present cert_as cert_ip encoding mode set
        → IsNoOutcomeIn issuer_as issuer_ip present cert_as cert_ip encoding mode e → ⊥
    apart_in set e (c, is, h) (inl k) = no_argument_error c e is k
    apart_in set e (c, is, h) (inr (other, also, k)) =
        (one_left c (has_few c is)).apart set e h (not_left_alike other c also is e k)

    one_in : OneOutcome (IsOutcomeIn issuer_as issuer_ip present cert_as cert_ip encoding mode)
        (IsNoOutcomeIn issuer_as issuer_ip present cert_as cert_ip encoding mode)
    one_in = record {
      one_value = λ a b (c, is, h) (other, also, k).
          (one_left c (has_few c is)).one_value a b h (left_alike other c also is b k);
      one_refusal = one_refusal_in;
      apart = apart_in;
    }

-- ---- in the encoding with a number

one_way : (encoding : ℕ) → OneOutcome (λ way. encoding ≡ encoding_number way) (HasNoEncoding encoding)
one_way encoding = record {
  one_value = λ a b h k. one_encoding a b (sym h ∙ k);
  one_refusal = λ d e h k. h.0 ∙ sym k.0;
  apart = λ way e h k. k.1 way h;
}

pub one_outcome : (issuer_as issuer_ip : List ℕ) (present : ℕ) (cert_as cert_ip : List ℕ) (encoding mode : ℕ)
    → length issuer_ip < 2 ^ 64 → length cert_ip < 2 ^ 64
    → OneOutcome (IsOutcome issuer_as issuer_ip present cert_as cert_ip encoding mode)
    (IsNoOutcome issuer_as issuer_ip present cert_as cert_ip encoding mode)
one_outcome issuer_as issuer_ip present cert_as cert_ip encoding mode few small =
    and_then (one_way encoding) (λ way is. one_in issuer_as issuer_ip few way present cert_as cert_ip mode small)
