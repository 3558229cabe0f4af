-- The claims of a certificate's extensions, either of which may be absent (RFC 6487, 4.8.10 and 4.8.11; RFC 9582, 5).
use Rattle.std.specs.Prelude.{◌≡◌, ℕ, List, Option, Some, None, option_map}
use Rattle.rpki_der.specs.declared.error.DerError.{DerError}
use Rattle.rpki_chain.specs.Claims.{Claim}
use Rattle.rpki_chain.specs.declared.choice.ResourcesChoice.TheVariants.{Missing}
use Rattle.rpki_der.specs.FamiliesDer.{ByFamily}
use Rattle.rpki_extensions.specs.Encodings.{HasAddressValueFault, HasAsFault, IsAddressValue, IsAsValue}
use Rattle.rpki_extensions.specs.declared.encoding.Encoding.{Encoding}
use Rattle.rpki_extensions.specs.declared.error.VerifyError.{VerifyError}
use Rattle.rpki_extensions.specs.declared.error.VerifyError.TheVariants.{Absent, AsOctets, AddressOctets, Inherited}
use Rattle.rpki_extensions.specs.declared.error.VerifyError.TheVariants.{Asn, Ipv4, Ipv6}
use Rattle.rpki_extensions.specs.declared.extensions.Extensions.{Extensions}

-- the claim of a family, or a missing claim if the value has no such family
abbrev pub claim_or_missing : Option Claim → Claim
claim_or_missing None = Missing
claim_or_missing (Some claim) = claim

-- the octets of IP address blocks make these claims on IPv4 and on IPv6
abbrev pub AreClaimed : Encoding → List ℕ → Claim × Claim → Type 0
AreClaimed encoding octets claims = (families : ByFamily Claim) × IsAddressValue encoding octets families
    × (claims ≡ (claim_or_missing families.0, claim_or_missing families.1))

-- ---- an extension that may be absent

-- the AS identifiers make this claim; an absent extension makes a missing claim
abbrev pub IsNumbersClaim : Encoding → Option (List ℕ) → Claim → Type 0
IsNumbersClaim encoding None claim = claim ≡ Missing
IsNumbersClaim encoding (Some octets) claim = IsAsValue encoding octets claim

-- the AS identifiers are present and invalid, and this is their first fault
abbrev pub HasNumbersFault : Encoding → Option (List ℕ) → DerError → Type 0
HasNumbersFault encoding None fault = ⊥
HasNumbersFault encoding (Some octets) fault = HasAsFault encoding octets fault

-- the IP address blocks make these claims on IPv4 and on IPv6; an absent extension makes missing claims
abbrev pub AreAddressClaims : Encoding → Option (List ℕ) → Claim × Claim → Type 0
AreAddressClaims encoding None claims = claims ≡ (Missing, Missing)
AreAddressClaims encoding (Some octets) claims = AreClaimed encoding octets claims

-- the IP address blocks are present and invalid, and this is their first fault
abbrev pub HasAddressesFault : Encoding → Option (List ℕ) → DerError → Type 0
HasAddressesFault encoding None fault = ⊥
HasAddressesFault encoding (Some octets) fault = HasAddressValueFault encoding octets fault

-- ---- both of them

-- the octets of the AS identifiers of a certificate, None if the extension is absent
abbrev pub octets_of_numbers : Extensions → Option (List ℕ)
octets_of_numbers certificate = option_map (λ octets. octets.now) certificate.numbers

-- the octets of the IP address blocks of a certificate, None if the extension is absent
abbrev pub octets_of_addresses : Extensions → Option (List ℕ)
octets_of_addresses certificate = option_map (λ octets. octets.now) certificate.addresses

-- both extensions are absent
abbrev pub AreAbsent : Extensions → Type 0
AreAbsent certificate = (octets_of_numbers certificate ≡ None) × (octets_of_addresses certificate ≡ None)

-- at least one extension is present, and these are the claims on AS numbers, IPv4 and IPv6
abbrev pub AreClaims : Extensions → Claim → Claim → Claim → Type 0
AreClaims certificate asn v4 v6 =
    (¬ AreAbsent certificate)
    × IsNumbersClaim certificate.encoding (octets_of_numbers certificate) asn
    × AreAddressClaims certificate.encoding (octets_of_addresses certificate) (v4, v6)

-- the reason why there are no claims: both extensions are absent, or the AS identifiers are invalid, or else the IP
-- address blocks are
abbrev pub AreNoClaims : {A : Type 0} → Extensions → VerifyError A → Type 0
AreNoClaims certificate Absent = AreAbsent certificate
AreNoClaims certificate (AsOctets fault) = HasNumbersFault certificate.encoding (octets_of_numbers certificate) fault
AreNoClaims certificate (AddressOctets fault) =
    ((asn : Claim) × IsNumbersClaim certificate.encoding (octets_of_numbers certificate) asn)
    × HasAddressesFault certificate.encoding (octets_of_addresses certificate) fault
AreNoClaims certificate Inherited = ⊥
AreNoClaims certificate (Asn excess) = ⊥
AreNoClaims certificate (Ipv4 excess) = ⊥
AreNoClaims certificate (Ipv6 excess) = ⊥
