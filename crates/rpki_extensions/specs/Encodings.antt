-- The octets of the two extensions that a reader accepts (RFC 3779, 2.2.3 and 3.2.3; X.690, 10 and 11).
use Rattle.std.specs.Prelude.{◌≡◌, ℕ, Bool, true, false, List, Err}
use Rattle.rpki_der.specs.Der.{HasNone, Spells}
use Rattle.rpki_der.specs.declared.error.DerError.{DerError}
use Rattle.rpki_der.specs.SequenceReading.{only}
use Rattle.rpki_chain.specs.Claims.{Claim}
use Rattle.rpki_der.specs.FamiliesDer.{ByFamily, families_der}
use Rattle.rpki_as.specs.AsDer.{IsAsResources, IsPresentAsClaim, as_resources_octets}
use Rattle.rpki_as.specs.AsDerReading.{as_choice_by}
use Rattle.rpki_ipres.specs.Modes.{ip_families_by}
use Rattle.rpki_ipres.specs.Resources.{ArePresentClaims}
use Rattle.rpki_ipres.specs.ResourcesDer.{IsIpFamilies, ip_resources_der}
use Rattle.rpki_extensions.specs.declared.encoding.Encoding.{Encoding}
use Rattle.rpki_extensions.specs.declared.encoding.Encoding.TheVariants.{Any, Canonical}

-- whether only the canonical encoding is accepted
abbrev pub is_canonical : Encoding → Bool
is_canonical Any = false
is_canonical Canonical = true

-- The octets are an accepted encoding of a value. Any accepts the grammar G. Canonical accepts only the octets that are
-- written for a value for which P holds.
abbrev pub IsSaidIn : {X : Type 0} → Encoding → (List ℕ → X → Type 0) → (X → Type 0) → (X → List ℕ) → List ℕ → X
    → Type 0
IsSaidIn Any G P octets = G
IsSaidIn Canonical G P octets = Spells P octets

-- the octets are an accepted encoding of AS identifiers (RFC 3779, 3.2.3)
abbrev pub IsAsValue : Encoding → List ℕ → Claim → Type 0
IsAsValue encoding = IsSaidIn encoding IsAsResources IsPresentAsClaim as_resources_octets

-- the octets are an accepted encoding of IP address blocks (RFC 3779, 2.2.3)
abbrev pub IsAddressValue : Encoding → List ℕ → ByFamily Claim → Type 0
IsAddressValue encoding = IsSaidIn encoding IsIpFamilies ArePresentClaims (families_der ip_resources_der)

-- the octets are no accepted encoding of AS identifiers, and this is their first fault
abbrev pub HasAsFault : Encoding → List ℕ → DerError → Type 0
HasAsFault encoding octets fault =
    HasNone (IsAsValue encoding) octets × (only (as_choice_by (is_canonical encoding)) octets ≡ Err fault)

-- the octets are no accepted encoding of IP address blocks, and this is their first fault
abbrev pub HasAddressValueFault : Encoding → List ℕ → DerError → Type 0
HasAddressValueFault encoding octets fault =
    HasNone (IsAddressValue encoding) octets × (only (ip_families_by (is_canonical encoding)) octets ≡ Err fault)
