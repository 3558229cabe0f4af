-- A path of certificates, kind by kind: as one path of claims for each kind of resources.
use Rattle.std.specs.Prelude.{◌≡◌, ℕ, ◌+◌, ◌<◌, List, [], ◌∷◌}
use Rattle.rpki_chain.specs.Claims.{Claim}
use Rattle.rpki_chain.specs.Paths.{ExceedsAt, IsFirstRefusal, IsPathResult}
use Rattle.rpki_chain.specs.Runs.{Runs, Holds}
use Rattle.rpki_chain.specs.declared.path.Step.{Step}
use Rattle.rpki_resources.specs.Triples.{Triple}
use Rattle.rpki_extensions.specs.Claims.{AreClaims}
use Rattle.rpki_extensions.specs.declared.error.VerifyError.{VerifyError}
use Rattle.rpki_extensions.specs.declared.error.VerifyError.TheVariants.{Absent, AsOctets, AddressOctets, Inherited}
use Rattle.rpki_extensions.specs.declared.error.VerifyError.TheVariants.{Asn, Ipv4, Ipv6}
use Rattle.rpki_extensions.specs.declared.extensions.Extensions.{Extensions}

-- the claims of a certificate on AS numbers, IPv4 and IPv6
pub record ClaimTriple : Type 0 where
  pub asn : Claim
  pub ipv4 : Claim
  pub ipv6 : Claim

-- one step for each certificate: its claims, and its mode for overclaims
abbrev pub AreSteps : List Extensions → List (Step ClaimTriple) → Type 0
AreSteps [] [] = Unit {0}
AreSteps [] (step ∷ steps) = ⊥
AreSteps (certificate ∷ certificates) [] = ⊥
AreSteps (certificate ∷ certificates) (step ∷ steps) =
    AreClaims certificate step.claim.asn step.claim.ipv4 step.claim.ipv6 × (step.mode ≡ certificate.mode)
    × AreSteps certificates steps

-- the set of each kind is what the path of the claims of that kind leaves of the anchor's
pub record IsResultOfEach (anchor : Triple) (steps : List (Step ClaimTriple)) (set : Triple) : Type 0 where
  pub asn : IsPathResult (λ claims. claims.asn) (Holds anchor.asn) steps set.asn
  pub ipv4 : IsPathResult (λ claims. claims.ipv4) (Holds anchor.ipv4) steps set.ipv4
  pub ipv6 : IsPathResult (λ claims. claims.ipv6) (Holds anchor.ipv6) steps set.ipv6

-- no claim of a kind is refused at an index below this one
abbrev pub IsAcceptedBelow : (ClaimTriple → Claim) → Runs → List (Step ClaimTriple) → ℕ → Type 0
IsAcceptedBelow kind root steps at = (k n : ℕ) → k < at → ExceedsAt kind (Holds root) steps k n → ⊥

-- The reason is the first refusal on the paths of claims. It is at the index, with exactly the overclaimed resources of
-- its kind. No claim is refused before the index, nor at the index in a kind that comes before.
abbrev pub IsFirstOfEach : {A : Type 0} → Triple → List (Step ClaimTriple) → ℕ → VerifyError A → Type 0
IsFirstOfEach anchor steps at (Asn excess) =
    IsFirstRefusal (λ claims. claims.asn) (Holds anchor.asn) steps (record { step = at; fault = excess })
    × IsAcceptedBelow (λ claims. claims.ipv4) anchor.ipv4 steps at
    × IsAcceptedBelow (λ claims. claims.ipv6) anchor.ipv6 steps at
IsFirstOfEach anchor steps at (Ipv4 excess) =
    IsAcceptedBelow (λ claims. claims.asn) anchor.asn steps (at + 1)
    × IsFirstRefusal (λ claims. claims.ipv4) (Holds anchor.ipv4) steps (record { step = at; fault = excess })
    × IsAcceptedBelow (λ claims. claims.ipv6) anchor.ipv6 steps at
IsFirstOfEach anchor steps at (Ipv6 excess) =
    IsAcceptedBelow (λ claims. claims.asn) anchor.asn steps (at + 1)
    × IsAcceptedBelow (λ claims. claims.ipv4) anchor.ipv4 steps (at + 1)
    × IsFirstRefusal (λ claims. claims.ipv6) (Holds anchor.ipv6) steps (record { step = at; fault = excess })
IsFirstOfEach anchor steps at Absent = ⊥
IsFirstOfEach anchor steps at (AsOctets fault) = ⊥
IsFirstOfEach anchor steps at (AddressOctets fault) = ⊥
IsFirstOfEach anchor steps at Inherited = ⊥

-- the reason names overclaimed resources
abbrev pub NamesExcess : {A : Type 0} → VerifyError A → Type 0
NamesExcess (Asn excess) = Unit {0}
NamesExcess (Ipv4 excess) = Unit {0}
NamesExcess (Ipv6 excess) = Unit {0}
NamesExcess Absent = ⊥
NamesExcess (AsOctets fault) = ⊥
NamesExcess (AddressOctets fault) = ⊥
NamesExcess Inherited = ⊥
