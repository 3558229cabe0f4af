-- Sets of the three kinds of resources (RFC 3779, 2 and 3), and the changes between two sets.
use Rattle.std.specs.Prelude.{◌≡◌, ℕ, ◌↔◌, ◌⊎◌, [], ◌∷◌, Bool, true, false, ◌&&◌}
use Rattle.rpki_chain_core.specs.Equality.{same_runs}
use Rattle.rpki_chain.specs.Claims.{Claim}
use Rattle.rpki_chain.specs.Operations.{IsUnion, IsIntersection, IsDifference}
use Rattle.rpki_chain.specs.Runs.{Runs, Holds}
use Rattle.rpki_chain.specs.declared.choice.ResourcesChoice.TheVariants.{Missing, Inherit, Blocks}
use Rattle.rpki_as.specs.Blocks.{IsAsSet}
use Rattle.rpki_der.specs.declared.family.AddressFamily.{AddressFamily}
use Rattle.rpki_der.specs.declared.family.AddressFamily.TheVariants.{Ipv4, Ipv6}
use Rattle.rpki_ipres.specs.SetText.{IsFamilySet}

-- a set of AS numbers, a set of IPv4 addresses and a set of IPv6 addresses, as runs
pub record Triple : Type 0 where
  pub asn : Runs
  pub ipv4 : Runs
  pub ipv6 : Runs

-- P holds for the set of each kind
pub record InEach (P : (Triple → Runs) → Type 0) : Type 0 where
  pub asn : P (λ t. t.asn)
  pub ipv4 : P (λ t. t.ipv4)
  pub ipv6 : P (λ t. t.ipv6)

-- each set is one of its kind; the IPv4 set consists of whole addresses
pub record IsTriple (t : Triple) : Type 0 where
  pub asn : IsAsSet t.asn
  pub ipv4 : IsFamilySet Ipv4 t.ipv4
  pub ipv6 : IsFamilySet Ipv6 t.ipv6

-- the set without resources of any kind
abbrev pub no_resources : Triple
no_resources = record { asn = []; ipv4 = []; ipv6 = [] }

-- all AS numbers (RFC 6793, 1) and all addresses of both families, which are stored in 128 bits
abbrev pub all_resources : Triple
all_resources = record {
  asn = (0, 4294967295) ∷ [];
  ipv4 = (0, 340282366920938463463374607431768211455) ∷ [];
  ipv6 = (0, 340282366920938463463374607431768211455) ∷ [];
}

-- the set of the addresses of a family
abbrev pub set_of_family : AddressFamily → Triple → Runs
set_of_family Ipv4 t = t.ipv4
set_of_family Ipv6 t = t.ipv6

-- whether a set of one kind is empty
abbrev pub is_none : Runs → Bool
is_none [] = true
is_none (run ∷ runs) = false

-- whether the sets of all three kinds are empty
abbrev pub is_no_triple : Triple → Bool
is_no_triple t = is_none t.asn && (is_none t.ipv4 && is_none t.ipv6)

-- ---- kind by kind

-- t is the union of a and b, kind by kind
abbrev pub IsUnionOf : Triple → Triple → Triple → Type 0
IsUnionOf a b t = InEach (λ kind. IsUnion (kind a) (kind b) (kind t))

-- t is the intersection of a and b, kind by kind
abbrev pub IsIntersectionOf : Triple → Triple → Triple → Type 0
IsIntersectionOf a b t = InEach (λ kind. IsIntersection (kind a) (kind b) (kind t))

-- t has the resources of a that b doesn't have, kind by kind
abbrev pub IsDifferenceOf : Triple → Triple → Triple → Type 0
IsDifferenceOf a b t = InEach (λ kind. IsDifference (kind a) (kind b) (kind t))

-- a has each number of b, kind by kind
abbrev pub HasEachOf : Triple → Triple → Type 0
HasEachOf a b = InEach (λ kind. (n : ℕ) → Holds (kind b) n → Holds (kind a) n)

-- a and b have the same numbers, kind by kind
abbrev pub HaveSameNumbers : Triple → Triple → Type 0
HaveSameNumbers a b = InEach (λ kind. (n : ℕ) → Holds (kind a) n ↔ Holds (kind b) n)

-- whether two sets have the same runs of each kind
abbrev pub is_same_triple : Triple → Triple → Bool
is_same_triple a b = same_runs a.asn b.asn && (same_runs a.ipv4 b.ipv4 && same_runs a.ipv6 b.ipv6)

-- ---- changes

-- the resources that are added and those that are removed
pub record Changes : Type 0 where
  pub added : Triple
  pub removed : Triple

-- d is the changes from b to a: added is a without b, and removed is b without a
pub record AreChanges (a b : Triple) (d : Changes) : Type 0 where
  pub added : IsDifferenceOf a b d.added
  pub removed : IsDifferenceOf b a d.removed

-- nothing is added and nothing is removed
abbrev pub no_changes : Changes
no_changes = record { added = no_resources; removed = no_resources }

-- whether two changes add the same resources and remove the same resources
abbrev pub are_same_changes : Changes → Changes → Bool
are_same_changes d e = is_same_triple d.added e.added && is_same_triple d.removed e.removed

-- ---- claims

-- the set is the one that the claim lists, or the empty set if the claim is missing; an inherited claim lists none
abbrev pub ListsRuns : Claim → Runs → Type 0
ListsRuns Missing set = set ≡ []
ListsRuns Inherit set = ⊥
ListsRuns (Blocks listed) set = set ≡ listed

-- the claim of each kind lists the set of that kind
pub record AreListed (a b c : Claim) (t : Triple) : Type 0 where
  pub asn : ListsRuns a t.asn
  pub ipv4 : ListsRuns b t.ipv4
  pub ipv6 : ListsRuns c t.ipv6

-- at least one of the claims is inherited
abbrev pub IsOneInherited : Claim → Claim → Claim → Type 0
IsOneInherited asn ipv4 ipv6 = (asn ≡ Inherit) ⊎ ((ipv4 ≡ Inherit) ⊎ (ipv6 ≡ Inherit))
