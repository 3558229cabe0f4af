-- VRPs (validated ROA payloads), and the routes that they cover and match (RFC 6811, 2; RFC 9582, 4.3).
use Rattle.std.specs.Prelude.{◌≡◌, ◌≢◌, ℕ, ◌↔◌, ◌≤◌, ◌<◌, ◌^◌}
use Rattle.rpki_prefix.specs.MaxLen.{IsMaxLenPrefix, MaxLenValue, resolved}
use Rattle.rpki_prefix.specs.Values.{FamilyPrefix, CoversPrefix, IsFamilyPrefix}

-- the value of a VRP in contracts: a prefix with a maximum length, and the number of the AS that may originate routes
-- to it
abbrev pub Vrp : Type 0
Vrp = MaxLenValue × ℕ

-- the prefix and its maximum length are lawful, and the number has 32 bits
pub record IsLawfulVrp (vrp : Vrp) : Type 0 where
  pub prefix : IsMaxLenPrefix vrp.0
  pub number : vrp.1 < 2 ^ 32

-- the length of the longest route that the VRP allows: its maximum length, or its prefix length if it has none
abbrev pub longest : Vrp → ℕ
longest vrp = resolved vrp.0.prefix vrp.0.max_len

-- the length of the VRP's prefix
abbrev pub prefix_len : Vrp → ℕ
prefix_len vrp = vrp.0.prefix.len

-- the VRP's prefix covers the route's (RFC 6811, 2: 'Covered')
abbrev pub CoversRoute : FamilyPrefix → Vrp → Type 0
CoversRoute route vrp = CoversPrefix vrp.0.prefix route

-- a prefix that covers p covers the route too, if and only if its length is below the limit
abbrev pub IsCoveringLimit : FamilyPrefix → FamilyPrefix → ℕ → Type 0
IsCoveringLimit p route limit =
    (q : FamilyPrefix) → IsFamilyPrefix q → CoversPrefix q p → CoversPrefix q route ↔ (q.len < limit)

-- the VRP covers the route, the route is no longer than the VRP allows, and the route's AS is the VRP's and is not AS0
-- (RFC 6811, 2: 'Matched')
pub record Matches (route : FamilyPrefix) (asn : ℕ) (vrp : Vrp) : Type 0 where
  pub covers : CoversRoute route vrp
  pub allowed : route.len ≤ longest vrp
  pub same_as : vrp.1 ≡ asn
  pub not_as0 : asn ≢ 0

-- the VRP's AS is the route's, and is not AS0
pub record HasAs (asn : ℕ) (vrp : Vrp) : Type 0 where
  pub same_as : vrp.1 ≡ asn
  pub not_as0 : asn ≢ 0
