-- Tables of VRPs, as a cache sends them to routers (RFC 6811, 2; RFC 8210, 5.6 and 5.7).
use Rattle.std.specs.Prelude.{◌≡◌, ◌↔◌, ◌⊎◌, List, Contains, AllPairs, Some, map}
use Rattle.std.specs.Ordering.{on, then_cmp, nat_cmp}
use Rattle.std.specs.declared.cmp.Ordering.{Ordering}
use Rattle.std.specs.declared.cmp.Ordering.TheVariants.{Less}
use Rattle.rpki_prefix.specs.MaxLen.{max_len_cmp, resolved}
use Rattle.roa_origin.specs.Vrps.{Vrp}

-- a VRP as it is sent: with a maximum length, which is its prefix length if the VRP has none
abbrev pub as_sent : Vrp → Vrp
as_sent vrp = (record { prefix = vrp.0.prefix; max_len = Some (resolved vrp.0.prefix vrp.0.max_len) }, vrp.1)

-- the order of VRPs in a cache's table: by the prefix with its maximum length, then by the AS number
abbrev pub vrp_cmp : Vrp → Vrp → Ordering
vrp_cmp = then_cmp (on (λ p. p.0) max_len_cmp) (on (λ p. p.1) nat_cmp)

-- each VRP is less than the VRPs after it
abbrev pub IsAscending : List Vrp → Type 0
IsAscending = AllPairs (λ p q. vrp_cmp p q ≡ Less)

-- the table has the VRPs of the list as they are sent, ascending and therefore each once
pub record IsTableOf (vrps table : List Vrp) : Type 0 where
  pub ascending : IsAscending table
  pub members : (p : Vrp) → Contains table p ↔ Contains (map as_sent vrps) p

-- the list has the VRPs that are in one and not in other, ascending
pub record IsWithout (one other left : List Vrp) : Type 0 where
  pub ascending : IsAscending left
  pub members : (p : Vrp) → Contains left p ↔ (Contains one p × ¬ Contains other p)

-- the set has the VRPs of the table that aren't withdrawn, and the announced VRPs, ascending
pub record IsAfter (table announced withdrawn set : List Vrp) : Type 0 where
  pub ascending : IsAscending set
  pub members : (p : Vrp) → Contains set p ↔ ((Contains table p × ¬ Contains withdrawn p) ⊎ Contains announced p)
