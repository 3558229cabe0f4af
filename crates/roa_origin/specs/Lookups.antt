-- Lookups of routes in a table.
use Rattle.std.specs.Prelude.{◌≡◌, ℕ, ◌-◌, ◌<◌, Bool, List, slice_index_or, true}
use Rattle.rpki_prefix.specs.Values.{FamilyPrefix, IsFamilyPrefix}
use Rattle.roa_origin.specs.Links.{IsBetween, IsTable}
use Rattle.roa_origin.specs.Vrps.{CoversRoute, Vrp}
use Rattle.roa_origin.specs.declared.links.Link.{Link}

-- the VRPs in which a route is looked up, its prefix, and the AS that originates it
pub record RouteLookup : Type 0 where
  pub vrps : List Vrp
  pub route : FamilyPrefix
  pub asn : ℕ

-- the search of a route has ended: the last VRP before the index covers the route, and this is its link
pub record IsLastRead (xs : List Vrp) (links : List Link) (from to : ℕ) (route : FamilyPrefix) (link : Link) : Type 0
  where
    pub ended : from ≡ to
    pub some : 0 < from
    pub covers : (d : Vrp) → CoversRoute route (slice_index_or xs (from - 1) d)
    pub linked : (l : Link) → slice_index_or links (from - 1) l ≡ link

-- a table, a prefix, and the indices between which the prefix is searched; if the test holds, the last VRP was read
pub record IsLookupBetween (xs : List Vrp) (links : List Link) (from to : ℕ) (route : FamilyPrefix) (covers : Bool)
    (link : Link) : Type 0 where
  pub table : IsTable xs links
  pub is_prefix : IsFamilyPrefix route
  pub between : IsBetween xs from to route
  pub read : covers ≡ true → IsLastRead xs links from to route link
