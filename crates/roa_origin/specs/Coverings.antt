-- The VRPs of a list that cover a route (RFC 6811, 2).
use Rattle.std.specs.Prelude.{◌≡◌, ◌&&◌, ◌==◌, ℕ, ◌-◌, ◌<◌, ◌≤◌, ◌⊎◌, Bool, nat_le, List, [], ◌∷◌, reverse, take}
use Rattle.std.specs.Prelude.{length}
use Rattle.std.specs.Prelude.{slice_index_or}
use Rattle.std.specs.List.{filter}
use Rattle.rpki_prefix.specs.Order.{last_bits}
use Rattle.rpki_prefix.specs.Values.{FamilyPrefix, IsFamilyPrefix, address_number, width}
use Rattle.roa_origin.specs.Links.{AreUpTo, IsTable, NoneCovers}
use Rattle.roa_origin.specs.Vrps.{CoversRoute, Vrp}
use Rattle.roa_origin.specs.declared.links.Link.{Link}

-- ys are the elements of xs for which P holds, in their order, each as often as it is in xs
abbrev pub AreThose : {X : Type 0} → (X → Type 0) → List X → List X → Type 0
AreThose P [] ys = ys ≡ []
AreThose {X} P (x ∷ xs) ys = (P x × (zs : List X) × (ys ≡ x ∷ zs) × AreThose P xs zs) ⊎ ((¬ P x) × AreThose P xs ys)

-- whether a VRP covers the route: both are of one family, and the addresses of the VRP's prefix include the route's
abbrev pub covers_route : FamilyPrefix → Vrp → Bool
covers_route route vrp =
    (width vrp.0.prefix.addr == width route.addr)
    && (nat_le (address_number vrp.0.prefix.addr) (address_number route.addr) && nat_le (last_bits route)
    (last_bits vrp.0.prefix))

-- the VRPs among the first n that cover the route, the last first
abbrev pub covering_before : FamilyPrefix → List Vrp → ℕ → List Vrp
covering_before route xs n = reverse (filter (covers_route route) (take n xs))

-- a pass over a table, from its first n VRPs back, which come no later than the route
pub record IsWalk (xs : List Vrp) (links : List Link) (n : ℕ) (route : FamilyPrefix) : Type 0 where
  pub table : IsTable xs links
  pub within : n ≤ length xs
  pub up_to : AreUpTo xs n route
  pub is_prefix : IsFamilyPrefix route

-- a pass whose next VRP, the last of the first n, covers the route
pub record IsCoveringWalk (xs : List Vrp) (links : List Link) (n : ℕ) (route : FamilyPrefix) : Type 0 where
  pub walk : IsWalk xs links n route
  pub next : (d : Vrp) → 0 < n → CoversRoute route (slice_index_or xs (n - 1) d)

-- a pass that begins at the nearest VRP that covers the route: no VRP behind the first n covers it
pub record IsNearest (xs : List Vrp) (links : List Link) (n : ℕ) (route : FamilyPrefix) : Type 0 where
  pub pass : IsCoveringWalk xs links n route
  pub none : NoneCovers xs route n (length xs)
