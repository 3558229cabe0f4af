-- The routes whose validity changes from one table to the next (RFC 6811, 4).
use Rattle.std.specs.Prelude.{◌≢◌, ◌↔◌, ℕ, ◌<◌, List, AllPairs, Contains, length, slice_index_or}
use Rattle.rpki_prefix.specs.Values.{FamilyPrefix}
use Rattle.roa_origin.specs.Vrps.{Vrp}
use Rattle.roa_origin.specs.Validities.{IsValidity}
use Rattle.roa_origin.specs.declared.validation.Validity.{Validity}

-- the route that the AS originates has different validities by the two lists of VRPs
pub record HasChanged (old new : List Vrp) (route : FamilyPrefix) (asn : ℕ) : Type 0 where
  pub before : Validity
  pub after : Validity
  pub was : IsValidity route asn old before
  pub is : IsValidity route asn new after
  pub differ : before ≢ after

-- the route at this index has different validities by the two lists
pub record IsChangedAt (old new : List Vrp) (routes : List (FamilyPrefix × ℕ)) (place : ℕ) : Type 0 where
  pub within : place < length routes
  pub changed : (d : FamilyPrefix × ℕ)
      → HasChanged old new (slice_index_or routes place d).0 (slice_index_or routes place d).1

-- the indices of the routes with different validities, ascending
pub record AreChanged (old new : List Vrp) (routes : List (FamilyPrefix × ℕ)) (places : List ℕ) : Type 0 where
  pub ascending : AllPairs (λ i j. i < j) places
  pub members : (place : ℕ) → Contains places place ↔ IsChangedAt old new routes place
