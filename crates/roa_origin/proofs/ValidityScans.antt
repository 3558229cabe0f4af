-- What is known of a route's validity when some places of a list of VRPs were looked at.
use Rattle.roa_origin.proofs.Common.{List, arith, get_or, length, ℕ, ◌<◌, ◌≡◌, ◌⊎◌, IsPermutation-sym, IsPermutation}
use Rattle.roa_origin.proofs.Common.{FamilyPrefix, CoversRoute, Matches, Vrp, IsRouteCovered, IsValidity, Validity}
use Rattle.roa_origin.proofs.Common.{Invalid, NotFound}
use Rattle.roa_origin.proofs.SortedSearch.{any_moved}

-- none at the places that Seen are matches the route, and the validity is what those say that cover it
pub record IsValidityOfSeen (route : FamilyPrefix) (asn : ℕ) (xs : List Vrp) (Seen : ℕ → Type 0) (v : Validity)
    : Type 0 where
  pub unmatched : (k : ℕ) (d : Vrp) → k < length xs → Seen k → ¬ Matches route asn (get_or xs k d)
  pub so_far : ((v ≡ NotFound) × ((k : ℕ) (d : Vrp) → k < length xs → Seen k → ¬ CoversRoute route (get_or xs k d)))
      ⊎ ((v ≡ Invalid) × IsRouteCovered route xs)

-- the order of VRPs doesn't matter
pub same_validity : (route : FamilyPrefix) (asn : ℕ) (xs ys : List Vrp) (v : Validity) → IsPermutation xs ys
    → IsValidity route asn xs v → IsValidity route asn ys v
same_validity route asn xs ys v moved h =
    let matched_on = any_moved (Matches route asn) xs ys moved in
    let matched_back = any_moved (Matches route asn) ys xs (IsPermutation-sym xs ys moved) in
    let covered_on = any_moved (CoversRoute route) xs ys moved in
    let covered_back = any_moved (CoversRoute route) ys xs (IsPermutation-sym xs ys moved) in
    grind (arith)
