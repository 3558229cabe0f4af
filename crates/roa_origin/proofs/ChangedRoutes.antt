-- The places of the routes gone through whose validity differs by two lists.
use Rattle.roa_origin.proofs.Common.{AllPairs, Contains, List, [], arith, get_or, length, ℕ, ◌++◌, ◌+◌, ◌<◌, ◌↔◌, ◌∙◌}
use Rattle.roa_origin.proofs.Common.{◌∷◌, ◌≡◌, ◌≢◌, ◌≤◌, cases_lt, get_or_default, Contains-append_left}
use Rattle.roa_origin.proofs.Common.{Contains-get_or, Contains-push, Contains-push_cases, all_pairs_push, FamilyPrefix}
use Rattle.roa_origin.proofs.Common.{Vrp, IsValidity, Validity}
use Rattle.roa_origin.specs.Reevaluations.{AreChanged, HasChanged, IsChangedAt}

-- a list gives a route one validity
pub one_validity : (route : FamilyPrefix) (asn : ℕ) (xs : List Vrp) (v w : Validity) → IsValidity route asn xs v
    → IsValidity route asn xs w → v ≡ w
one_validity route asn xs v w h k = grind (arith)

module _ {old new : List Vrp} {routes : List (FamilyPrefix × ℕ)} where
  -- two validities of the route at a place
  pub reported : (n : ℕ) (route : FamilyPrefix × ℕ) (v w : Validity) → n < length routes → route ≡ get_or routes n route
      → IsValidity route.0 route.1 old v → IsValidity route.0 route.1 new w → (v ≢ w) ↔ IsChangedAt old new routes n
  reported n route v w inside is was now = (
    (λ not. grind (arith, get_or_default)),
    λ h same.
        let c : HasChanged old new route.0 route.1 = rw (← is) at (h.changed route) in
        c.differ (one_validity _ _ old c.before v c.was was ∙ same ∙ one_validity _ _ new w c.after now c.is),
  )

-- of the first n routes
pub record AreSoFar (old new : List Vrp) (routes : List (FamilyPrefix × ℕ)) (n : ℕ) (places : List ℕ) : Type 0 where
  pub ascending : AllPairs (λ i j. i < j) places
  pub members : (k : ℕ) → Contains places k ↔ ((k < n) × IsChangedAt old new routes k)

module _ {old new : List Vrp} {routes : List (FamilyPrefix × ℕ)} {n : ℕ} {places : List ℕ}
    (so_far : AreSoFar old new routes n places) where
  pub one_more : IsChangedAt old new routes n → AreSoFar old new routes (n + 1) (places ++ n ∷ [])
  one_more is = record {
    ascending = all_pairs_push (λ i j. i < j) places n so_far.ascending
        (λ k d inside. ((so_far.members _).0 (Contains-get_or places k d inside)).0);
    members = λ k. (
      (λ h. grind (arith, Contains-push_cases places n k h, so_far.members k, is)),
      λ h.
          grind (arith, Contains-append_left places (n ∷ []) k, Contains-push places n, cases_lt k n, so_far.members k),
    );
  }

  pub none_more : ¬ IsChangedAt old new routes n → AreSoFar old new routes (n + 1) places
  none_more not = record { ascending = so_far.ascending; members = λ k. grind (arith, cases_lt, so_far.members k) }

  pub all_of : length routes ≤ n → AreChanged old new routes places
  all_of all = record { ascending = so_far.ascending; members = λ k. grind (arith, so_far.members k) }
