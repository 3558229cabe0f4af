-- Octets that are written for a piece of an array after those before it.
use Rattle.pigyelund_routes.proofs.Common.{List, [], arith, get_or, length, refl, subst, ℕ, ◌+◌, ◌<◌, ◌∷◌, ◌≡◌}
use Rattle.pigyelund_routes.proofs.Common.{IsOrigin, Route}
use Rattle.std.proofs.Common.{below_more, inl, inr, get_or-set_other, get_or-set_same, suc, zero, ◌-◌, ◌≢◌, ◌≤◌}
use Rattle.std.proofs.Math.ListN.{set}
use Rattle.std.proofs.lemmas.Bool.{cases_lt}
use Rattle.roa_origin.specs.Vrps.{Vrp}
use Rattle.roa_origin.specs.Lookups.{RouteLookup}
use Rattle.pigyelund_routes.specs.Lookups.{AreAppended, AreBegun, IsLookupIn, IsReasonFound, IsValidityFound}
use Rattle.pigyelund_routes.specs.Lookups.{IsLookupReason, IsLookupValidity}
use Rattle.pigyelund_routes.specs.Reasons.{HasReason}
use Rattle.pigyelund_routes.specs.declared.interleaved.TheConstants.{BESIDE}

module _ (R : ℕ → ℕ → Type 0) (at n : ℕ) (before : List ℕ) where
  -- one octet more
  pub one_appended : (xs : List ℕ) (v : ℕ) → length xs ≡ length before → R n v → AreAppended R at n before xs
      → AreAppended R at (n + 1) before (set xs (at + n) v)
  one_appended xs v same is so_far k below small =
      let P : ℕ → Type 0 = λ k. k < length before → (k < at → get_or (set xs (at + n) v) k 0 ≡ get_or before k 0)
      × (at ≤ k → R (k - at) (get_or (set xs (at + n) v) k 0)) in
      let others : (k : ℕ) → k < at + n → P k =
      λ k below small. let other : k ≢ at + n = omega arith in
      rw (get_or-set_other xs (at + n) k v 0 other) (so_far k below small) in
      let here : P (at + n) =
      λ small. let inside : at + n < length xs = omega (arith, same, small) in
      let offset : at + n - at ≡ n = omega arith in (
        λ below. absurd (omega (arith, below)),
        λ above. rw (get_or-set_same xs (at + n) v 0 inside, offset) is,
      ) in
      below_more P (at + n) others here k (omega (arith, below)) small

  -- what holds of the octets before holds of these too
  pub all_appended : (P : ℕ → ℕ → Type 0) (after : List ℕ) → AreAppended R at n before after
      → ((k : ℕ) → k < at → k < length before → P k (get_or before k 0))
      → ((j octet : ℕ) → j < n → R j octet → P (at + j) octet)
      → (k : ℕ) → k < at + n → k < length before → P k (get_or after k 0)
  all_appended P after written so_far more k below small =
      let (old, new) = written k below small in
      let same : at ≤ k → at + (k - at) ≡ k = λ above. omega arith in
      elim (cases_lt k at) as (λ _. P k (get_or after k 0)) [
        | inl first ↦ rw (old first) (so_far k first small)
        | inr above ↦ subst (λ j. P j (get_or after k 0)) (same above)
            (more (k - at) _ (omega (arith, below, above)) (new above))
      ]

module _ (vrps : List Vrp) (r : Route) (s : RouteLookup) (octet : ℕ) (is : IsLookupIn vrps r s) where
  -- the validity that a lookup finds is that of the route
  pub origin : IsLookupValidity s octet → IsOrigin vrps r octet
  origin (validity, so, written) = record {
    prefix = s.route;
    is_route = is.is_route;
    validity = validity;
    is_validity = rw (is.vrps_are, is.asn) at so;
    number = written;
  }

  -- so is the reason
  pub reason : IsLookupReason s octet → HasReason vrps r octet
  reason (validity, so, why) = (
    _,
    record {
      prefix = s.route;
      is_route = is.is_route;
      validity = validity;
      is_validity = rw (is.vrps_are, is.asn) at so;
      is_number = refl;
      is_reason = rw (is.vrps_are, is.asn) at why;
    },
  )

module _ (vrps : List Vrp) (routes : List Route) (at n : ℕ) (lookups : List RouteLookup)
    (begun : AreBegun vrps routes at BESIDE lookups) (few : n ≤ BESIDE) (left : at + n ≤ length routes) where
  -- the lookup with a number is that of its route
  lookup_in : (r : Route) (j : ℕ) (lookup : RouteLookup) → j < n → get_or lookups j lookup ≡ lookup
      → IsLookupIn vrps (get_or routes (at + j) r) lookup
  lookup_in r j lookup small same =
      let is = begun j r lookup (omega (arith, few, small)) (omega (arith, left, small)) in
      subst (λ (s : RouteLookup). IsLookupIn vrps (get_or routes (at + j) r) s) same is

  -- what it finds is the validity of the route
  pub origin_found : (r : Route) (j octet : ℕ) → j < n → IsValidityFound lookups j octet
      → IsOrigin vrps (get_or routes (at + j) r) octet
  origin_found r j octet small (lookup, same, found) =
      origin vrps _ lookup octet (lookup_in r j lookup small same) found

  -- the validities of the routes of a piece follow those before it
  pub validities_written : (before after : List ℕ) → AreAppended (IsValidityFound lookups) at n before after
      → ((r : Route) (k : ℕ) → k < at → k < length before → IsOrigin vrps (get_or routes k r) (get_or before k 0))
      → (r : Route) (k : ℕ) → k < at + n → k < length before → IsOrigin vrps (get_or routes k r) (get_or after k 0)
  validities_written before after written so_far r =
      all_appended (IsValidityFound lookups) at n before (λ k octet. IsOrigin vrps (get_or routes k r) octet) after
      written (so_far r) (origin_found r)

  -- so do their reasons
  pub reasons_written : (before after : List ℕ) → AreAppended (IsReasonFound lookups) at n before after
      → ((r : Route) (k : ℕ) → k < at → k < length before → HasReason vrps (get_or routes k r) (get_or before k 0))
      → (r : Route) (k : ℕ) → k < at + n → k < length before → HasReason vrps (get_or routes k r) (get_or after k 0)
  reasons_written before after written so_far r =
      all_appended (IsReasonFound lookups) at n before (λ k octet. HasReason vrps (get_or routes k r) octet) after
      written (so_far r)
      (λ j octet small found. reason vrps _ found.0 octet (lookup_in r j found.0 small found.1) found.2)

-- P holds of each element and its number, counted from i
abbrev pub AreNumbered : {X : Type 0} → (ℕ → X → Type 0) → ℕ → List X → Type 0
AreNumbered P i [] = Unit {0}
AreNumbered P i (x ∷ xs) = P i x × AreNumbered P (i + 1) xs

pub numbered_at : {X : Type 0} (P : ℕ → X → Type 0) (i : ℕ) (xs : List X) → AreNumbered P i xs → (k : ℕ) (none : X)
    → k < length xs → P (i + k) (get_or xs k none)
numbered_at P i [] all k none small = absurd (omega (arith, small))
numbered_at P i (x ∷ xs) (is, rest) zero none small =
    let same : i ≡ i + zero = omega arith in subst (λ j. P j x) same is
numbered_at P i (x ∷ xs) (is, rest) (suc k) none small =
    let same : i + 1 + k ≡ i + suc k = omega arith in
    subst (λ j. P j (get_or xs k none)) same (numbered_at P (i + 1) xs rest k none (omega (arith, small)))
