-- The marks of two validities of routes say whether they differ.
use Rattle.pigyelund_routes.proofs.Common.{List, arith, get_or, length, ℕ, ◌+◌, ◌<◌, ◌≡◌, Route}
use Rattle.std.specs.Prelude.{◌≢◌, ◌≤◌, ◌⊎◌}
use Rattle.roa_origin.specs.Vrps.{Vrp}
use Rattle.roa_origin.specs.Lookups.{RouteLookup}
use Rattle.pigyelund_routes.specs.Lookups.{AreAppended, AreBegun}
use Rattle.pigyelund_routes.specs.RouteChanges.{IsChangeFound, IsRouteChange, change_mark}
use Rattle.pigyelund_routes.specs.declared.interleaved.TheConstants.{BESIDE}
use Rattle.pigyelund_routes.proofs.InterleavedLemmas.{all_appended, origin_found}

-- the mark is 0 or 1
mark_of : (x y : ℕ) → ((change_mark x y ≡ 0) × (x ≡ y)) ⊎ ((change_mark x y ≡ 1) × (x ≢ y))
mark_of x y = grind (arith)

marked : (octet x y : ℕ) → octet ≡ change_mark x y → ((octet ≡ 0) × (x ≡ y)) ⊎ ((octet ≡ 1) × (x ≢ y))
marked octet x y is = rw is (mark_of x y)

module _ (old new : List Vrp) (routes : List Route) (at n : ℕ) (befores afters : List RouteLookup)
    (begun : AreBegun old routes at BESIDE befores) (begun_new : AreBegun new routes at BESIDE afters)
    (few : n ≤ BESIDE) (left : at + n ≤ length routes) where
  -- the mark of what two lookups find is that of the route
  change_found : (r : Route) (j octet : ℕ) → j < n → IsChangeFound befores afters j octet
      → IsRouteChange old new (get_or routes (at + j) r) octet
  change_found r j octet small found = record {
    before = found.before;
    after = found.after;
    was = origin_found old routes at n befores begun few left r j found.before small found.was;
    is = origin_found new routes at n afters begun_new few left r j found.after small found.is;
    change = marked octet found.before found.after found.mark;
  }

  -- the marks of the routes of a piece follow those before it
  pub marks_written : (before after : List ℕ) → AreAppended (IsChangeFound befores afters) at n before after
      → ((r : Route) (k : ℕ) → k < at → k < length before
      → IsRouteChange old new (get_or routes k r) (get_or before k 0))
      → (r : Route) (k : ℕ) → k < at + n → k < length before
      → IsRouteChange old new (get_or routes k r) (get_or after k 0)
  marks_written before after written so_far r =
      all_appended (IsChangeFound befores afters) at n before
      (λ k octet. IsRouteChange old new (get_or routes k r) octet) after written (so_far r) (change_found r)
