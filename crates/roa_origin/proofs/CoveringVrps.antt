-- The VRPs that cover a route, among the first of a table.
use Rattle.roa_origin.proofs.Common.{Bool, List, [], ap, arith, false, get_or, length, refl, reverse, suc, true, zero}
use Rattle.roa_origin.proofs.Common.{ℕ, ◌+◌, ◌-◌, ◌<◌, ◌↔◌, ◌∙◌, ◌∷◌, ◌≡◌, ◌≤◌, ◌⊎◌, and_parts, eq-eqb, eqb-true}
use Rattle.roa_origin.proofs.Common.{le-leb, leb-true, append-nil, reverse-append, reverse-reverse, take_all}
use Rattle.roa_origin.proofs.Common.{All-filter, filter_more, filter_passes, IsNonDecreasingBy-filter, filter}
use Rattle.roa_origin.proofs.Common.{IsNonDecreasingBy, covers_round, round_covers, FamilyPrefix, IsFamilyPrefix}
use Rattle.roa_origin.proofs.Common.{AreThose, IsWalk, IsCoveringWalk, covering_before, covers_route, IsInOrder, IsLink}
use Rattle.roa_origin.proofs.Common.{NoneCovers, CoversRoute, Vrp, prefix_len, table_place, vrp_place, Link}
use Rattle.roa_origin.proofs.NestedRoutes.{covers_between, same_width}
use Rattle.roa_origin.proofs.OrderNumbers.{covers_len, covers_place}
use Rattle.roa_origin.proofs.LinkSteps.{covers_through}
use Rattle.roa_origin.specs.Coverings.{IsNearest}
use Rattle.roa_origin.specs.Links.{AreUpTo, IsTable}
use Rattle.roa_origin.specs.Lookups.{IsLookupBetween}
use Rattle.roa_origin.proofs.LinkWalks.{later_covers_none, no_link, nowhere, passes_none, prefix_of}

-- the test tells whether the VRP covers the route
covers_if_true : (route : FamilyPrefix) (x : Vrp) → (covers_route route x ≡ true) ↔ CoversRoute route x
covers_if_true route x = (
  (λ e. covers_round x.0.prefix route (grind (arith, and_parts, eqb-true, leb-true))),
  λ c. grind (arith, eq-eqb, le-leb, round_covers, same_width),
)

-- what the test picks out of a list are those that cover the route
pub are_those : (route : FamilyPrefix) (xs : List Vrp)
    → AreThose (CoversRoute route) xs (filter (covers_route route) xs)
are_those route [] = refl
are_those route (x ∷ xs) = grind (arith, covers_if_true route x, are_those route xs)

module _ (route : FamilyPrefix) (xs : List Vrp) where
  -- one VRP more is the first of them, or none
  covers_step : (k : ℕ) (d : Vrp) → k < length xs → CoversRoute route (get_or xs k d)
      → covering_before route xs (k + 1) ≡ get_or xs k d ∷ covering_before route xs k
  covers_step k d small covers =
      rw (
        filter_more (covers_route route) xs k d small,
        (covers_if_true route (get_or xs k d)).1 covers,
        reverse-append,
      ) refl

  free_step : (k : ℕ) (d : Vrp) → k < length xs → ¬ CoversRoute route (get_or xs k d)
      → covering_before route xs (k + 1) ≡ covering_before route xs k
  free_step k d small free =
      let fails : covers_route route (get_or xs k d) ≡ false = grind (arith, covers_if_true) in
      rw (filter_more (covers_route route) xs k d small, fails, append-nil) refl

  -- places at which none covers the route give none
  none_between : (n to from : ℕ) → to ≡ from + n → to ≤ length xs → NoneCovers xs route from to
      → covering_before route xs to ≡ covering_before route xs from
  none_between zero to from far high none = ap (covering_before route xs) (let e : to ≡ from = omega arith in e)
  none_between (suc n) to from far high none =
      let on : to ≡ from + n + 1 = omega (arith, far) in
      rw on (grind (arith, free_step (from + n) nowhere, none (from + n) nowhere, none_between n (from + n) from))

  -- where none from a place on covers the route, those before it are all that do
  pub all_before : (n : ℕ) → n ≤ length xs → NoneCovers xs route n (length xs)
      → reverse (covering_before route xs n) ≡ filter (covers_route route) xs
  all_before n high none =
      let all = none_between (length xs - n) (length xs) n (omega arith) (omega arith) none in
      rw (← all, take_all (length xs) xs (omega arith), reverse-reverse)

-- in order, those that cover a route go from the shortest prefix to the longest
pub by_length : (route : FamilyPrefix) (xs : List Vrp) → IsFamilyPrefix route → IsInOrder xs
    → IsNonDecreasingBy prefix_len (filter (covers_route route) xs)
by_length route xs is order i j d before inside =
    let are = All-filter (covers_route route) (λ x. IsFamilyPrefix x.0.prefix) xs (prefix_of xs order) in
    let passes = filter_passes (covers_route route) xs in
    let places = IsNonDecreasingBy-filter vrp_place (covers_route route) xs order.ordered i j d before inside in
    grind (arith, passes i d, passes j d, are i d, are j d, covers_between, covers_len, covers_place, covers_if_true)

-- and they are in the table's order
pub by_place : (route : FamilyPrefix) (xs : List Vrp) → IsInOrder xs
    → IsNonDecreasingBy table_place (filter (covers_route route) xs)
by_place route xs is = IsNonDecreasingBy-filter table_place (covers_route route) xs is.ranked

-- a pass begins at the nearest VRP that covers the route: that which the search found
pub near_found : {xs : List Vrp} {links : List Link} {route : FamilyPrefix} {n : ℕ} → IsTable xs links
    → IsFamilyPrefix route → n ≤ length xs → AreUpTo xs n route → NoneCovers xs route n (length xs)
    → ((d : Vrp) → 0 < n → CoversRoute route (get_or xs (n - 1) d)) → IsNearest xs links n route
near_found table is within up_to none found = record {
  pass = record {
    walk = record { table = table; within = within; up_to = up_to; is_prefix = is };
    next = found;
  };
  none = none;
}

-- or that which was read at its end
pub near_read : {xs : List Vrp} {links : List Link} {route : FamilyPrefix} {from to : ℕ} {covers : Bool} {l : Link}
    → IsLookupBetween xs links from to route covers l → covers ≡ true → IsNearest xs links from route
near_read {xs} {links} {route} h is_read =
    let read = h.read is_read in
    let later = later_covers_none route xs _ h.table.in_order h.is_prefix h.between.later in
    near_found h.table h.is_prefix (omega (arith, h.between.ordered, h.between.within)) h.between.up_to
    (λ k d from small inside. later k d (omega (arith, from, read.ended)) small inside) (λ d some. read.covers d)

-- the next step of a pass: what is left is what the link of the VRP leaves
module _ {xs : List Vrp} {links : List Link} {at : ℕ} {route : FamilyPrefix} (pass : IsCoveringWalk xs links at route)
    {left : ℕ} {l : Link} (some : 0 < at) (is : l ≡ get_or links (at - 1) no_link)
    (goes : ((left ≡ at - 1) × (l.first < at - 1)) ⊎ ((left ≡ l.back) × (at - 1 ≤ l.first))) where
  walk : IsWalk xs links at route
  walk = pass.walk

  link : (d : Vrp) → IsLink xs (at - 1) (get_or xs (at - 1) d) l
  link d = rw is (walk.table.linked (at - 1) d no_link (omega (arith, some, walk.within, walk.table.as_many)))

  before : left ≤ at - 1
  before = grind (arith, link nowhere)

  -- the link leads to a VRP of the same prefix, or to one that covers it
  next : (d : Vrp) → 0 < left → CoversRoute route (get_or xs (left - 1) d)
  next d more =
      let here = link nowhere in
      let covers = pass.next nowhere some in
      let through = λ (there : 0 < l.back). covers_through _ _ route (here.covers d there) covers in
      grind (arith, through, here.one_prefix (left - 1) d)

  pub walk_on : IsCoveringWalk xs links left route
  walk_on = record { walk = grind (arith, before, some); next = next }

  between : NoneCovers xs route left (at - 1)
  between k d from small there =
      let order = walk.table.in_order in
      let passed = passes_none xs at route order walk.up_to walk.within walk.is_prefix (at - 1) l (omega arith) link in
      grind (arith, passed k d)

  pub gives : (d : Vrp) → covering_before route xs at ≡ get_or xs (at - 1) d ∷ covering_before route xs left
  gives d =
      let there : at - 1 < length xs = omega (arith, some, walk.within) in
      let passed = none_between route xs (at - 1 - left) _ left (omega (arith, before)) (omega arith) between in
      ap (covering_before route xs) (let on : at ≡ at - 1 + 1 = omega arith in on)
      ∙ rw (covers_step route xs (at - 1) d there (pass.next d some), passed)
