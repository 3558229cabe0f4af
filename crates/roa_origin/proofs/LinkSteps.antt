-- One step of the walk along the links, from the first n VRPs on: what it passes over, and what that tells of a
-- route.
use Rattle.roa_origin.proofs.Common.{Any, Bool, IsTrue, List, arith, false, get_or, length, refl, true, ℕ, ◌-◌, ◌<◌}
use Rattle.roa_origin.proofs.Common.{◌↔◌, ◌∙◌, ◌≡◌, ◌≤◌, ◌⊎◌, get_or_default, slice_range, CoversPrefix, FamilyPrefix}
use Rattle.roa_origin.proofs.Common.{IsWalk, IsGroup, IsLink, CoversRoute, HasAs, Matches, Vrp, HasCoveringAsn}
use Rattle.roa_origin.proofs.Common.{IsMatched, IsRouteCovered, IsValidity, Link, Invalid, Valid}
use Rattle.roa_origin.specs.Coverings.{IsNearest}
use Rattle.roa_origin.specs.Validities.{IsHolderIn}
use Rattle.roa_origin.proofs.PrefixGroups.{any_in, group, none_in, piece_length}
use Rattle.roa_origin.proofs.LinkWalks.{fewer, no_link, nowhere, passes_none, steps}

-- from the place n on a list has none that is such
abbrev pub NonePassed : (Vrp → Type 0) → List Vrp → ℕ → Type 0
NonePassed P xs n = (k : ℕ) (d : Vrp) → n ≤ k → k < length xs → ¬ P (get_or xs k d)

-- where all have been passed, none of the list is such
none_passed_of : (P : Vrp → Type 0) (xs : List Vrp) → NonePassed P xs 0 → ¬ Any P xs
none_passed_of P xs none h = none h.0 h.1 (omega arith) h.2 (rw h.3 h.4)

-- what covers a prefix covers what that covers
pub covers_through : (p q r : FamilyPrefix) → CoversPrefix p q → CoversPrefix q r → CoversPrefix p r
covers_through p q r c d = record { family = c.family ∙ d.family; inside = λ n is. c.inside n (d.inside n is) }

module _ {xs : List Vrp} {links : List Link} {n : ℕ} {r : FamilyPrefix} {l : Link}
    (walk : IsWalk xs links n r) (some : 0 < n) (is : (e : Link) → get_or links (n - 1) e ≡ l) where
  pub linked : (d : Vrp) → IsLink xs (n - 1) (get_or xs (n - 1) d) l
  linked d = rw (is no_link) at (walk.table.linked (n - 1) d no_link (omega arith))

  -- at the places that are left behind nothing covers the route but what has the last one's prefix
  step : (k : ℕ) (d : Vrp) → k < length xs → l.back ≤ k
      → (n ≤ k) ⊎ (((l.first ≤ k) × (k < n)) ⊎ (¬ CoversPrefix (get_or xs k d).0.prefix r))
  step k d small from =
      let order = walk.table.in_order in
      let passed = passes_none xs n r order walk.up_to walk.within walk.is_prefix (n - 1) l (omega arith) linked in
      grind (arith, passed k d from)

  pub first_before : l.first < n
  first_before = omega (arith, linked nowhere)

  -- what is left is walked on
  pub walk_back : IsWalk xs links l.back r
  walk_back = (let here = linked nowhere in grind (arith))

  -- it gets to a shorter prefix
  pub fewer_left : steps xs l.back < steps xs n
  fewer_left = fewer xs n l.back some (λ d. (linked d).shorter d)

  -- what covers the route and none among them is, nor from n on, none behind the link is
  pub none_left : (P : Vrp → Type 0) → ((y : Vrp) → P y → CoversRoute r y) → NonePassed P xs n
      → ¬ Any P (slice_range xs l.first n) → NonePassed P xs l.back
  none_left P covers so_far none k d from small is =
      grind (arith, covers, none_in xs l.first n walk.within P none k d, so_far k d, step k d small)

  -- those of the last one's prefix are a group where it covers the route
  pub group_at : ((d : Vrp) → CoversRoute r (get_or xs (n - 1) d)) → IsGroup r (slice_range xs l.first n)
  group_at covers =
      let own = linked nowhere in
      group xs l.first n walk.within r (get_or xs (n - 1) nowhere).0.prefix walk.table.in_order
      (λ k d from before. own.one_prefix k d from (omega (arith, before, some))) (covers nowhere)

-- ---- what the VRPs that the walk has passed tell of a route

-- a VRP that covers the route and has its AS
abbrev pub Holds : FamilyPrefix → ℕ → Vrp → Type 0
Holds r asn vrp = CoversRoute r vrp × HasAs asn vrp

-- none of them matches it, and the test tells whether one of the table covers it and has its AS
pub record IsPassed (r : FamilyPrefix) (asn : ℕ) (xs : List Vrp) (n : ℕ) (has : Bool) : Type 0 where
  pub unmatched : NonePassed (Matches r asn) xs n
  pub held : has ≡ true → HasCoveringAsn r asn xs
  pub unheld : has ≡ false → NonePassed (Holds r asn) xs n

-- the first n VRPs are left: the last of them, with its link, covers the route
pub record IsLeft (r : FamilyPrefix) (asn : ℕ) (xs : List Vrp) (links : List Link) (n : ℕ) (l : Link) (has : Bool)
    : Type 0 where
  pub walk : IsWalk xs links n r
  pub some : 0 < n
  pub covers : (d : Vrp) → CoversRoute r (get_or xs (n - 1) d)
  pub link : (e : Link) → get_or links (n - 1) e ≡ l
  pub passed : IsPassed r asn xs n has

-- none behind the nearest VRP that covers the route does
pub left_begun : {r : FamilyPrefix} {xs : List Vrp} {links : List Link} {n : ℕ} {l : Link} (asn : ℕ)
    → IsNearest xs links n r → 0 < n → ((e : Link) → get_or links (n - 1) e ≡ l) → IsLeft r asn xs links n l false
left_begun asn near some is = record {
  walk = near.pass.walk;
  some = some;
  covers = λ d. near.pass.next d some;
  link = is;
  passed = record {
    unmatched = λ k d from small m. near.none k d from small small m.covers;
    held = λ e. absurd (cc);
    unheld = λ e k d from small h. near.none k d from small small h.0;
  };
}

module _ {r : FamilyPrefix} {asn : ℕ} {xs : List Vrp} {links : List Link} {n : ℕ} {l : Link} {has : Bool}
    (left : IsLeft r asn xs links n l has) where
  -- those of the last one's prefix
  abbrev pub these : List Vrp
  these = slice_range xs l.first n

  pub left_group : IsGroup r these
  left_group = group_at left.walk left.some left.link left.covers

  pub left_some : 0 < length these
  left_some =
      omega (arith, piece_length xs l.first n left.walk.within, first_before left.walk left.some left.link)

  -- what one of them is, one of the table is
  in_table : (P : Vrp → Type 0) → Any P these → Any P xs
  in_table P = any_in xs l.first n left.walk.within P

  -- one of them matches the route
  pub is_valid : IsMatched r asn these → IsValidity r asn xs Valid
  is_valid h = grind (arith, in_table (Matches r asn) h)

  pub is_held : HasCoveringAsn r asn these → HasCoveringAsn r asn xs
  is_held h = in_table (Holds r asn) h

  -- none of them does, and one has its AS
  pub passed_held : {vrp : Vrp} → IsHolderIn r asn these vrp → ¬ Matches r asn vrp → IsPassed r asn xs l.back true
  passed_held holder free =
      let none : ¬ IsMatched r asn these = λ m. free (holder.allows.1 m) in record {
        unmatched =
            none_left left.walk left.some left.link (Matches r asn) (λ y m. m.covers) left.passed.unmatched none;
        held = λ e. is_held holder.holds;
        unheld = λ e. absurd (cc);
      }

  -- or none has its AS
  pub passed_unheld : ¬ HasCoveringAsn r asn these → IsPassed r asn xs l.back has
  passed_unheld none =
      let unmatched : ¬ IsMatched r asn these = λ h. none (grind (arith)) in record {
        unmatched =
            none_left left.walk left.some left.link (Matches r asn) (λ y m. m.covers) left.passed.unmatched unmatched;
        held = left.passed.held;
        unheld = λ e. none_left left.walk left.some left.link (Holds r asn) (λ y h. h.0) (left.passed.unheld e) none;
      }

  -- the link leads to the next one that covers the route
  pub left_on : {next : Bool} {m : Link} → IsPassed r asn xs l.back next → 0 < l.back
      → ((e : Link) → get_or links (l.back - 1) e ≡ m) → IsLeft r asn xs links l.back m next
  left_on passed more is = record {
    walk = walk_back left.walk left.some left.link;
    some = more;
    covers = λ d.
        covers_through _ _ r ((linked left.walk left.some left.link nowhere).covers d more) (left.covers nowhere);
    link = is;
    passed = passed;
  }

  -- and where it leads nowhere, all that cover it have been passed
  pub is_invalid : {next : Bool} → IsPassed r asn xs 0 next → IsValidity r asn xs Invalid
  is_invalid passed =
      let x = get_or xs (n - 1) nowhere in
      let is = get_or_default xs (n - 1) x nowhere (omega (arith, left.some, left.walk.within)) in
      let covered : IsRouteCovered r xs =
      (n - 1, x, omega (arith, left.some, left.walk.within), is, left.covers nowhere) in
      let none : ¬ IsMatched r asn xs = none_passed_of (Matches r asn) xs passed.unmatched in
      grind (arith)

-- the test tells of the table what it told of all that were passed
pub held_in_all : (r : FamilyPrefix) (asn : ℕ) (xs : List Vrp) (has : Bool) → IsPassed r asn xs 0 has
    → IsTrue has ↔ HasCoveringAsn r asn xs
held_in_all r asn xs false passed = (
  (λ e. absurd (cc)),
  (λ h. absurd (none_passed_of (Holds r asn) xs (passed.unheld refl) h)),
)
held_in_all r asn xs true passed = ((λ e. passed.held refl), (λ h. refl))
