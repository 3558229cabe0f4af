-- A walk along the links passes no VRP that covers the prefix.
use Rattle.roa_origin.proofs.Common.{List, None, [], arith, get_or, length, length-append, suc, sym, zero, ℕ, ◌++◌, ◌+◌}
use Rattle.roa_origin.proofs.Common.{◌-◌, ◌<◌, ◌∙◌, ◌∷◌, ◌≡◌, ◌≤◌, cases_lt, get_or_append_left, get_or_default}
use Rattle.roa_origin.proofs.Common.{get_or_push, V4, CoversPrefix, FamilyPrefix, IsFamilyPrefix, AreLater, AreLinks}
use Rattle.roa_origin.proofs.Common.{AreUpTo, IsInOrder, IsLink, NoneCovers, Vrp, prefix_len, Link}
use Rattle.roa_origin.specs.Vrps.{IsCoveringLimit}
use Rattle.roa_origin.proofs.NestedRoutes.{covers_between}
use Rattle.roa_origin.proofs.OrderNumbers.{covers_len, covers_place, no_earlier, same_prefix}

-- VRPs have prefixes
pub prefix_of : (xs : List Vrp) → IsInOrder xs → (k : ℕ) (d : Vrp) → k < length xs
    → IsFamilyPrefix (get_or xs k d).0.prefix
prefix_of xs order k d small = (order.vrps k d small).prefix.0

-- no VRP of a table, and no link
abbrev pub nowhere : Vrp
nowhere = (record { prefix = record { addr = V4 0; len = 0 }; max_len = None }, 0)

abbrev pub no_link : Link
no_link = record { first = 0; back = 0 }

-- a VRP as it is read
pub read_at : (xs : List Vrp) (k : ℕ) (d x : Vrp) → k < length xs → x ≡ get_or xs k x → get_or xs k d ≡ x
read_at xs k d x small is = get_or_default xs k d x small ∙ sym is

-- and a link
pub read_link : (links : List Link) (k : ℕ) → k < length links → (e : Link) → get_or links k e ≡ get_or links k no_link
read_link links k small e = get_or_default links k e no_link small

-- how many steps a walk takes at most from the first n VRPs on: one more than the last one's prefix has bits
abbrev pub steps : List Vrp → ℕ → ℕ
steps xs zero = 0
steps xs (suc k) = prefix_len (get_or xs k nowhere) + 1

-- each step leaves fewer
pub fewer : (xs : List Vrp) (at back : ℕ) → 0 < at
    → ((d : Vrp) → 0 < back → prefix_len (get_or xs (back - 1) d) < prefix_len (get_or xs (at - 1) d))
    → steps xs back < steps xs at
fewer xs at back some shorter = grind (arith)

module _ (xs : List Vrp) (n : ℕ) (r : FamilyPrefix)
    (order : IsInOrder xs) (upto : AreUpTo xs n r) (within : n ≤ length xs) (is_r : IsFamilyPrefix r)
    (at : ℕ) (l : Link) (inside : at < n) (link : (d : Vrp) → IsLink xs at (get_or xs at d) l) where
  there : at < length xs
  there = omega (arith, inside, within)

  -- none that a link passes over covers a prefix that comes no earlier
  pub passes_none : NoneCovers xs r l.back l.first
  passes_none k d from before small covers =
      let ordered = order.ordered k at d in
      grind (arith, covers_between, prefix_of xs order k d, prefix_of xs order at d, ordered, upto at d, link d)

  -- one step of the walk, from a VRP that doesn't cover the route
  pub walked : (x : Vrp) → x ≡ get_or xs at x → ¬ CoversPrefix x.0.prefix r → NoneCovers xs r (at + 1) n
      → (l.back ≤ n) × NoneCovers xs r l.back n
  walked x is free so_far = (
    (let here = link nowhere in omega (arith, here.back, here.first, inside)),
    λ k d from before small covers.
        grind (arith, get_or_default xs at d x there, is, (link d).one_prefix k d, passes_none k d from, so_far k d),
  )

-- the VRPs at a place and before it, as they are read
module _ (xs : List Vrp) (at : ℕ) (x y : Vrp) (l : Link) (there : at < length xs) (some : 0 < at)
    (is_x : x ≡ get_or xs at x) (is_y : y ≡ get_or xs (at - 1) y) where
  here : (k : ℕ) (d : Vrp) → k ≡ at → get_or xs k d ≡ x
  here k d same = grind (arith, get_or_default xs at d x there, is_x)

  behind : (d : Vrp) → get_or xs (at - 1) d ≡ y
  behind d = get_or_default xs (at - 1) d y (omega (arith, there)) ∙ sym is_y

  -- a VRP behind one of its prefix has the link of that
  pub link_again : y.0.prefix ≡ x.0.prefix → ((d : Vrp) → IsLink xs (at - 1) (get_or xs (at - 1) d) l)
      → (d : Vrp) → IsLink xs at (get_or xs at d) l
  link_again same link d =
      let before = link d in
      rw here (grind (arith, behind d, here, cases_lt, some))

  -- the first of a prefix has one of its own: what covers it is shorter
  pub link_new : IsInOrder xs → l.first ≡ at → l.back ≤ at → ¬ (y.0.prefix ≡ x.0.prefix)
      → NoneCovers xs x.0.prefix l.back at
      → ((e : Vrp) → 0 < l.back → CoversPrefix (get_or xs (l.back - 1) e).0.prefix x.0.prefix)
      → (d : Vrp) → IsLink xs at (get_or xs at d) l
  link_new order first back differs none found d =
      let one = order.ordered (l.back - 1) (at - 1) d in
      let other = order.ordered (at - 1) at d in
      let shorter : 0 < l.back → prefix_len (get_or xs (l.back - 1) d) < prefix_len x = λ more.
      grind (arith, prefix_of xs order, covers_len, no_earlier, same_prefix, behind d, here at d, found d more) in
      grind (arith, here, get_or_default xs (l.back - 1))

-- one link more
pub linked_more : (xs : List Vrp) (links : List Link) (at : ℕ) (l : Link) → length links ≡ at
    → AreLinks xs links → ((d : Vrp) → IsLink xs at (get_or xs at d) l) → AreLinks xs (links ++ l ∷ [])
linked_more xs links at l as_many linked new i d e small =
    grind (arith, get_or_append_left, get_or_push, length-append, linked i d e, new d)

-- what comes later than the route doesn't cover it
pub later_covers_none : (route : FamilyPrefix) (xs : List Vrp) (n : ℕ) → IsInOrder xs → IsFamilyPrefix route
    → AreLater xs n route → NoneCovers xs route n (length xs)
later_covers_none route xs n order is later k d from before small covers = grind (arith, covers_place, prefix_of)

-- a prefix that covers another, and is no shorter than the limit for that, doesn't cover the route
pub too_long : (x y route : FamilyPrefix) (limit : ℕ) → IsFamilyPrefix x → CoversPrefix x y
    → IsCoveringLimit y route limit → limit ≤ x.len → ¬ CoversPrefix x route
too_long x y route limit is above tells long covers = absurd (omega (arith, (tells x is above).0 covers, long))
