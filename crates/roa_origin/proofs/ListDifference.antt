-- One walk along two lists in order: what the one has and the other hasn't.
use Rattle.roa_origin.proofs.Common.{AllPairs, Contains, List, [], arith, get_or, length, take, ℕ, ◌++◌, ◌+◌, ◌<◌, ◌↔◌}
use Rattle.roa_origin.proofs.Common.{◌∷◌, ◌≡◌, ◌≢◌, ◌≤◌, cases_lt, cases_order, get_or_default, IsTotalOrder, Ordering}
use Rattle.roa_origin.proofs.Common.{Equal, Less, AreThose}
use Rattle.roa_origin.proofs.SortedMerge.{stays_at}

-- what stays of the one list up to a place; before a place of the other one all are less than what is left of the one
pub record IsKept {X : Type 0} (R : X → X → Ordering) (one other : List X) (at place : ℕ) (left : List X) : Type 0 where
  pub within : place ≤ length other
  pub stays : AreThose (λ p. ¬ Contains other p) (take at one) left
  pub passed : (k l : ℕ) (d e : X) → k < place → at ≤ l → l < length one → R (get_or other k d) (get_or one l e) ≡ Less

-- a turn of the walk along both: x stands next in the one, and before a place of the other one all are less than x
module _ {X : Type 0} {R : X → X → Ordering} (total : IsTotalOrder R) (ties : (x y : X) → (R x y ≡ Equal) ↔ (x ≡ y))
    {one other left : List X} {at from place : ℕ} {x : X} (so_far : IsKept R one other at from left)
    (ascends : AllPairs (λ x y. R x y ≡ Less) one) (others : AllPairs (λ x y. R x y ≡ Less) other)
    (small : at < length one) (is : x ≡ get_or one at x) (within : place ≤ length other)
    (less : (k : ℕ) (d : X) → from ≤ k → k < place → R (get_or other k d) x ≡ Less)
    (not_less : (d : X) → place < length other → R (get_or other place d) x ≢ Less) where
  before : (k : ℕ) (d : X) → k < place → R (get_or other k d) x ≡ Less
  before k d low = grind (arith, cases_lt k from, so_far.passed k at d x, is, less k d)

  -- and so than what stands behind x
  passed_more : (k l : ℕ) (d e : X) → k < place → at + 1 ≤ l → l < length one
      → R (get_or other k d) (get_or one l e) ≡ Less
  passed_more k l d e low more inside =
      grind (arith, before k d, total.trans, is, ascends at l e, get_or_default one at e x small)

  -- the other list has x at the place, or nowhere
  nowhere : ¬ ((place < length other) × (get_or other place x ≡ x)) → ¬ Contains other x
  nowhere none h = grind (arith, before, cases_order, λ (y : X). (ties y x).1)

  -- x is kept, or left out
  pub turned :
      (¬ ((place < length other) × (get_or other place x ≡ x)) → IsKept R one other (at + 1) place (left ++ x ∷ []))
      × ((place < length other) × (get_or other place x ≡ x) → IsKept R one other (at + 1) place left)
  turned =
      let stays = stays_at (λ p. ¬ Contains other p) one left at x small is so_far.stays in (
        (λ none. record { within = within; stays = stays.0 (nowhere none); passed = passed_more }),
        λ there.
            let gone = stays.1 (λ none. none (place, there.0, there.1)) in
            record { within = within; stays = gone; passed = passed_more },
      )
