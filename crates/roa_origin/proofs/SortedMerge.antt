-- Two lists in order, merged by turns: each turn takes the next element of one of them, which comes no later than the
-- next of the other.
use Rattle.roa_origin.proofs.Common.{All, List, [], ap, append_assoc, arith, get_or, inl, inr, length, refl, take, ℕ}
use Rattle.roa_origin.proofs.Common.{◌++◌, ◌+◌, ◌-◌, ◌<◌, ◌∷◌, ◌≡◌, ◌≤◌, get_or_default, get_or_push, length_push}
use Rattle.roa_origin.proofs.Common.{take_more, All-contains, Contains-get_or, IsNonDecreasingBy-push}
use Rattle.roa_origin.proofs.Common.{IsPermutation-append_left, IsPermutation-middle, IsPermutation-push_more}
use Rattle.roa_origin.proofs.Common.{IsPermutation-sym, IsNonDecreasingBy, IsPermutation, AreThose}
use Rattle.roa_origin.proofs.ListMembers.{those_are}

-- a list in order whose last element comes no later than what is left of two lists from places on
pub record IsMerged {X Y Z : Type 0} (f : X → ℕ) (g : Y → ℕ) (h : Z → ℕ) (xs : List X) (ys : List Y) (at come : ℕ)
    (list : List Z) : Type 0 where
  pub ordered : IsNonDecreasingBy h list
  pub ones : (k : ℕ) (d : Z) (e : X) → at ≤ k → k < length xs → 0 < length list
      → h (get_or list (length list - 1) d) ≤ f (get_or xs k e)
  pub others : (k : ℕ) (d : Z) (e : Y) → come ≤ k → k < length ys → 0 < length list
      → h (get_or list (length list - 1) d) ≤ g (get_or ys k e)

-- the last element of a list that one was put behind
last_is : {X : Type 0} (list : List X) (x d : X) → get_or (list ++ x ∷ []) (length (list ++ x ∷ []) - 1) d ≡ x
last_is list x d = get_or_push list x d _ (omega (arith, length_push list x))

module _ {X Y Z : Type 0} {f : X → ℕ} {g : Y → ℕ} {h : Z → ℕ} {xs : List X} {ys : List Y} {at come : ℕ} {list : List Z}
    (m : IsMerged f g h xs ys at come list) where
  pub turned : IsMerged g f h ys xs come at list
  turned = record { ordered = m.ordered; ones = m.others; others = m.ones }

  -- an element is left out
  pub skipped : IsMerged f g h xs ys (at + 1) come list
  skipped = grind (arith)

  -- or is next
  pub taken : (x : X) (z : Z) → f x ≡ h z → IsNonDecreasingBy f xs → IsNonDecreasingBy g ys → at < length xs
      → get_or xs at x ≡ x → ((e : Y) → come < length ys → h z ≤ g (get_or ys come e))
      → IsMerged f g h xs ys (at + 1) come (list ++ z ∷ [])
  taken x z same up up' inside is le =
      let ordered = IsNonDecreasingBy-push h list z m.ordered (λ d some. grind (arith, is, same, m.ones at d x)) in
      grind (arith, get_or_default, last_is, up at, up' come)

-- ---- what is kept of a list

module _ {X : Type 0} (P : X → Type 0) where
  those_next : (xs ys : List X) (x : X) → AreThose P xs ys
      → (P x → AreThose P (xs ++ x ∷ []) (ys ++ x ∷ [])) × (¬ P x → AreThose P (xs ++ x ∷ []) ys)
  those_next [] ys x e = ((λ h. inl (h, [], ap (λ zs. zs ++ x ∷ []) e, refl)), λ h. inr (h, e))
  those_next (y ∷ xs) ys x e = ((λ h. grind (arith, those_next xs)), λ h. grind (arith, those_next xs))

  -- of a list up to a place: the element there stays, or goes
  pub stays_at : (xs ys : List X) (at : ℕ) (x : X) → at < length xs → x ≡ get_or xs at x → AreThose P (take at xs) ys
      → (P x → AreThose P (take (at + 1) xs) (ys ++ x ∷ [])) × (¬ P x → AreThose P (take (at + 1) xs) ys)
  stays_at xs ys at x small is so_far = rw (take_more xs at x small, ← is) (those_next _ ys x so_far)

-- what all are, those are
pub All-those : {X : Type 0} (P R : X → Type 0) (xs ys : List X) → AreThose P xs ys → All R xs → All R ys
All-those P R xs ys those all k d small =
    All-contains R xs _ all (those_are P xs ys _ those (Contains-get_or ys k d small)).1

-- ---- what a list has in another order, and one element more

-- it is the last of the second part
pub moved_last : {X : Type 0} (kept some list : List X) (x : X) → IsPermutation (kept ++ some) list
    → IsPermutation (kept ++ (some ++ x ∷ [])) (list ++ x ∷ [])
moved_last kept some list x moved = rw (← append_assoc kept some (x ∷ [])) (IsPermutation-append_left _ _ list moved)

-- or of the first
pub moved_middle : {X : Type 0} (kept some list : List X) (x : X) → IsPermutation (kept ++ some) list
    → IsPermutation ((kept ++ x ∷ []) ++ some) (list ++ x ∷ [])
moved_middle kept some list x moved =
    grind (arith, IsPermutation-middle, IsPermutation-push_more, IsPermutation-sym, append_assoc)
