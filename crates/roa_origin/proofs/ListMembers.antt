-- Members of lists: of what is mapped, of what a property picks out, and of two lists in one strict order.
use Rattle.roa_origin.proofs.Common.{All, AllPairs, Contains, List, [], ap, arith, inl, inr, length, map, refl, subst}
use Rattle.roa_origin.proofs.Common.{suc, sym, ℕ, ◌<◌, ◌↔◌, ◌∙◌, ◌∷◌, ◌≡◌, ◌⊎◌, get_or-map, length-map, All-head}
use Rattle.roa_origin.proofs.Common.{All-tail, Contains-get_or, AllPairs-cons, AreThose}

module _ {X : Type 0} where
  pub here : (x : X) (xs : List X) → Contains (x ∷ xs) x
  here x xs = (0, omega arith, refl)

  pub there : (x : X) (xs : List X) (y : X) → Contains xs y → Contains (x ∷ xs) y
  there x xs y (k, small, is) = (suc k, omega (arith, small), is)

  pub cons_cases : (x : X) (xs : List X) (y : X) → Contains (x ∷ xs) y → (x ≡ y) ⊎ Contains xs y
  cons_cases x xs y h = grind (arith)

  pub no_member : (x : X) → Contains [] x → ⊥
  no_member x h = grind (arith)

  -- those at which a property holds are the members at which it does
  pub those_are : (P : X → Type 0) (xs ys : List X) (y : X) → AreThose P xs ys → Contains ys y → P y × Contains xs y
  those_are P [] ys y those h = absurd (no_member y (rw those at h))
  those_are P (x ∷ xs) ys y those h =
      grind (arith, cons_cases, here x xs, there x xs y, λ (zs : List X). those_are P xs zs y)

  pub those_have : (P : X → Type 0) (xs ys : List X) (x : X) → AreThose P xs ys → Contains xs x → P x → Contains ys x
  those_have P [] ys x those h p = absurd (no_member x h)
  those_have P (z ∷ xs) ys x (inl (q, zs, cut, those)) h p =
      grind (arith, cons_cases z xs x h, here z zs, there z zs x, those_have P xs zs x those)
  those_have P (z ∷ xs) ys x (inr (not_one, those)) h p = grind (arith, cons_cases z xs x h, those_have P xs ys x those)

  -- and are one list
  pub those_one : (P : X → Type 0) (xs ys zs : List X) → AreThose P xs ys → AreThose P xs zs → ys ≡ zs
  those_one P [] ys zs e f = e ∙ sym f
  those_one P (x ∷ xs) ys zs e f = grind (arith, those_one P xs)

  -- those of one property are those of another that holds at the same members
  pub those_too : (P Q : X → Type 0) (xs ys : List X) → All (λ x. P x ↔ Q x) xs → AreThose P xs ys → AreThose Q xs ys
  those_too P Q [] ys same e = e
  those_too P Q (x ∷ xs) ys same e =
      grind (arith, All-head (λ y. P y ↔ Q y) x xs same, those_too P Q xs, All-tail (λ y. P y ↔ Q y) x xs same)

  rest_ordered : (B : X → X → Type 0) (x : X) (xs : List X) → AllPairs B (x ∷ xs) → AllPairs B xs
  rest_ordered B x xs ordered i j d less small = ordered (suc i) (suc j) d (omega (arith, less)) (omega (arith, small))

  first_before : (B : X → X → Type 0) (x : X) (xs : List X) (y : X) → AllPairs B (x ∷ xs) → Contains xs y → B x y
  first_before B x xs y ordered (k, small, is) =
      subst (B x) is (ordered 0 (suc k) y (omega arith) (omega (arith, small)))

  -- in order, where the list is
  pub those_ordered : (P : X → Type 0) (B : X → X → Type 0) (xs ys : List X) → AreThose P xs ys → AllPairs B xs
      → AllPairs B ys
  those_ordered P B [] ys none o = rw none o
  those_ordered P B (x ∷ xs) ys (inl (h, zs, cut, those)) o =
      let rest = those_ordered P B xs zs those (rest_ordered B x xs o) in
      let after = λ (k : ℕ) (d : X) (small : k < length zs).
      first_before B x xs _ o (those_are P xs zs _ those (Contains-get_or zs k d small)).1 in
      rw cut (AllPairs-cons B x zs after rest)
  those_ordered P B (x ∷ xs) ys (inr (not, those)) o = those_ordered P B xs ys those (rest_ordered B x xs o)

  -- lists in a strict order that have the same members are the same
  module _ (Before : X → X → Type 0) (not_back : (x y : X) → Before x y → Before y x → ⊥) where
    first_one : (x y : X) (xs ys : List X) → AllPairs Before (x ∷ xs) → AllPairs Before (y ∷ ys)
        → ((p : X) → Contains (x ∷ xs) p ↔ Contains (y ∷ ys) p) → x ≡ y
    first_one x y xs ys a b both =
        let before = first_before Before x xs y a in
        let after = first_before Before y ys x b in
        grind (arith, both x, both y, cons_cases, here x xs, here y ys, not_back x y)

    same_rest : (x y : X) (xs ys : List X) → x ≡ y → AllPairs Before (x ∷ xs) → (p : X)
        → (Contains (x ∷ xs) p → Contains (y ∷ ys) p) → Contains xs p → Contains ys p
    same_rest x y xs ys e a p on h =
        grind (arith, cons_cases y ys p, first_before Before x xs p a, not_back x x, there x xs p)

    pub same_list : (xs ys : List X) → AllPairs Before xs → AllPairs Before ys
        → ((p : X) → Contains xs p ↔ Contains ys p) → xs ≡ ys
    same_list [] [] a b both = refl
    same_list [] (y ∷ ys) a b both = absurd (no_member y ((both y).1 (here y ys)))
    same_list (x ∷ xs) [] a b both = absurd (no_member x ((both x).0 (here x xs)))
    same_list (x ∷ xs) (y ∷ ys) a b both =
        let e = first_one x y xs ys a b both in
        let rest = same_list xs ys (rest_ordered Before x xs a) (rest_ordered Before y ys b)
        (λ p. (same_rest x y xs ys e a p (both p).0, same_rest y x ys xs (sym e) b p (both p).1)) in
        λ i. e i ∷ rest i

module _ {X Y : Type 0} (f : X → Y) where
  pub map_has : (xs : List X) (x : X) → Contains xs x → Contains (map f xs) (f x)
  map_has xs x (k, small, is) = (k, omega (arith, small, length-map xs f), get_or-map f xs k x (f x) small ∙ ap f is)

  pub map_from : (xs : List X) (y : Y) → Contains (map f xs) y → (x : X) × Contains xs x × (f x ≡ y)
  map_from [] y h = absurd (no_member y h)
  map_from (x ∷ xs) y h = grind (arith, cons_cases (f x) (map f xs) y h, map_from xs y, here x xs, there x xs)
