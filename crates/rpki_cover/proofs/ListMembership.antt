-- Elements of lists.
use Rattle.rpki_cover.proofs.Common.{Bool, refl, List, [], ap, arith, false, length, suc, true, zero, ◌<◌, ◌∙◌, ◌∷◌}
use Rattle.rpki_cover.proofs.Common.{◌≡◌, ◌⊎◌, cases_Bool, Contains, filter}
use Rattle.std.proofs.lemmas.List.Filters.{length-filter_both}
use Rattle.std.specs.Prelude.{not}

-- an element is the first or a later one
pub contains_cases : {X : Type 0} → (y : X) (ys : List X) (x : X) → Contains (y ∷ ys) x → (y ≡ x) ⊎ Contains ys x
contains_cases y ys x there = grind arith

pub contains_later : {X : Type 0} → (y : X) (ys : List X) (x : X) → Contains ys x → Contains (y ∷ ys) x
contains_later y ys x (k, h, e) = (suc k, omega (arith, h), e)

-- elements that pass a test
pub contains_filter : {X : Type 0} → (test : X → Bool) (xs : List X) (x : X) → Contains xs x → test x ≡ true
    → Contains (filter test xs) x
contains_filter test [] x (k, h, e) t = absurd (omega (arith, h))
contains_filter test (y ∷ ys) x (zero, h, e) t = rw (ap test e ∙ t) (0, omega arith, e)
contains_filter test (y ∷ ys) x (suc k, h, e) t =
    let later = contains_filter test ys x (k, omega (arith, h), e) t in
    grind (arith, cases_Bool (test y), contains_later y (filter test ys) x later)

pub filter_shrinks : {X : Type 0} → (test : X → Bool) (xs : List X) (x : X) → Contains xs x → test x ≡ false
    → length (filter test xs) < length xs
filter_shrinks test xs x c t =
    let (k, h, e) = contains_filter (λ x. not (test x)) xs x c (rw t) in
    omega (arith, length-filter_both test (λ x. not (test x)) (λ x. refl) xs)
