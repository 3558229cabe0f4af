-- What another order of a list, or a list with the same bounds, says of what it covers.
use Rattle.rpki_chain_core.proofs.Chains.{element_at}
use Rattle.rpki_chain_core.proofs.Common.{List, [], ap, arith, get_or, get_or-map, length-map, length, map, sym, take}
use Rattle.rpki_chain_core.proofs.Common.{ℕ, ◌++◌, ◌+◌, ◌<◌, ◌↔◌, ◌∙◌, ◌∷◌, ◌≡◌, map-append, take_more}
use Rattle.rpki_chain_core.proofs.Common.{Contains-permutation, IsPermutation-sym, IsPermutation, Covers}

-- a loop's step: what was mapped and what was passed grow by one
pub map_push_taken : {B C : Type 0} (f : B → ℕ × ℕ) (g : C → ℕ × ℕ) (xs : List B) (ys : List C) (i : ℕ) (x : B) (y : C)
    → i < length ys → y ≡ get_or ys i y → f x ≡ g y → map f xs ≡ map g (take i ys)
    → map f (xs ++ x ∷ []) ≡ map g (take (i + 1) ys)
map_push_taken f g xs ys i x y lt is same before =
    let more = take_more ys i y lt in
    let mapped = map-append f xs (x ∷ []) in
    let passed = map-append g (take i ys) (y ∷ []) in
    cc

-- lists with the same bounds have them at each place
pub map_at : {B C : Type 0} (f : B → ℕ × ℕ) (g : C → ℕ × ℕ) (xs : List B) (ys : List C) (i : ℕ) (x : B) (y : C)
    → i < length xs → i < length ys → x ≡ get_or xs i x → y ≡ get_or ys i y → map f xs ≡ map g ys → f x ≡ g y
map_at f g xs ys i x y lt below at there e =
    let one = get_or-map f xs i x (f x) lt in
    let other = get_or-map g ys i y (f x) below in
    cc

-- so they cover the same numbers
pub Covers-map : {B C : Type 0} (f : B → ℕ × ℕ) (g : C → ℕ × ℕ) (xs : List B) (ys : List C) (n : ℕ)
    → map f xs ≡ map g ys → Covers f xs n → Covers g ys n
Covers-map f g xs ys n e (k, x, lt, is, w) =
    let long : length xs ≡ length ys = sym (length-map xs f) ∙ ap length e ∙ length-map ys g in
    let there = element_at ys k (omega arith) in
    let same = map_at f g xs ys k x there.0 lt (omega arith) (sym is) there.1 e in
    (k, there.0, omega arith, sym there.1, rw same at w)

pub same_cover : {B C : Type 0} (f : B → ℕ × ℕ) (g : C → ℕ × ℕ) (xs : List B) (ys : List C) → map f xs ≡ map g ys
    → (n : ℕ) → Covers f xs n ↔ Covers g ys n
same_cover f g xs ys e n = (Covers-map f g xs ys n e, Covers-map g f ys xs n (sym e))

-- a list in another order covers the same numbers
moved : {B : Type 0} (f : B → ℕ × ℕ) (xs ys : List B) (n : ℕ) → IsPermutation xs ys → Covers f xs n → Covers f ys n
moved f xs ys n p (k, x, lt, is, w) =
    let there = Contains-permutation xs ys x p (k, lt, is) in
    (there.0, x, there.1, there.2, w)

pub Covers-permutation : {B : Type 0} (f : B → ℕ × ℕ) (xs ys : List B) (n : ℕ) → IsPermutation xs ys
    → Covers f xs n ↔ Covers f ys n
Covers-permutation f xs ys n p = (moved f xs ys n p, moved f ys xs n (IsPermutation-sym xs ys p))
