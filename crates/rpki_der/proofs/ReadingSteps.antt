-- Steps of reading that did not fail.
use Rattle.rpki_der.proofs.Common.{Bool, Err, List, Ok, Result, arith, cond, false, length, replicate, suc, true, zero}
use Rattle.rpki_der.proofs.Common.{ℕ, ◌&&◌, ◌++◌, ◌+◌, ◌∷◌, ◌≡◌, cases_lt, get_or-append-add, get_or_append_left}
use Rattle.rpki_der.proofs.Common.{get_or_past, IsBytes, ◌>>=◌, DerError}

-- octets behind the first
pub IsBytes-rest : (b : ℕ) (bytes : List ℕ) → IsBytes (b ∷ bytes) → IsBytes bytes
IsBytes-rest b bytes h i = h (suc i)

-- zeros are octets
pub IsBytes-zeros : (n : ℕ) (bytes : List ℕ) → IsBytes bytes → IsBytes (replicate n 0 ++ bytes)
IsBytes-zeros zero bytes h = h
IsBytes-zeros (suc n) bytes h = grind (arith, IsBytes-zeros n bytes h)

-- the octets of the parts
pub fits_front : (a b : List ℕ) → IsBytes (a ++ b) → IsBytes a
fits_front a b h i = grind (arith, cases_lt, get_or_append_left, get_or_past)

-- the second part of octets
pub fits_back : (a b : List ℕ) → IsBytes (a ++ b) → IsBytes b
fits_back a b h i = rw (← get_or-append-add a b i 0) (h (length a + i))

-- the value of a step that did not fail
pub bind_ok : {A B : Type 0} (r : Result A DerError) (f : A → Result B DerError) (y : B) → (r >>= f) ≡ Ok y
    → (x : A) × (r ≡ Ok x) × (f x ≡ Ok y)
bind_ok r f y e = grind (arith)

-- a test that did not fail
pub passed : {A : Type 0} (b : Bool) (d : DerError) (r : Result A DerError) (y : A) → cond b (Err d) r ≡ Ok y
    → (b ≡ false) × (r ≡ Ok y)
passed b d r y e = grind (arith)

-- a test that did not fail, the other way round
pub passed_true : {A : Type 0} (b : Bool) (d : DerError) (r : Result A DerError) (y : A) → cond b r (Err d) ≡ Ok y
    → (b ≡ true) × (r ≡ Ok y)
passed_true b d r y e = grind (arith)

-- an answer that is Ok
abbrev done : {A : Type 0} → A → Result A DerError
done x = Ok x

-- two that are equal are of one value
pub ok_is : {A : Type 0} (x y : A) → done x ≡ done y → x ≡ y
ok_is x y e = cc

-- one of two tests fails that don't both pass
pub one_false : (a b : Bool) → (a && b) ≡ false → a ≡ true → b ≡ false
one_false a b e p = grind (arith)

-- an answer isn't both
pub ok_or_err : {A : Type 0} (x : A) (e : DerError) (r : Result A DerError) → r ≡ Ok x → r ≡ Err e → ⊥
ok_or_err x e r p q = cc

-- a second look at what was read finds what C says
pub record IsCheck {X Y : Type 0} (Fits : X → Type 0) (C : X → Y → Type 0) (check : X → Result Y DerError)
    : Type 0 where
  pub takes : (x : X) (y : Y) → Fits x → check x ≡ Ok y → C x y
  pub again : (x : X) (y : Y) → C x y → check x ≡ Ok y
