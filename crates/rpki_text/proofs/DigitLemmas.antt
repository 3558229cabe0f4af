-- On numbers as digits.
use Rattle.rpki_text.proofs.Common.{List, [], add-one, arith, get_or, length, length-append, refl, suc, zero, ℕ, ◌%◌}
use Rattle.rpki_text.proofs.Common.{◌*◌, ◌++◌, ◌+◌, ◌/◌, ◌<◌, ◌^◌, ◌∷◌, ◌≡◌, ◌≤◌, div-add-mod, mul_comm}
use Rattle.rpki_text.proofs.Common.{pow-le-pow_right, pow-suc, pow-succ', pow-zero, number_push, AllByRecursion}
use Rattle.std.specs.Int.Digits.{number_from_digits}
use Rattle.std.proofs.lemmas.Nat.{div_below, mod_below, mul-add-lt}
use Rattle.rpki_text.specs.Digits.{last_digits}

module _ (base : ℕ) (some : 0 < base) where
  -- a number below base ^ k is that of its last k digits
  pub number-last_digits : (k n : ℕ) → n < base ^ k → number_from_digits base (last_digits base k n) ≡ n
  number-last_digits zero n below = omega (arith, below, pow-zero base)
  number-last_digits (suc k) n below =
      let rest = number-last_digits k (n / base) (div_below n base (base ^ k) some (rw pow-suc at below)) in
      grind (arith, number_push, rest, mul_comm, div-add-mod)

  pub length-last_digits : (k n : ℕ) → length (last_digits base k n) ≡ k
  length-last_digits zero n = refl
  length-last_digits (suc k) n = grind (arith, length-append, length-last_digits k)

  below_push : (xs : List ℕ) (d : ℕ) → AllByRecursion (λ x. x < base) xs → d < base
      → AllByRecursion (λ x. x < base) (xs ++ d ∷ [])
  below_push [] d h l = (l, tt)
  below_push (x ∷ xs) d h l = (h.0, below_push xs d h.1 l)

  pub last_digits_below : (k n : ℕ) → AllByRecursion (λ x. x < base) (last_digits base k n)
  last_digits_below zero n = tt
  last_digits_below (suc k) n =
      below_push (last_digits base k (n / base)) (n % base) (last_digits_below k (n / base)) (mod_below n base some)

  pub each_below : (xs : List ℕ) → AllByRecursion (λ x. x < base) xs → (k : ℕ) → get_or xs k 0 < base
  each_below [] h k = some
  each_below (x ∷ xs) h k = grind (arith, each_below xs h.1)

  pub last_digit_below : (k n i : ℕ) → get_or (last_digits base k n) i 0 < base
  last_digit_below k n i = each_below (last_digits base k n) (last_digits_below k n) i

  -- one digit more keeps the number below the next power
  pub next_below : (i v d : ℕ) → v < base ^ i → d < base → v * base + d < base ^ (i + 1)
  next_below i v d h l = rw (add-one, pow-succ' base i) (mul-add-lt v base d (base ^ i) h l)

  pub below_power : (i k v d : ℕ) → i < k → v < base ^ i → d < base → v * base + d < base ^ k
  below_power i k v d less h l =
      let up : base ^ (i + 1) ≤ base ^ k = pow-le-pow_right some (omega arith) in
      omega (arith, next_below i v d h l, up)
