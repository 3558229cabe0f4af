-- Multiples, and the greatest power of 2 of which a number is one.
use Rattle.rpki_cover.proofs.Common.{arith, inl, inr, refl, suc, zero, ℕ, ◌%◌, ◌*◌, ◌+◌, ◌-◌, ◌/◌, ◌<◌, ◌^◌, ◌≡◌, ◌≤◌}
use Rattle.rpki_cover.proofs.Common.{mul-le-mul_right, mul-mod_left, mul-sub, two-pow-succ, cases_lt, pow-add}
use Rattle.rpki_cover.proofs.Common.{shr_split, count_trailing_zeros}
use lib.Count.{under}

-- a is a multiple of s
pub record IsMultiple (s a : ℕ) : Type 0 where
  pub times : ℕ
  pub is : a ≡ times * s

-- s is one of itself
pub multiple_self : (s : ℕ) → IsMultiple s s
multiple_self s = record { times = 1; is = omega arith }

-- the sum of two
pub multiple_sum : (s a b : ℕ) → IsMultiple s a → IsMultiple s b → IsMultiple s (a + b)
multiple_sum s a b m n = record { times = m.times + n.times; is = omega arith }

-- the difference of two
pub multiple_diff : (s a b : ℕ) → IsMultiple s a → IsMultiple s b → IsMultiple s (b - a)
multiple_diff s a b m n = record { times = n.times - m.times; is = omega (arith, mul-sub s n.times m.times) }

-- one that is greater than another is greater by s at least
pub multiple_gap : (s a b : ℕ) → IsMultiple s a → IsMultiple s b → a < b → a + s ≤ b
multiple_gap s a b m n h = elim (cases_lt m.times n.times) [
  | inl l ↦ (let k : (m.times + 1) * s ≤ n.times * s = mul-le-mul_right s (omega arith) in omega arith)
  | inr g ↦ (let k : n.times * s ≤ m.times * s = mul-le-mul_right s g in absurd (omega arith))
]

-- so is 0
pub multiple_zero : (s : ℕ) → IsMultiple s 0
multiple_zero s = record { times = 0; is = omega arith }

-- one that isn't 0 is at least s
pub multiple_least : (s a : ℕ) → IsMultiple s (a + 1) → s ≤ a + 1
multiple_least s a m = omega (arith, multiple_gap s 0 (a + 1) (multiple_zero s) m (omega arith))

-- a multiple of a power of 2 is one of each smaller power
pub multiple_smaller : (j k a : ℕ) → j ≤ k → IsMultiple (2 ^ k) a → IsMultiple (2 ^ j) a
multiple_smaller j k a h m = record { times = m.times * 2 ^ (k - j); is = grind (arith, pow-add 2 (k - j) j) }

-- nothing is left of one behind the division
pub multiple_mod : (s a : ℕ) → 0 < s → IsMultiple s a → a % s ≡ 0
multiple_mod s a pos m = rw m.is (mul-mod_left m.times s)

-- where nothing is left, it is one
pub mod_multiple : (j a : ℕ) → a % 2 ^ j ≡ 0 → IsMultiple (2 ^ j) a
mod_multiple j a z = record { times = a / 2 ^ j; is = omega (arith, shr_split a j, z) }

-- ---- zeros at the end of a number

-- one digit more
under_divides : (n t d : ℕ) → n % 2 ≡ d → IsMultiple (2 ^ t) (n / 2) → IsMultiple (2 ^ under d t) n
under_divides n t zero z m = record { times = m.times; is = rw (two-pow-succ t) (omega (arith, z)) }
under_divides n t (suc d) z m = record { times = n; is = omega arith }

-- a number is a multiple of the power of 2 that its zeros at the end are
pub zeros_divide : (w n : ℕ) → IsMultiple (2 ^ count_trailing_zeros w n) n
unfolding count_trailing_zeros
zeros_divide zero n = record { times = n; is = omega arith }
zeros_divide (suc w) n = under_divides n (count_trailing_zeros w (n / 2)) (n % 2) refl (zeros_divide w (n / 2))

-- one digit more leaves it the greatest
under_greatest : (n t d j : ℕ) → n % 2 ≡ d → ((i : ℕ) → suc i ≡ j → IsMultiple (2 ^ i) (n / 2) → i ≤ t)
    → IsMultiple (2 ^ j) n → j ≤ under d t
under_greatest n t d zero z f m = omega arith
under_greatest n t zero (suc i) even f m =
    let half = f i refl (record { times = m.times; is = omega (arith, rw two-pow-succ at m.is) }) in omega arith
under_greatest n t (suc d) (suc i) odd f m = absurd (omega (arith, rw two-pow-succ at m.is))

-- and of no greater power of 2 up to 2 ^ w
pub zeros_greatest : (w n j : ℕ) → j ≤ w → IsMultiple (2 ^ j) n → j ≤ count_trailing_zeros w n
unfolding count_trailing_zeros
zeros_greatest zero n j h m = h
zeros_greatest (suc w) n j h m =
    under_greatest n (count_trailing_zeros w (n / 2)) (n % 2) j refl
    (λ i e k. zeros_greatest w (n / 2) i (omega arith) k) m
