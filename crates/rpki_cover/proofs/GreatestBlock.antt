-- The greatest block of 2 ^ k numbers at the beginning of a range.
use Rattle.rpki_cover.proofs.Common.{arith, suc, zero, ℕ, ◌+◌, ◌<◌, ◌^◌, ◌≡◌, ◌≤◌, cases_order, pow_pos, free_bits_upto}
use Rattle.std.proofs.lemmas.Bool.Decides.{nat_tests}
use Rattle.rpki_cover.proofs.Multiples.{IsMultiple, multiple_mod, mod_multiple}

-- the 2 ^ k numbers from a on are a block, which ends at b or before, and no greater one up to 2 ^ w does
pub record IsGreatest (w a b k : ℕ) : Type 0 where
  pub upto : k ≤ w
  pub aligned : IsMultiple (2 ^ k) a
  pub within : a + 2 ^ k ≤ b + 1
  pub greatest : (j : ℕ) → k < j → j ≤ w → IsMultiple (2 ^ j) a → b + 1 < a + 2 ^ j

-- the definition finds it
pub free_bits_upto_is : (w a b : ℕ) → a ≤ b → IsGreatest w a b (free_bits_upto w a b)
free_bits_upto_is zero a b h =
    let aligned : IsMultiple 1 a = record { times = a; is = omega arith } in
    grind (arith, aligned)
free_bits_upto_is (suc w) a b h =
    grind (arith, nat_tests, cases_order, mod_multiple, multiple_mod, pow_pos, free_bits_upto_is w a b h)

-- there is one
pub same_greatest : (w a b j k : ℕ) → IsGreatest w a b j → IsGreatest w a b k → j ≡ k
same_greatest w a b j k m n = grind (arith, cases_order j k, m.greatest k, n.greatest j)
