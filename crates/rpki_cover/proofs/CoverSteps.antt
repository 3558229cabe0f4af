-- The walk that finds a cover list, step by step.
use Rattle.rpki_cover.proofs.Common.{MatchOption, Option, [], arith, refl, suc, zero, ℕ, ◌+◌, ◌-◌, ◌<◌, ◌^◌, ◌∷◌, ◌≡◌}
use Rattle.rpki_cover.proofs.Common.{◌≤◌, le-leb, lt-leb, pow_pos, cover_list, cover_list_upto, free_bits}
use Rattle.rpki_cover.proofs.Common.{free_bits_upto, left_cover}
use Rattle.rpki_cover.proofs.CoverList.{head_prefix}

-- any count that is large enough gives one list
pub cover_list_fuel : (n m w a b : ℕ) → b + 1 ≤ a + n → b + 1 ≤ a + m
    → cover_list_upto n w a b ≡ cover_list_upto m w a b
cover_list_fuel zero zero w a b h k = refl
cover_list_fuel zero (suc m) w a b h k = rw (lt-leb a b (omega arith)) refl
cover_list_fuel (suc n) zero w a b h k = rw (lt-leb a b (omega arith)) refl
cover_list_fuel (suc n) (suc m) w a b h k =
    grind (arith, le-leb, lt-leb, pow_pos, cover_list_fuel n m w (a + 2 ^ free_bits_upto w a b) b)

-- nothing is left behind the end
pub cover_list_end : (w a b : ℕ) → b < a → cover_list w a b ≡ []
unfolding cover_list
cover_list_end w a b h = cover_list_fuel (b + 1 - a) zero w a b (omega arith) (omega arith)

-- the greatest prefix from the beginning on, and what is behind it
pub cover_list_next : (w a b : ℕ) → a ≤ b
    → cover_list w a b ≡ head_prefix w a (free_bits w a b) ∷ cover_list w (a + 2 ^ free_bits w a b) b
unfolding cover_list free_bits
cover_list_next w a b h = grind (arith, cover_list_fuel, head_prefix, le-leb, pow_pos)

-- the first prefix, and the cover list of what is left behind it
pub left_next : (w a b k : ℕ) (left : Option (ℕ × ℕ)) → a ≤ b → k ≡ free_bits w a b
    → MatchOption left (b < a + 2 ^ k) (λ r. (r ≡ (a + 2 ^ k, b)) × (a + 2 ^ k ≤ b))
    → cover_list w a b ≡ head_prefix w a k ∷ left_cover w left
left_next w a b k left order is past = grind (arith, cover_list_end, cover_list_next, head_prefix)
