-- Room for the text of an AS number, and what a buffer has after `AS` was put before digits.
use Rattle.rpki_base.proofs.Common.{List, arith, decimal, drop, length, set, ℕ, ◌-◌, ◌<◌, ◌^◌, ◌∷◌, ◌≡◌, ◌≤◌}
use Rattle.rpki_base.proofs.Common.{length-decimal-le, drop-set, length-set}

-- an AS number has ten digits at most
pub ten_digits : (n : ℕ) → n < 2 ^ 32 → length (decimal n) ≤ 10
ten_digits n small = length-decimal-le 10 n (omega arith) (omega arith) (omega arith)

-- the letters stand before what was there
pub letters_before : (bytes : List ℕ) (at : ℕ) → 2 ≤ at → at ≤ length bytes
    → drop (at - 2) (set (set bytes (at - 1) 83) (at - 2) 65) ≡ 65 ∷ 83 ∷ drop at bytes
letters_before bytes at low high =
    let below = length-set bytes (at - 1) 83 in
    let outer = drop-set (set bytes (at - 1) 83) (at - 2) 65 (omega (arith, low, high, below)) in
    let inner = drop-set bytes (at - 1) 83 (omega (arith, low, high)) in
    grind arith
