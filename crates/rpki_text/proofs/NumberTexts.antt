-- A number text writes one number, and what is printed of a number writes it.
use Rattle.rpki_text.proofs.Common.{List, arith, decimal, sym, ℕ, ◌<◌, ◌^◌, ◌∙◌, ◌≡◌, ◌≤◌, digit_at}
use Rattle.rpki_text.proofs.Common.{without_leading_plus_none, IsNumberText}
use Rattle.std.proofs.lemmas.Fmt.{decimal_is_IsNumeral}

-- a number text writes one number
pub IsNumberText-one : (limit : ℕ) (text : List ℕ) (m n : ℕ) → IsNumberText limit text m → IsNumberText limit text n
    → m ≡ n
IsNumberText-one limit text m n h k = sym h.value ∙ k.value

-- a printed decimal is a number text of its number
pub IsNumberText-decimal : (limit n : ℕ) → n < 2 ^ 64 → n ≤ limit → IsNumberText limit (decimal n) n
IsNumberText-decimal limit n small within = grind (arith, decimal_is_IsNumeral, digit_at, without_leading_plus_none)
