-- How often the blocks of a chain were read: once each by a walk, and by a search that halves once for each binary
-- digit.
use Rattle.rpki_chain_core.proofs.Common.{List, Option, add-one, arith, if◌then◌else◌, is_some, length, ℕ, ◌*◌, ◌+◌}
use Rattle.rpki_chain_core.proofs.Common.{◌-◌, ◌<◌, ◌^◌, ◌∙◌, ◌≡◌, ◌≤◌, mul-le, mul-le-mul_right, pow-le-pow_right}
use Rattle.rpki_chain_core.proofs.Common.{two-pow-succ, cases_lt, HoldsBlock}

-- a reader of `xs` is at i: its blocks are still these, and those behind i are left to be read
pub record IsReader {B : Type 0} (xs now : List B) (i count most : ℕ) : Type 0 where
  pub kept : now ≡ xs
  pub reads : count + (length xs - (i + 1)) ≤ most

module _ {B I : Type 0} (f : B → ℕ × ℕ) (number : I → ℕ) (last : ℕ) where
  -- it has read the next block
  pub reader_next : (xs now new : List B) (i : ℕ) (block : Option (I × I)) (count more most : ℕ)
      → IsReader xs now i count most → HoldsBlock f number last now (i + 1) block → new ≡ now
      → more ≡ count + (if is_some block then 1 else 0)
      → IsReader xs new (i + 1) more most × HoldsBlock f number last xs (i + 1) block
  reader_next xs now new i block count more most reader at kept is =
      let here : HoldsBlock f number last xs (i + 1) block = rw reader.kept at at in
      (record { kept = kept ∙ reader.kept; reads = grind (arith) }, here)

-- each read halved what is searched, and so took one digit off
abbrev pub Halved : ℕ → ℕ → ℕ → ℕ → Type 0
Halved len size old count =
    (old ≤ count) × ((digits : ℕ) → len < 2 ^ digits
    → (count ≤ old + digits) × (size * 2 ^ (count - old) < 2 ^ digits))

-- a number that is left is one digit at least
digit_left : (size steps digits : ℕ) → 0 < size → size * 2 ^ steps < 2 ^ digits → steps < digits
digit_left size steps digits some less = grind (arith, cases_lt, mul-le, mul-le-mul_right, pow-le-pow_right)

half_left : (size next steps digits : ℕ) → 2 * next ≤ size → size * 2 ^ steps < 2 ^ digits
    → next * 2 ^ (steps + 1) < 2 ^ digits
half_left size next steps digits half less =
    let whole = mul-le-mul_right (2 ^ steps) half in
    rw (add-one, two-pow-succ) (omega arith)

pub Halved-step : (len size next old count new : ℕ) → Halved len size old count → 0 < size → 2 * next ≤ size
    → new ≡ count + 1 → Halved len next old new
Halved-step len size next old count new (grows, before) some half is =
    let steps : new - old ≡ (count - old) + 1 = omega arith in (
      omega arith,
      λ digits fits. (
        omega (arith, digit_left size (count - old) digits some (before digits fits).1),
        rw steps (half_left size next (count - old) digits half (before digits fits).1),
      ),
    )

-- one block more is sought
pub searched_within : (i len digits old count new : ℕ) → i < len → count ≤ old + i * digits → new ≤ count + digits
    → new ≤ old + len * digits
searched_within i len digits old count new lt before more =
    omega (arith, mul-le-mul_right {m = i + 1} {n = len} digits (omega arith))
