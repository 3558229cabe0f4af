-- Texts of AS numbers at an index of a text.
use Rattle.std.specs.Prelude.{◌≡◌, ℕ, ◌+◌, ◌-◌, ◌^◌, ◌<◌, ◌≤◌, ◌⊎◌, List, length, take, drop, slice_index}
use Rattle.std.specs.Int.{IsInRange}
use Rattle.std.specs.List.{AllByRecursion}
use Rattle.rpki_text.specs.Numbers.{AreDigitsFrom}
use Rattle.rpki_base.specs.AsnText.{IsAsnText}

-- `as` is at index start, in any case of letters
pub record HasLettersAt (start : ℕ) (text : List ℕ) : Type 0 where
  pub within : start + 2 ≤ length text
  pub first : (slice_index text start ≡ 65) ⊎ (slice_index text start ≡ 97)
  pub second : (slice_index text (start + 1) ≡ 83) ⊎ (slice_index text (start + 1) ≡ 115)

-- after is the index after `as` if `as` is at start, and start otherwise
abbrev pub IsAfterLetters : ℕ → ℕ → List ℕ → Type 0
IsAfterLetters start after text =
    ((after ≡ start) × (¬ HasLettersAt start text)) ⊎ ((after ≡ start + 2) × HasLettersAt start text)

-- An AS number of the usual form is at start: an optional `as`, in any case of letters, and then one to ten digits. No
-- digit follows them, or they are ten. They write n, and end is the index after them.
pub record IsAsnAt (start end : ℕ) (text : List ℕ) (n : ℕ) : Type 0 where
  pub after : ℕ
  pub letters : IsAfterLetters start after text
  pub digits : AreDigitsFrom after end text n
  pub some : after < end
  pub fits : n < 2 ^ 32

-- the bytes from start to end write n, with only letters and digits
pub record IsAsnBetween (start end : ℕ) (text : List ℕ) (n : ℕ) : Type 0 where
  pub in_order : start < end
  pub within : end ≤ length text
  pub number : IsAsnText (take (end - start) (drop start text)) n
  pub bytes : AllByRecursion (IsInRange 48 122) (take (end - start) (drop start text))
