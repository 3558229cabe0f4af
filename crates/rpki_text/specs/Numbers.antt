-- Decimal texts of numbers up to a limit, as Rust's std reads them, and the faults of any other text.
use Rattle.std.specs.Prelude.{◌≡◌, ℕ, ◌+◌, ◌-◌, ◌<◌, ◌≤◌, ◌≢◌, List, [], ◌∷◌, ◌++◌, ◌⊎◌, length, take, drop}
use Rattle.std.specs.Prelude.{slice_index, codes}
use Rattle.std.specs.Char.{digit_value}
use Rattle.std.specs.Str.Parse.{AllDigits, IsNumeral, digits_value, without_leading_plus}
use Rattle.rpki_text.specs.declared.number.ParseIntError.{ParseIntError}
use Rattle.rpki_text.specs.declared.number.ParseIntError.TheVariants.{Empty, InvalidDigit, PosOverflow}

-- The text is an optional plus and then one or more ASCII digits, which write n. The number n is at most the limit.
pub record IsNumberText (limit : ℕ) (text : List ℕ) (n : ℕ) : Type 0 where
  pub digits : IsNumeral 10 (without_leading_plus text)
  pub value : digits_value 10 (without_leading_plus text) ≡ n
  pub within : n ≤ limit

-- the bytes begin with digits that write a number above the limit
pub record PassesLimit (limit : ℕ) (digits : List ℕ) : Type 0 where
  pub front : List ℕ
  pub rest : List ℕ
  pub split : digits ≡ front ++ rest
  pub all_digits : AllDigits 10 front
  pub above : limit < digits_value 10 front

-- the text is not empty and writes no number, and its digits do not exceed the limit
pub record HasInvalidDigit (limit : ℕ) (text : List ℕ) : Type 0 where
  pub some_text : text ≢ []
  pub no_number : (n : ℕ) → ¬ IsNumberText limit text n
  pub not_above : ¬ PassesLimit limit (without_leading_plus text)

-- this is the first fault of the text, from left to right
abbrev pub HasNumberFault : ℕ → List ℕ → ParseIntError → Type 0
HasNumberFault limit text Empty = text ≡ []
HasNumberFault limit text InvalidDigit = HasInvalidDigit limit text
HasNumberFault limit text PosOverflow = PassesLimit limit (without_leading_plus text)

-- the printed text of a fault: the words of Rust's std
abbrev pub number_fault_text : ParseIntError → List ℕ
number_fault_text Empty = codes "cannot parse integer from empty string"
number_fault_text InvalidDigit = codes "invalid digit found in string"
number_fault_text PosOverflow = codes "number too large to fit in target type"

-- the digits, which may be empty, write n, which is at most the limit
pub record IsValueUpTo (limit : ℕ) (digits : List ℕ) (n : ℕ) : Type 0 where
  pub all_digits : AllDigits 10 digits
  pub value : digits_value 10 digits ≡ n
  pub within : n ≤ limit

-- another byte follows digits that write at most the limit
pub record StopsBelow (limit : ℕ) (bytes : List ℕ) : Type 0 where
  pub front : List ℕ
  pub byte : ℕ
  pub rest : List ℕ
  pub split : bytes ≡ front ++ byte ∷ rest
  pub value : IsValueUpTo limit front (digits_value 10 front)
  pub not_digit : 10 ≤ digit_value byte

-- this is the first fault of the bytes after an optional plus
abbrev pub DigitsFail : ℕ → List ℕ → ParseIntError → Type 0
DigitsFail limit bytes Empty = ⊥
DigitsFail limit bytes InvalidDigit = StopsBelow limit bytes
DigitsFail limit bytes PosOverflow = PassesLimit limit bytes

-- the bytes from start to end are at most ten digits, which write n
pub record AreDigitsBetween (start end : ℕ) (text : List ℕ) (n : ℕ) : Type 0 where
  pub in_order : start ≤ end
  pub within : end ≤ length text
  pub few : end ≤ start + 10
  pub all_digits : AllDigits 10 (take (end - start) (drop start text))
  pub value : digits_value 10 (take (end - start) (drop start text)) ≡ n

-- at end no further digit is read: the text ends there, ten digits were read, or the byte there is no digit
abbrev pub NoDigitIsLeft : ℕ → ℕ → List ℕ → Type 0
NoDigitIsLeft start end text = (end ≡ length text) ⊎ ((end ≡ start + 10) ⊎ (10 ≤ digit_value (slice_index text end)))

-- the digits from start on, all of them or the first ten, write n, and end is the index after them
pub record AreDigitsFrom (start end : ℕ) (text : List ℕ) (n : ℕ) : Type 0 where
  pub digits : AreDigitsBetween start end text n
  pub none_left : NoDigitIsLeft start end text
