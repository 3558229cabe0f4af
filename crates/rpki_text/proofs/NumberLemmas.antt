-- Number texts: each has one value or one fault, and a scan from the left finds it.
use Rattle.rpki_text.proofs.Common.{Err, append-nil, length-append, map-append, List, MatchResult, Result, [], ap}
use Rattle.rpki_text.proofs.Common.{arith, drop, get_or, length, length-drop, refl, sym, take, ℕ, ◌*◌, ◌++◌, ◌+◌, ◌-◌}
use Rattle.rpki_text.proofs.Common.{◌<◌, ◌^◌, ◌∙◌, ◌∷◌, ◌≡◌, ◌≢◌, ◌≤◌, ◌⊎◌, pow-le-pow_right, cases_lt, digits_value-lt}
use Rattle.rpki_text.proofs.Common.{digits_value_more, get_or-drop, length-take, take-append-drop, digit_value_digit}
use Rattle.rpki_text.proofs.Common.{digit_from_value, digit_value, IsInRange, AllDigits, digits_value}
use Rattle.rpki_text.proofs.Common.{without_leading_plus, AreDigitsBetween, DigitsFail, HasNumberFault, IsNumberText}
use Rattle.rpki_text.proofs.Common.{IsValueUpTo, PassesLimit, StopsBelow, Answers}
use Rattle.std.proofs.lemmas.Int.Digits.{digits_more, digits_value_is, number_after_append, number_after_ge}
use Rattle.std.proofs.lemmas.List.{nil_from_length}
use Rattle.rpki_text.specs.declared.number.ParseIntError.{ParseIntError}
use Rattle.rpki_text.specs.declared.number.ParseIntError.TheVariants.{Empty, InvalidDigit}
use Rattle.rpki_text.proofs.TextListLemmas.{parts_at}

-- a beginning of digits writes no more than all of them
value_front : (xs ys : List ℕ) → digits_value 10 xs ≤ digits_value 10 (xs ++ ys)
value_front xs ys = grind (arith, digits_value_is, map-append, number_after_append, number_after_ge)

-- digits at the front of a text stand before its first other byte
front_within : (xs ys zs ws : List ℕ) (c : ℕ) → AllDigits 10 xs → 10 ≤ digit_value c → xs ++ ys ≡ zs ++ c ∷ ws
    → (more : List ℕ) × (zs ≡ xs ++ more)
front_within [] ys zs ws c h l e = (zs, refl)
front_within (x ∷ xs) ys [] ws c h l e = grind (arith)
front_within (x ∷ xs) ys (z ∷ zs) ws c h l e = grind (arith, front_within xs ys zs ws c h.1 l)

-- digits that stop at or below the limit have no beginning above it
StopsBelow-not_above : (limit : ℕ) (ds : List ℕ) → StopsBelow limit ds → PassesLimit limit ds → ⊥
StopsBelow-not_above limit ds s p =
    let both = sym p.split ∙ s.split in
    grind (arith, value_front, front_within p.front p.rest s.front s.rest s.byte p.all_digits s.not_digit both)

-- nor are all bytes digits then
pub StopsBelow-no_numeral : (limit : ℕ) (ds : List ℕ) → StopsBelow limit ds → AllDigits 10 ds → ⊥
StopsBelow-no_numeral limit ds s h =
    let (more, within) = front_within ds [] s.front s.rest s.byte h s.not_digit (append-nil ds ∙ s.split) in
    let long = length-append s.front (s.byte ∷ s.rest) in
    omega (arith, ap length s.split, ap length within, length-append ds more, long)

-- a number text has no beginning above its limit
IsNumberText-not_above : (limit n : ℕ) (text : List ℕ) → IsNumberText limit text n
    → PassesLimit limit (without_leading_plus text) → ⊥
IsNumberText-not_above limit n text h p = grind (arith, value_front)

-- no digits pass no limit
none_above : (limit : ℕ) (ds : List ℕ) → ds ≡ [] → PassesLimit limit ds → ⊥
none_above limit ds e p = grind (arith, value_front p.front p.rest)

-- no text has both a value and a fault, nor two of them: a right answer is the only one
pub number_answers : (limit : ℕ) (text : List ℕ) (r : Result ℕ ParseIntError)
    → MatchResult r (IsNumberText limit text) (HasNumberFault limit text)
    → Answers (IsNumberText limit text) (HasNumberFault limit text) r
number_answers limit text r found = grind (arith, IsNumberText-not_above, none_above)

-- so it is: no text, a plus alone, or what the digits behind it give
pub no_text : (limit : ℕ) (text : List ℕ) → length text ≡ 0
    → Answers (IsNumberText limit text) (HasNumberFault limit text) (Err Empty)
no_text limit text none = number_answers limit text (Err Empty) (nil_from_length text none)

pub plus_alone : (limit : ℕ) (text : List ℕ) → length text ≢ 0 → length (without_leading_plus text) ≡ 0
    → Answers (IsNumberText limit text) (HasNumberFault limit text) (Err InvalidDigit)
plus_alone limit text some none =
    let nothing = nil_from_length _ none in
    number_answers limit text (Err InvalidDigit) (grind (arith, nothing, none_above limit (without_leading_plus text)))

pub from_digits : (limit : ℕ) (text : List ℕ) (r : Result ℕ ParseIntError) → length text ≢ 0
    → length (without_leading_plus text) ≢ 0
    → MatchResult r (IsValueUpTo limit (without_leading_plus text)) (DigitsFail limit (without_leading_plus text))
    → Answers (IsNumberText limit text) (HasNumberFault limit text) r
from_digits limit text r some more found =
    let some_text : text ≢ [] = λ e. some (ap length e) in
    number_answers limit text r (grind (arith, StopsBelow-no_numeral, StopsBelow-not_above))

-- a byte outside `0` to `9` has no digit's value
pub value_of_other : (b : ℕ) → (b < 48) ⊎ (57 < b) → 10 ≤ digit_value b
value_of_other b other = grind (arith, cases_lt, digit_from_value)

-- so digits that write at most the limit stop before it
pub stops_at : (limit value : ℕ) (ds : List ℕ) (i : ℕ) → i < length ds → (get_or ds i 0 < 48) ⊎ (57 < get_or ds i 0)
    → IsValueUpTo limit (take i ds) value → StopsBelow limit ds
stops_at limit value ds i here other sofar = record {
  front = take i ds;
  byte = get_or ds i 0;
  rest = drop (i + 1) ds;
  split = parts_at ds i 0 here;
  value = record { all_digits = sofar.all_digits; value = refl; within = omega (arith, sofar.value, sofar.within) };
  not_digit = value_of_other (get_or ds i 0) other;
}

-- one more digit, which stands for n, behind digits of that value
module _ (limit value n : ℕ) (ds : List ℕ) (i : ℕ) (here : i < length ds) (digit : IsInRange 48 57 (get_or ds i 0))
    (is : n ≡ get_or ds i 0 - 48) (sofar : IsValueUpTo limit (take i ds) value) where
  -- they are digits with it, and write this
  one_more : AllDigits 10 (take (i + 1) ds) × (digits_value 10 (take (i + 1) ds) ≡ value * 10 + n)
  one_more = grind (arith, digit_value_digit, digits_more, digits_value_more)

  -- where that is within the limit
  pub value_more : value * 10 + n ≤ limit → IsValueUpTo limit (take (i + 1) ds) (value * 10 + n)
  value_more fits = record { all_digits = one_more.0; value = one_more.1; within = fits }

  -- and where it isn't
  pub value_passes : limit < value * 10 + n → PassesLimit limit ds
  value_passes above = grind (arith, one_more, take-append-drop (i + 1) ds)

-- fewer than ten digits write a number below 10 ^ 9
pub few_below : (start end : ℕ) (text : List ℕ) (n : ℕ) → AreDigitsBetween start end text n → end - start < 10
    → n < 10 ^ 9
few_below start end text n h few =
    let digits = take (end - start) (drop start text) in
    let short : length digits ≤ 9 = omega (arith, length-take (end - start) (drop start text)) in
    let up : 10 ^ length digits ≤ 10 ^ 9 = pow-le-pow_right (omega arith) short in
    omega (arith, digits_value-lt 10 digits h.all_digits, up, h.value)

-- one digit more, which stands for n
pub digit_more : (start end : ℕ) (text : List ℕ) (value n : ℕ) → AreDigitsBetween start end text value
    → end < length text → end - start < 10 → IsInRange 48 57 (get_or text end 0) → n ≡ get_or text end 0 - 48
    → AreDigitsBetween start (end + 1) text (value * 10 + n)
digit_more start end text value n h here few digit is =
    let count : end + 1 - start ≡ end - start + 1 = omega (arith, h.in_order) in
    grind (arith, count, get_or-drop, length-drop, digit_value_digit, digits_more, digits_value_more)
