-- AS numbers at a place among bytes: letters and digits behind them.
use Rattle.rpki_base.proofs.Common.{List, Ok, [], ap, arith, drop, get_or, inl, inr, length, length-drop, subst, suc}
use Rattle.rpki_base.proofs.Common.{take, ℕ, ◌+◌, ◌-◌, ◌<◌, ◌^◌, ◌∙◌, ◌∷◌, ◌≡◌, ◌≤◌, take-length, cases_lt, drop_more}
use Rattle.rpki_base.proofs.Common.{get_or-drop, get_or-take, length-take, digit_at, without_leading_plus_none}
use Rattle.rpki_base.proofs.Common.{AllDigits, digits_value, AreDigitsBetween, AreDigitsFrom, IsNumberText, IsAsnText}
use Rattle.rpki_base.proofs.Common.{ReadsAsn}
use Rattle.std.proofs.lemmas.Str.{digit_value_digit}
use Rattle.rpki_base.specs.AsnPlaces.{HasLettersAt, IsAfterLetters, IsAsnAt, IsAsnBetween}
use Rattle.rpki_base.proofs.AsnLemmas.{digits_are_bytes, reads_number}

-- digits are a number text
digits_are_number : (ds : List ℕ) (n : ℕ) → 0 < length ds → AllDigits 10 ds → digits_value 10 ds ≡ n → n < 2 ^ 32
    → IsNumberText (2 ^ 32 - 1) ds n
digits_are_number ds n some all value small = grind (arith, digit_at, without_leading_plus_none)

-- the bytes from start on, where `as` stands there
behind_letters : (start end : ℕ) (text : List ℕ) → start + 2 ≤ end → start + 2 ≤ length text
    → take (end - start) (drop start text)
    ≡ get_or text start 0 ∷ get_or text (start + 1) 0 ∷ take (end - (start + 2)) (drop (start + 2) text)
behind_letters start end text more within =
    let count : end - start ≡ suc (suc (end - (start + 2))) = omega (arith, more) in
    grind (arith, drop_more)

-- digits, which nothing or letters go before
number_between : (start end : ℕ) (text : List ℕ) (n : ℕ) → AreDigitsBetween start end text n → start < end → n < 2 ^ 32
    → IsAsnBetween start end text n
number_between start end text n h some small =
    grind (arith, digits_are_bytes, digits_are_number, length-drop, length-take)

letters_between : (start end : ℕ) (text : List ℕ) (n : ℕ) → HasLettersAt start text
    → AreDigitsBetween (start + 2) end text n → start + 2 < end → n < 2 ^ 32 → IsAsnBetween start end text n
letters_between start end text n letters h some small =
    let rest = take (end - (start + 2)) (drop (start + 2) text) in
    let more : 0 < length rest = grind (arith, length-take, length-drop) in
    let shape = behind_letters start end text h.in_order letters.within in
    let digits = digits_are_bytes 122 (omega arith) rest h.all_digits in
    record {
      in_order = omega (arith, h.in_order);
      within = h.within;
      number = record {
        letters = get_or text start 0 ∷ get_or text (start + 1) 0 ∷ [];
        digits = rest;
        split = shape;
        prefix = inr (grind arith);
        number = digits_are_number rest n more h.all_digits h.value small;
      };
      bytes = rw shape (grind arith);
    }

-- a number of the usual form is one of its text
pub asn_between : (start end : ℕ) (text : List ℕ) (n : ℕ) → IsAsnAt start end text n → IsAsnBetween start end text n
asn_between start end text n h = elim h.letters [
  | inl k ↦ number_between start end text n (rw (k.0) at h.digits.digits) (omega (arith, h.some, k.0)) h.fits
  | inr k ↦ letters_between start end text n k.1 (rw (k.0) at h.digits.digits) (omega (arith, h.some, k.0)) h.fits
]

-- where all digits were read, no others reach further
no_further : (start end other : ℕ) (text : List ℕ) (n m : ℕ) → AreDigitsFrom start end text n
    → AreDigitsFrom start other text m → end < other → ⊥
no_further start end other text n m h k further =
    let all = take (other - start) (drop start text) in
    let here : end - start < length all = grind (arith, length-take, length-drop) in
    let digit = digit_at all (end - start) k.digits.all_digits here in
    grind (arith, digit_value_digit, get_or-drop, get_or-take)

-- so they end at one place
same_end : (start end other : ℕ) (text : List ℕ) (n m : ℕ) → AreDigitsFrom start end text n
    → AreDigitsFrom start other text m → end ≡ other
same_end start end other text n m h k = grind (arith, cases_lt, no_further)

-- the letters end at one place, and the digits behind them are those of each number that stands there
pub digits_of : (start after end : ℕ) (text : List ℕ) (v : ℕ) → IsAfterLetters start after text
    → AreDigitsFrom after end text v → (n other : ℕ) → (h : IsAsnAt start other text n)
    → (v ≡ n) × (end ≡ other) × (h.after ≡ after)
digits_of start after end text v letters digits n other h =
    let place : h.after ≡ after = grind arith in
    let there = rw place at h.digits in
    let last = same_end after end other text v n digits there in
    (grind arith, last, place)

-- a number that takes the whole text is the answer
pub reads_whole : (text bytes : List ℕ) (n end : ℕ) → bytes ≡ text → IsAsnBetween 0 end bytes n → end ≡ length bytes
    → ReadsAsn text (Ok n)
reads_whole text bytes n end same h all =
    let whole : take (end - 0) bytes ≡ text = ap (λ k. take k bytes) (omega (arith, all)) ∙ take-length bytes ∙ same in
    reads_number text n (subst (λ t. IsAsnText t n) whole h.number)
