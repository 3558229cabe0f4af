-- Texts of AS numbers.
use Rattle.std.specs.Prelude.{◌≡◌, ℕ, ◌-◌, ◌^◌, ◌<◌, ◌⊎◌, List, [], ◌++◌, Result, Ok, codes, decimal}
use Rattle.std.specs.Str.{str_to_ascii_lowercase}
use Rattle.rpki_base.specs.declared.asn.ParseAsnError.{ParseAsnError}
use Rattle.rpki_text.specs.Numbers.{IsNumberText}
use Rattle.rpki_text.specs.Reading.{Answers}

-- nothing, or `as` in any case of letters
abbrev pub IsAsLetters : List ℕ → Type 0
IsAsLetters letters = (letters ≡ []) ⊎ (str_to_ascii_lowercase letters ≡ codes "as")

-- The text is an optional `as` and then a number text of n, which is at most 4294967295 (RFC 5396, 2, asplain; RFC
-- 6793).
pub record IsAsnText (text : List ℕ) (n : ℕ) : Type 0 where
  pub letters : List ℕ
  pub digits : List ℕ
  pub split : text ≡ letters ++ digits
  pub prefix : IsAsLetters letters
  pub number : IsNumberText (2 ^ 32 - 1) digits n

-- the printed text of an AS number: `AS` and the decimal without leading zeros
abbrev pub asn_text : ℕ → List ℕ
asn_text n = codes "AS" ++ decimal n

-- The text is read as an AS number if and only if it writes one. The printed text of an AS number is read as that
-- number.
pub record ReadsAsn (text : List ℕ) (r : Result ℕ ParseAsnError) : Type 0 where
  pub exact : Answers (IsAsnText text) (λ _. (n : ℕ) → ¬ IsAsnText text n) r
  pub reads_back : (n : ℕ) → n < 2 ^ 32 → text ≡ asn_text n → r ≡ Ok n

-- the text is `as` in any case of letters, and then rest
pub record IsAsAnd (text rest : List ℕ) : Type 0 where
  pub letters : List ℕ
  pub split : text ≡ letters ++ rest
  pub lower : str_to_ascii_lowercase letters ≡ codes "as"

-- rest is the text after `as`, or the whole text if it does not begin with `as`
abbrev pub IsAfterAs : List ℕ → List ℕ → Type 0
IsAfterAs text rest = IsAsAnd text rest ⊎ ((rest ≡ text) × ((other : List ℕ) → ¬ IsAsAnd text other))
