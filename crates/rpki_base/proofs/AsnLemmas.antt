-- Texts of AS numbers: each writes one at most, and what is printed is read back.
use Rattle.rpki_base.proofs.Common.{Err, List, Ok, [], ap, arith, codes, decimal, inl, inr, length, lit≤, refl, subst}
use Rattle.rpki_base.proofs.Common.{suc, sym, take, ℕ, ◌++◌, ◌-◌, ◌<◌, ◌^◌, ◌∙◌, ◌∷◌, ◌≡◌, ◌≤◌, take-append_seam}
use Rattle.rpki_base.proofs.Common.{decimal_is_IsNumeral, digit_from_value, IsInRange, AllByRecursion}
use Rattle.rpki_base.proofs.Common.{str_to_ascii_lowercase, AllDigits, IsNumberText, IsAfterAs, IsAsAnd, IsAsnText}
use Rattle.rpki_base.proofs.Common.{ReadsAsn, asn_text}
use Rattle.std.proofs.Common.{length-append}
use Rattle.std.specs.Char.{to_ascii_lowercase}
use Rattle.rpki_base.specs.declared.asn.ParseAsnError.{ParseAsnError}
use Rattle.rpki_text.proofs.CutLemmas.{same_rest}
use Rattle.rpki_text.proofs.NumberTexts.{IsNumberText-one, IsNumberText-decimal}

-- lower case keeps the length
length_lower : (letters : List ℕ) → length (str_to_ascii_lowercase letters) ≡ length letters
length_lower [] = refl
length_lower (x ∷ xs) = ap suc (length_lower xs)

-- `as` is two bytes
IsAsAnd-length : {text rest : List ℕ} (h : IsAsAnd text rest) → length h.letters ≡ 2
IsAsAnd-length h = grind (arith, length_lower)

-- what follows it is one text
pub IsAsAnd-rest : (text rest other : List ℕ) → IsAsAnd text rest → IsAsAnd text other → rest ≡ other
IsAsAnd-rest text rest other h k =
    grind (arith, same_rest h.letters k.letters rest other, IsAsAnd-length h, IsAsAnd-length k)

-- no number text begins with `a` in either case
first_of_number : (b : ℕ) (more : List ℕ) (n : ℕ) → IsNumberText (2 ^ 32 - 1) (b ∷ more) n → to_ascii_lowercase b ≡ 97
    → ⊥
first_of_number b more n h letter = grind arith

-- `as` begins with it
as_letters_first : (letters rest : List ℕ) → str_to_ascii_lowercase letters ≡ codes "as"
    → (b : ℕ) × (more : List ℕ) × (letters ++ rest ≡ b ∷ more) × (to_ascii_lowercase b ≡ 97)
as_letters_first [] rest e = absurd (omega (arith, ap length e))
as_letters_first (b ∷ letters) rest e = (b, letters ++ rest, refl, cc)

-- so a text that begins with `as` is no number text
IsAsAnd-no_number : (text rest : List ℕ) (n : ℕ) → IsAsAnd text rest → IsNumberText (2 ^ 32 - 1) text n → ⊥
IsAsAnd-no_number text rest n h k =
    let (b, more, split, letter) = as_letters_first h.letters rest h.lower in
    grind (arith, first_of_number)

-- what follows the optional `as` is one text
IsAfterAs-one : (text rest other : List ℕ) → IsAfterAs text rest → IsAfterAs text other → rest ≡ other
IsAfterAs-one text rest other (inl h) (inl k) = IsAsAnd-rest text rest other h k
IsAfterAs-one text rest other (inl h) (inr k) = absurd (k.1 rest h)
IsAfterAs-one text rest other (inr h) (inl k) = absurd (h.1 other k)
IsAfterAs-one text rest other (inr h) (inr k) = h.0 ∙ sym k.0

-- and the digits of an AS number text are what follows it
digits_after : (text : List ℕ) (n : ℕ) (k : IsAsnText text n) → IsAfterAs text k.digits
digits_after text n k = elim k.prefix [
  | inl none ↦
      let whole : k.digits ≡ text = sym (k.split ∙ ap (λ l. l ++ k.digits) none) in
      let number = subst (λ t. IsNumberText (2 ^ 32 - 1) t n) whole k.number in
      inr (whole, λ other h. IsAsAnd-no_number text other n h number)
  | inr lower ↦ inl (record { letters = k.letters; split = k.split; lower = lower })
]

-- so its number stands there
from_text : (text rest : List ℕ) (n : ℕ) → IsAfterAs text rest → IsAsnText text n → IsNumberText (2 ^ 32 - 1) rest n
from_text text rest n after k = grind (arith, digits_after text n k, IsAfterAs-one text k.digits rest)

-- what is printed of an AS number writes it
pub IsAsnText-asn_text : (n : ℕ) → n < 2 ^ 32 → IsAsnText (asn_text n) n
IsAsnText-asn_text n small = record {
  letters = codes "AS";
  digits = decimal n;
  split = refl;
  prefix = inr refl;
  number = IsNumberText-decimal (2 ^ 32 - 1) n (omega arith) (omega arith);
}

-- where no number stands behind the optional `as`, the fault is the answer
pub reads_err : (text rest : List ℕ) (e : ParseAsnError) → IsAfterAs text rest
    → ((n : ℕ) → ¬ IsNumberText (2 ^ 32 - 1) rest n) → ReadsAsn text (Err e)
reads_err text rest e after none =
    let no_text : (n : ℕ) → ¬ IsAsnText text n = λ n k. none n (from_text text rest n after k) in
    record {
      exact = record {
        found = no_text;
        each_value = λ m k. absurd (no_text m k);
        each_fault = λ d _. refl;
      };
      reads_back = λ m small is. absurd (no_text m (rw is (IsAsnText-asn_text m small)));
    }

-- a text of fewer than two bytes doesn't begin with `as`
pub too_short : (text : List ℕ) → length text < 2 → IsAfterAs text text
too_short text short = inr (refl, λ other h. grind (arith, IsAsAnd-length h, length-append))

-- nor does one whose first two bytes are others
pub no_letters : (text : List ℕ) → ¬ (str_to_ascii_lowercase (take 2 text) ≡ codes "as") → IsAfterAs text text
no_letters text other_letters = inr (
  refl,
  λ other h.
      let front = take-append_seam h.letters other in
      other_letters (rw (h.split, ← IsAsAnd-length h, front) h.lower),
)

-- a text writes at most one AS number
pub IsAsnText-one : (text : List ℕ) (m n : ℕ) → IsAsnText text m → IsAsnText text n → m ≡ n
IsAsnText-one text m n h k =
    IsNumberText-one _ h.digits m n h.number (from_text text h.digits n (digits_after text m h) k)

-- digits are among the bytes from `0` on
pub digits_are_bytes : (most : ℕ) → 57 ≤ most → (ds : List ℕ) → AllDigits 10 ds → AllByRecursion (IsInRange 48 most) ds
digits_are_bytes most enough [] h = tt
digits_are_bytes most enough (c ∷ cs) h = grind (arith, digit_from_value, digits_are_bytes most enough cs h.1)

-- and so is all that is printed of an AS number
pub asn_text_bytes : (n : ℕ) → n < 2 ^ 32 → AllByRecursion (IsInRange 48 90) (asn_text n)
asn_text_bytes n small =
    let digits = digits_are_bytes 90 (omega arith) (decimal n) (decimal_is_IsNumeral n (omega arith)).0.1 in
    ((lit≤ tt, lit≤ tt), ((lit≤ tt, lit≤ tt), digits))

-- a number that the text has is the answer
pub reads_number : (text : List ℕ) (n : ℕ) → IsAsnText text n → ReadsAsn text (Ok n)
reads_number text n h = record {
  exact = record {
    found = h;
    each_value = λ m k. ap Ok (IsAsnText-one text n m h k);
    each_fault = λ e none. absurd (none n h);
  };
  reads_back = λ m small e. ap Ok (IsAsnText-one text n m h (rw e (IsAsnText-asn_text m small)));
}

-- and so is one that stands behind the optional `as`
pub reads_ok : (text rest : List ℕ) (n : ℕ) → IsAfterAs text rest → IsNumberText (2 ^ 32 - 1) rest n
    → ReadsAsn text (Ok n)
reads_ok text rest n after h = reads_number text n (grind arith)
