-- Prefixes with an optional maximum length, as in route origin authorizations (RFC 9582, 4.3.2), and their texts.
use Rattle.std.specs.Prelude.{◌≡◌, ℕ, ◌-◌, ◌^◌, ◌≤◌, ◌<◌, ◌⊎◌, List, [], ◌∷◌, ◌++◌, codes, decimal, min, max, Option}
use Rattle.std.specs.Prelude.{Some, None, Result, Ok}
use Rattle.std.specs.declared.cmp.Ordering.{Ordering}
use Rattle.std.specs.Option.{option_cmp}
use Rattle.std.specs.Ordering.{on, then_cmp, flip_args, nat_cmp}
use Rattle.rpki_text.specs.Cuts.{HasNo, Around, dash}
use Rattle.rpki_text.specs.Numbers.{IsNumberText, HasNumberFault}
use Rattle.rpki_text.specs.Reading.{Answers}
use Rattle.rpki_prefix.specs.Order.{prefix_cmp}
use Rattle.rpki_prefix.specs.PrefixText.{IsPrefixText, HasPrefixTextFault, prefix_text}
use Rattle.rpki_prefix.specs.Values.{FamilyPrefix, IsFamilyPrefix, width}
use Rattle.rpki_prefix.specs.declared.error.MaxLenError.{MaxLenError}
use Rattle.rpki_prefix.specs.declared.error.MaxLenError.TheVariants.{Overflow, Underflow}
use Rattle.rpki_prefix.specs.declared.error.ParseMaxLenPrefixError.{ParseMaxLenPrefixError}
use Rattle.rpki_prefix.specs.declared.error.ParseMaxLenPrefixError.TheVariants.{InvalidPrefix, InvalidMaxLenFormat}
use Rattle.rpki_prefix.specs.declared.error.ParseMaxLenPrefixError.TheVariants.{InvalidMaxLenValue}

-- the model of a prefix with an optional maximum length
pub record MaxLenValue : Type 0 where
  pub prefix : FamilyPrefix
  pub max_len : Option ℕ

-- a maximum length, if there is one, is between the length of the prefix and the longest one of the family, inclusive
abbrev pub IsMaxLenOf : FamilyPrefix → Option ℕ → Type 0
IsMaxLenOf p None = Unit {0}
IsMaxLenOf p (Some n) = (p.len ≤ n) × (n ≤ width p.addr)

-- the prefix is valid, and so is its maximum length
abbrev pub IsMaxLenPrefix : MaxLenValue → Type 0
IsMaxLenPrefix m = IsFamilyPrefix m.prefix × IsMaxLenOf m.prefix m.max_len

-- why a maximum length is invalid: above the longest length of the family is checked first
abbrev pub HasMaxLenError : FamilyPrefix → Option ℕ → MaxLenError → Type 0
HasMaxLenError p None e = ⊥
HasMaxLenError p (Some n) Overflow = width p.addr < n
HasMaxLenError p (Some n) Underflow = (n ≤ width p.addr) × (n < p.len)

-- a maximum length raised to the length of the prefix, or lowered to the longest one of the family
abbrev pub saturated : FamilyPrefix → Option ℕ → Option ℕ
saturated p None = None
saturated p (Some n) = Some (max p.len (min n (width p.addr)))

-- the maximum length if there is one, and otherwise the length of the prefix
abbrev pub resolved : FamilyPrefix → Option ℕ → ℕ
resolved p None = p.len
resolved p (Some n) = n

-- the order by the prefix; then a maximum length before no maximum length; then the larger maximum length before the
-- smaller one
abbrev pub max_len_cmp : MaxLenValue → MaxLenValue → Ordering
max_len_cmp = then_cmp (on (λ m. m.prefix) prefix_cmp) (flip_args (on (λ m. m.max_len) (option_cmp nat_cmp)))

-- the message of an error
abbrev pub max_len_error_text : MaxLenError → List ℕ
max_len_error_text Overflow = codes "max-length too large"
max_len_error_text Underflow = codes "max-length smaller than prefix length"

-- the texts are a prefix and a number of 8 bits
pub record ArePrefixAndMax (left right : List ℕ) (p : FamilyPrefix) (n : ℕ) : Type 0 where
  pub prefix_text : IsPrefixText left p
  pub max_len_text : IsNumberText (2 ^ 8 - 1) right n

-- a prefix is before the first dash, and a maximum length after it
abbrev pub HasMaxLen : List ℕ → FamilyPrefix → ℕ → Type 0
HasMaxLen text p n = Around dash text (λ left right. ArePrefixAndMax left right p n)

-- the text has no dash and is a prefix, or it is a prefix, a dash and a maximum length of the prefix
abbrev pub IsMaxLenTextOf : List ℕ → FamilyPrefix → Option ℕ → Type 0
IsMaxLenTextOf text p None = HasNo dash text × IsPrefixText text p
IsMaxLenTextOf text p (Some n) = HasMaxLen text p n × IsMaxLenOf p (Some n)

-- the text writes the prefix with its optional maximum length
abbrev pub IsMaxLenText : List ℕ → MaxLenValue → Type 0
IsMaxLenText text m = IsMaxLenTextOf text m.prefix m.max_len

-- this is the first fault of the text: of the prefix, then of the text of the number, then of the number
abbrev pub HasMaxLenTextFault : List ℕ → ParseMaxLenPrefixError → Type 0
HasMaxLenTextFault text (InvalidPrefix f) =
    (HasNo dash text × HasPrefixTextFault text f) ⊎ Around dash text (λ left right. HasPrefixTextFault left f)
HasMaxLenTextFault text (InvalidMaxLenFormat f) =
    Around dash text (λ left right. (p : FamilyPrefix) × IsPrefixText left p × HasNumberFault (2 ^ 8 - 1) right f)
HasMaxLenTextFault text (InvalidMaxLenValue f) =
    (p : FamilyPrefix) × (n : ℕ) × HasMaxLen text p n × HasMaxLenError p (Some n) f

-- the printed text of an optional maximum length: a dash and the number, or nothing
abbrev pub max_text : Option ℕ → List ℕ
max_text None = []
max_text (Some n) = dash ∷ decimal n

-- the printed text: the prefix, and a dash and the maximum length if there is one
abbrev pub max_len_text : MaxLenValue → List ℕ
max_len_text m = prefix_text m.prefix ++ max_text m.max_len

-- The text is read if and only if it writes a prefix with an optional maximum length. Otherwise the error is its
-- first fault. A printed text is read back.
pub record ReadsMaxLen (text : List ℕ) (r : Result MaxLenValue ParseMaxLenPrefixError) : Type 0 where
  pub exact : Answers (IsMaxLenText text) (HasMaxLenTextFault text) r
  pub reads_back : (m : MaxLenValue) → IsMaxLenPrefix m → text ≡ max_len_text m → r ≡ Ok m
