-- Texts of the usual form: words, and lines with a VRP. In such a line the AS number, the prefix and the maximum length
-- come first, and neither white space nor quotes are in the line.
use Rattle.std.specs.Prelude.{◌≡◌, ◌⊎◌, ℕ, ◌+◌, ◌-◌, ◌^◌, ◌<◌, ◌≤◌, List, [], ◌∷◌, All, Some, length, true}
use Rattle.std.specs.Int.{IsInRange}
use Rattle.std.specs.List.{count_by}
use Rattle.std.specs.Str.Parse.{AllDigits}
use Rattle.rpki_addr.specs.declared.addr.IpAddr.{IpAddr}
use Rattle.rpki_base.specs.AsnText.{IsAsnText}
use Rattle.rpki_prefix.specs.MaxLen.{IsMaxLenOf, MaxLenValue}
use Rattle.rpki_prefix.specs.PrefixText.{HasParts}
use Rattle.rpki_prefix.specs.Values.{IsPrefixOf}
use Rattle.rpki_text.specs.Cuts.{is_comma}
use Rattle.rpki_text.specs.Lists.{comma}
use Rattle.rpki_text.specs.Numbers.{IsNumberText}
use Rattle.roa_vrps.specs.declared.columns.Columns.{Columns}

-- The bytes of a field of the usual form: visible ASCII characters from `-` on. None is a comma, a quote or a space.
abbrev pub AreShown : List ℕ → Type 0
AreShown = All (IsInRange 45 126)

-- A word of the usual form, of which P holds. It has at least one byte. Its bytes are visible ASCII characters from `.`
-- to `z`. None is white space, a comma, a quote or a bar.
pub record IsWord (P : List ℕ → Type 0) (text : List ℕ) : Type 0 where
  pub some : 0 < length text
  pub visible : All (IsInRange 46 122) text
  pub holds : P text

-- a word that is an AS number
abbrev pub IsAsnWord : List ℕ → ℕ → Type 0
IsAsnWord text n = IsWord (λ word. IsAsnText word n) text

-- a word that is the address and the length of a prefix
abbrev pub IsPrefixWord : List ℕ → IpAddr × ℕ → Type 0
IsPrefixWord text parts = IsWord (λ word. HasParts word parts.0 parts.1) text

-- the text is digits, which write a number of 8 bits
pub record IsDigitText (text : List ℕ) (n : ℕ) : Type 0 where
  pub digits : AllDigits 10 text
  pub number : IsNumberText (2 ^ 8 - 1) text n

-- a field ends where this text begins: the text is empty, or begins with a comma
abbrev pub EndsField : List ℕ → Type 0
EndsField text = (text ≡ []) ⊎ ((rest : List ℕ) × (text ≡ comma ∷ rest))

-- the text has this number of commas, and no other byte than commas and visible ASCII characters after the comma
pub record AreFurther (text : List ℕ) (fields : ℕ) : Type 0 where
  pub shown : All (IsInRange 44 126) text
  pub count : fields ≡ count_by is_comma text

-- the VRP has this AS number, the prefix of this address and this length, and this maximum length
pub record IsVrpOf (asn : ℕ) (addr : IpAddr) (len max_len : ℕ) (vrp : MaxLenValue × ℕ) : Type 0 where
  pub asn_is : vrp.1 ≡ asn
  pub prefix : IsPrefixOf addr len vrp.0.prefix
  pub max_len_is : vrp.0.max_len ≡ Some max_len
  pub within : IsMaxLenOf vrp.0.prefix (Some max_len)

-- the first three columns are those of a VRP, and a line may have this number of fields after them
pub record AllowUsual (columns : Columns) (fields : ℕ) : Type 0 where
  pub asn : columns.asn ≡ 0
  pub prefix : columns.prefix ≡ 1
  pub max_len : columns.max_len ≡ 2
  pub count : columns.is_named ≡ true → fields + 3 ≤ columns.count
