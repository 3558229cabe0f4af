-- The fields of a line, and the columns of a file: which field of a line is the AS number, which the prefix, which the
-- maximum length and which the expiry.
use Rattle.std.specs.Prelude.{◌≡◌, ◌⊎◌, ℕ, zero, suc, ◌+◌, ◌-◌, ◌<◌, Bool, ◌==◌, ◌&&◌, List, MatchOption, None, Option}
use Rattle.std.specs.Prelude.{codes, false, true, length, nat_lt, slice_index, slice_range, if◌then◌else◌}
use Rattle.std.specs.List.{before_first, after_first, count_by}
use Rattle.std.specs.Str.{trim}
use Rattle.rpki_text.specs.Cuts.{is_comma}
use Rattle.roa_vrps.specs.declared.columns.Column.{Column}
use Rattle.roa_vrps.specs.declared.columns.Column.TheVariants.{Asn, Prefix, MaxLen, Expires}
use Rattle.roa_vrps.specs.declared.columns.Columns.{Columns}

-- the text after this number of commas of a line; it is empty if the line has fewer
abbrev pub after_commas : ℕ → List ℕ → List ℕ
after_commas zero line = line
after_commas (suc n) line = after_commas n (after_first is_comma line)

-- whether the text has a quote at both its ends
abbrev pub is_quoted : List ℕ → Bool
is_quoted text = nat_lt 1 (length text) && (slice_index text 0 == 34 && slice_index text (length text - 1) == 34)

-- the text without the quotes at both its ends, if it has them
abbrev pub unquoted : List ℕ → List ℕ
unquoted text = if is_quoted text then slice_range text 1 (length text - 1) else text

-- the field of a line at an index, without white space at its ends, and then without quotes
abbrev pub field : ℕ → List ℕ → List ℕ
field n line = unquoted (trim (before_first is_comma (after_commas n line)))

-- The number of fields of a line: its commas, plus 1. A comma between quotes counts too.
abbrev pub field_count : List ℕ → ℕ
field_count line = count_by is_comma line + 1

-- the text is a name of the column
abbrev pub Names : Column → List ℕ → Type 0
Names Asn text = text ≡ codes "ASN"
Names Prefix text = (text ≡ codes "IP Prefix") ⊎ (text ≡ codes "Prefix")
Names MaxLen text = (text ≡ codes "Max Length") ⊎ (text ≡ codes "Max prefix length")
Names Expires text = text ≡ codes "Expires"

-- n is the index of the first field of a line that is a name of the column
pub record IsColumn (column : Column) (line : List ℕ) (n : ℕ) : Type 0 where
  pub named : Names column (field n line)
  pub first : (m : ℕ) → m < n → ¬ Names column (field m line)

-- the index of the column `Expires` that a line names, or None if it names none
abbrev pub IsExpiresColumn : List ℕ → Option ℕ → Type 0
IsExpiresColumn line found = MatchOption found ((n : ℕ) → ¬ Names Expires (field n line)) (IsColumn Expires line)

-- a line with this number of fields has a field in each of the three columns, and a line with fewer lacks one
pub record IsNeeded (columns : Columns) (fields : ℕ) : Type 0 where
  pub asn : columns.asn < fields
  pub prefix : columns.prefix < fields
  pub max_len : columns.max_len < fields
  pub fewest : (columns.asn + 1 ≡ fields) ⊎ ((columns.prefix + 1 ≡ fields) ⊎ (columns.max_len + 1 ≡ fields))

-- the line names each of the three columns, and maybe the column `Expires`, and each of its fields is a column
pub record IsHeader (line : List ℕ) (columns : Columns) : Type 0 where
  pub asn : IsColumn Asn line columns.asn
  pub prefix : IsColumn Prefix line columns.prefix
  pub max_len : IsColumn MaxLen line columns.max_len
  pub expires : IsExpiresColumn line columns.expires
  pub count : columns.count ≡ field_count line
  pub needed : IsNeeded columns columns.needed
  pub is_named : columns.is_named ≡ true

-- the columns of a file until one of its lines names them
abbrev pub usual : Columns
usual = record { asn = 0; prefix = 1; max_len = 2; expires = None; count = 3; needed = 3; is_named = false }
