-- Fields of a line, one after another, and the columns that a line names.
use Rattle.roa_vrps.proofs.Common.{Columns, IsColumn, IsExpiresColumn, IsHeader, IsNeeded, List, Names, Option}
use Rattle.roa_vrps.proofs.Common.{after_commas, after_first, ap, arith, before_first, count_by, count_by-le-length}
use Rattle.roa_vrps.proofs.Common.{field, is_comma, length, refl, suc, trim, trim_shown, unquoted, zero, ℕ, [], ◌+◌}
use Rattle.roa_vrps.proofs.Common.{◌-◌, ◌<◌, ◌∙◌, ◌≡◌, ◌≤◌}
use Rattle.roa_vrps.specs.declared.columns.Column.{Column}
use Rattle.roa_vrps.specs.declared.columns.Column.TheVariants.{Asn, MaxLen, Prefix}
use borrow.Author.Tests.{ltb-false, ltb-true}

-- behind one comma more
pub after_commas_next : (n : ℕ) (line : List ℕ) → 0 < n
    → after_commas (n - 1) (after_first is_comma line) ≡ after_commas n line
after_commas_next n line some = grind (arith)

-- a text without octets has none behind its commas either
after_commas_empty : (n : ℕ) → after_commas n [] ≡ []
after_commas_empty zero = refl
after_commas_empty (suc n) = after_commas_empty n

pub field_empty : (n : ℕ) → field n [] ≡ []
field_empty n =
    ap (λ z. unquoted (trim (before_first is_comma z))) (after_commas_empty n) ∙ ap unquoted (trim_shown [] tt)

-- a line has no more commas than octets
pub few_commas : (line : List ℕ) → count_by is_comma line ≤ length line
few_commas line = count_by-le-length is_comma line

-- an empty text is no column's name
no_name : (column : Column) → ¬ Names column []
no_name column e = grind (arith)

-- so many fields of the line aren't the column's name, and the others are those of the rest
pub record AreLooked (column : Column) (line rest : List ℕ) (commas : ℕ) : Type 0 where
  pub same : (n : ℕ) → field (commas + n) line ≡ field n rest
  pub none : (m : ℕ) → m < commas → ¬ Names column (field m line)

pub looked_none : (column : Column) (line : List ℕ) → AreLooked column line line 0
looked_none column line = grind (arith)

-- one field more, which isn't the column's name
pub looked_more : (column : Column) (line rest : List ℕ) (commas : ℕ) → AreLooked column line rest commas
    → ¬ Names column (field 0 rest) → AreLooked column line (after_first is_comma rest) (commas + 1)
looked_more column line rest commas had other = record {
  same = λ n. grind (arith, had.same (suc n));
  none = λ m less named. grind (arith, had.same 0, had.none m);
}

-- one field more, which is
pub looked_found : (column : Column) (line rest : List ℕ) (commas : ℕ) → AreLooked column line rest commas
    → Names column (field 0 rest) → IsColumn column line commas
looked_found column line rest commas had named = grind (arith, had.same 0)

-- nothing is left
pub looked_all : (column : Column) (line rest : List ℕ) (commas : ℕ) → AreLooked column line rest commas → rest ≡ []
    → (n : ℕ) → ¬ Names column (field n line)
looked_all column line rest commas had end n named =
    grind (arith, no_name, field_empty, had.none n, had.same (n - commas))

-- a line has one column of a name
pub column_one : (column : Column) (line : List ℕ) (m n : ℕ) → IsColumn column line m → IsColumn column line n → m ≡ n
column_one column line m n h k = grind (arith, ltb-false, ltb-true)

-- a line names at most one column `Expires`
expires_one : (line : List ℕ) (a b : Option ℕ) → IsExpiresColumn line a → IsExpiresColumn line b → a ≡ b
expires_one line a b h k = grind (arith, column_one)

-- the same columns need the same number of fields
needed_one : (a b : Columns) (m n : ℕ) → a.asn ≡ b.asn → a.prefix ≡ b.prefix → a.max_len ≡ b.max_len
    → IsNeeded a m → IsNeeded b n → m ≡ n
needed_one a b m n asn prefix max_len h k = grind (arith)

-- so it names one list of columns
pub header_one : (line : List ℕ) (a b : Columns) → IsHeader line a → IsHeader line b → a ≡ b
header_one line a b h k =
    let asn = column_one Asn line a.asn b.asn h.asn k.asn in
    let prefix = column_one Prefix line a.prefix b.prefix h.prefix k.prefix in
    let max_len = column_one MaxLen line a.max_len b.max_len h.max_len k.max_len in
    let expires = expires_one line a.expires b.expires h.expires k.expires in
    let needed = needed_one a b a.needed b.needed asn prefix max_len h.needed k.needed in
    grind (arith, asn, prefix, max_len, expires, needed, h.count, k.count, h.is_named, k.is_named)
