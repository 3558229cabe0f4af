-- The content of a line of a CSV file: blank, names of columns, or a VRP.
use Rattle.std.specs.Prelude.{◌≡◌, ◌≢◌, ◌⊎◌, ℕ, ◌<◌, ◌-◌, ◌^◌, List, [], Some, true}
use Rattle.std.specs.Str.{IsUtf8, trim}
use Rattle.rpki_text.specs.Numbers.{IsNumberText, HasNumberFault}
use Rattle.rpki_text.specs.declared.number.ParseIntError.TheVariants.{Empty}
use Rattle.rpki_base.specs.AsnText.{IsAsnText}
use Rattle.rpki_prefix.specs.MaxLen.{MaxLenValue, IsMaxLenOf, HasMaxLenError}
use Rattle.rpki_prefix.specs.PrefixText.{IsPrefixText, HasPrefixTextFault}
use Rattle.rpki_prefix.specs.Values.{FamilyPrefix}
use Rattle.roa_vrps.specs.Columns.{IsHeader, field, field_count}
use Rattle.roa_vrps.specs.declared.columns.Columns.{Columns}
use Rattle.roa_vrps.specs.declared.fault.VrpFault.{VrpFault}
use Rattle.roa_vrps.specs.declared.fault.VrpFault.TheVariants.{NotUtf8, TooManyFields, TooFewFields, Asn, Prefix}
use Rattle.roa_vrps.specs.declared.fault.VrpFault.TheVariants.{MaxLenFormat, MaxLen}
use Rattle.roa_vrps.specs.declared.row.Row.{Row}
use Rattle.roa_vrps.specs.declared.row.Row.TheVariants.{Blank, Header, Vrp}

-- three texts denote an AS number, a prefix and a maximum length of this prefix
pub record AreVrpTexts (asn_text prefix_text max_text : List ℕ) (prefix : MaxLenValue) (asn : ℕ) : Type 0 where
  pub asn_is : IsAsnText asn_text asn
  pub prefix_is : IsPrefixText prefix_text prefix.prefix
  pub len : ℕ
  pub max_len : prefix.max_len ≡ Some len
  pub len_is : IsNumberText (2 ^ 8 - 1) max_text len
  pub within : IsMaxLenOf prefix.prefix (Some len)

-- Two texts denote an AS number and a prefix. The maximum length of the prefix is its own length, as in a ROA without a
-- maximum length (RFC 9582, 4.3.2.2).
pub record ArePairTexts (asn_text prefix_text : List ℕ) (prefix : MaxLenValue) (asn : ℕ) : Type 0 where
  pub asn_is : IsAsnText asn_text asn
  pub prefix_is : IsPrefixText prefix_text prefix.prefix
  pub max_len : prefix.max_len ≡ Some prefix.prefix.len

-- the texts of three fields denote this VRP; an empty maximum length is the length of the prefix
abbrev pub AreFieldTexts : List ℕ → List ℕ → List ℕ → MaxLenValue × ℕ → Type 0
AreFieldTexts asn_text prefix_text max_text vrp =
    AreVrpTexts asn_text prefix_text max_text vrp.0 vrp.1
    ⊎ ((max_text ≡ []) × ArePairTexts asn_text prefix_text vrp.0 vrp.1)

-- the text is an AS number
abbrev pub WritesAsn : List ℕ → Type 0
WritesAsn text = (n : ℕ) × IsAsnText text n

-- the text is a prefix
abbrev pub WritesPrefix : List ℕ → Type 0
WritesPrefix text = (p : FamilyPrefix) × IsPrefixText text p

-- the first fault of the texts of an AS number, a prefix and a maximum length
abbrev pub HaveFault : List ℕ → List ℕ → List ℕ → VrpFault → Type 0
HaveFault asn_text prefix_text max_text (Asn f) = (n : ℕ) → ¬ IsAsnText asn_text n
HaveFault asn_text prefix_text max_text (Prefix f) = WritesAsn asn_text × HasPrefixTextFault prefix_text f
HaveFault asn_text prefix_text max_text (MaxLenFormat f) =
    WritesAsn asn_text × WritesPrefix prefix_text × HasNumberFault (2 ^ 8 - 1) max_text f
HaveFault asn_text prefix_text max_text (MaxLen f) =
    WritesAsn asn_text
    × ((p : FamilyPrefix) × (len : ℕ) × IsPrefixText prefix_text p × IsNumberText (2 ^ 8 - 1) max_text len
    × HasMaxLenError p (Some len) f)
HaveFault asn_text prefix_text max_text fault = ⊥

-- the first fault of the texts of three fields; that the maximum length is empty is no fault
abbrev pub HaveFieldsFault : List ℕ → List ℕ → List ℕ → VrpFault → Type 0
HaveFieldsFault asn_text prefix_text max_text fault =
    (fault ≢ MaxLenFormat Empty) × HaveFault asn_text prefix_text max_text fault

-- the line must be a VRP: it is UTF-8 and not blank, and doesn't name the columns
pub record IsBody (line : List ℕ) : Type 0 where
  pub utf8 : IsUtf8 line
  pub some_text : trim line ≢ []
  pub no_header : (next : Columns) → ¬ IsHeader line next

-- a line has more fields than the line that names the columns
abbrev pub IsTooLong : Columns → List ℕ → Type 0
IsTooLong columns line = (columns.is_named ≡ true) × (columns.count < field_count line)

-- a line has a field in each of the three columns
pub record HasColumns (columns : Columns) (line : List ℕ) : Type 0 where
  pub asn : columns.asn < field_count line
  pub prefix : columns.prefix < field_count line
  pub max_len : columns.max_len < field_count line

-- a line has at most as many fields as its columns allow, and a field in each of the three columns
abbrev pub FitsColumns : Columns → List ℕ → Type 0
FitsColumns columns line = (¬ IsTooLong columns line) × HasColumns columns line

-- the fault of the number of a line's fields, with this number and the number of columns, or of fields that it needs
abbrev pub HasCountFault : Columns → List ℕ → VrpFault → Type 0
HasCountFault columns line (TooManyFields found named) =
    IsTooLong columns line × (found ≡ field_count line) × (named ≡ columns.count)
HasCountFault columns line (TooFewFields found needed) =
    (¬ IsTooLong columns line) × (¬ HasColumns columns line) × (found ≡ field_count line) × (needed ≡ columns.needed)
HasCountFault columns line fault = ⊥

-- the texts in the three columns of a line denote this VRP
abbrev pub AreColumns : Columns → List ℕ → MaxLenValue × ℕ → Type 0
AreColumns columns line vrp =
    AreFieldTexts (field columns.asn line) (field columns.prefix line) (field columns.max_len line) vrp

-- the first fault of the texts in the three columns of a line
abbrev pub HaveColumnsFault : Columns → List ℕ → VrpFault → Type 0
HaveColumnsFault columns line fault =
    HaveFieldsFault (field columns.asn line) (field columns.prefix line) (field columns.max_len line) fault

-- the content of a line: blank, the names of columns, or a VRP
abbrev pub IsRow : Columns → List ℕ → Row → Type 0
IsRow columns line Blank = IsUtf8 line × (trim line ≡ [])
IsRow columns line (Header next) = IsUtf8 line × (trim line ≢ []) × IsHeader line next
IsRow columns line (Vrp vrp) = IsBody line × FitsColumns columns line × AreColumns columns line vrp

-- the first fault of a line: it isn't UTF-8, or the number of its fields or their texts have the fault
abbrev pub HasRowFault : Columns → List ℕ → VrpFault → Type 0
HasRowFault columns line fault =
    ((fault ≡ NotUtf8) × ¬ IsUtf8 line)
    ⊎ (IsBody line
    × (HasCountFault columns line fault ⊎ (FitsColumns columns line × HaveColumnsFault columns line fault)))

-- The line is meant to name columns, and names none that are known: it must be a VRP, but its first field is no AS
-- number, and its second field is no prefix.
pub record IsUnknownHeader (line : List ℕ) : Type 0 where
  pub body : IsBody line
  pub no_asn : ¬ WritesAsn (field 0 line)
  pub no_prefix : ¬ WritesPrefix (field 1 line)
