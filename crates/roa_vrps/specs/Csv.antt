-- The entries of a CSV file, and its faults. A reader may run out of memory only if a VRP precedes each fault.
use Rattle.std.specs.Prelude.{◌≡◌, ◌⊎◌, ℕ, ◌+◌, List, [], ◌∷◌, ◌++◌}
use Rattle.rpki_prefix.specs.MaxLen.{MaxLenValue}
use Rattle.rpki_text.specs.Lines.{lines_of}
use Rattle.roa_vrps.specs.Columns.{usual}
use Rattle.roa_vrps.specs.Entries.{Entry, line_entry}
use Rattle.roa_vrps.specs.Rows.{IsRow, IsUnknownHeader, HasRowFault}
use Rattle.roa_vrps.specs.declared.columns.Columns.{Columns}
use Rattle.roa_vrps.specs.declared.fault.FileFault.{FileFault}
use Rattle.roa_vrps.specs.declared.fault.FileFault.TheVariants.{Line, UnknownHeader}
use Rattle.roa_vrps.specs.declared.fault.VrpFault.{VrpFault}
use Rattle.roa_vrps.specs.declared.row.Row.{Row}
use Rattle.roa_vrps.specs.declared.row.Row.TheVariants.{Blank, Header, Vrp}

-- the entry of a line, as a list that is empty if the line has no VRP
abbrev pub entries_of : ℕ → Columns → List ℕ → Row → List Entry
entries_of number columns line Blank = []
entries_of number columns line (Header next) = []
entries_of number columns line (Vrp vrp) = line_entry vrp number columns.expires line ∷ []

-- the columns of the lines after this one
abbrev pub columns_after : Columns → Row → Columns
columns_after columns Blank = columns
columns_after columns (Header next) = next
columns_after columns (Vrp vrp) = columns

-- Lines have these entries. The number is that of the first line. The columns are those that are given, until a line
-- names others.
abbrev pub AreRows : ℕ → Columns → List (List ℕ) → List Entry → Type 0
AreRows number columns [] entries = entries ≡ []
AreRows number columns (line ∷ lines) entries =
    (row : Row) × IsRow columns line row
    × ((more : List Entry) × AreRows (number + 1) (columns_after columns row) lines more
    × (entries ≡ entries_of number columns line row ++ more))

-- the first invalid line and its fault; number is that of the first line
abbrev pub HaveFirstFault : ℕ → Columns → List (List ℕ) → FileFault → Type 0
HaveFirstFault number columns [] fault = ⊥
HaveFirstFault number columns (line ∷ lines) fault =
    ((wrong : VrpFault) × HasRowFault columns line wrong × (fault ≡ Line number wrong))
    ⊎ ((row : Row) × IsRow columns line row × HaveFirstFault (number + 1) (columns_after columns row) lines fault)

-- the first line of the text is meant to name columns, and names none that are known
abbrev pub HasUnknownHeader : List ℕ → Type 0
HasUnknownHeader text =
    (line : List ℕ) × (lines : List (List ℕ)) × (lines_of text ≡ line ∷ lines) × IsUnknownHeader line

-- the first line is an unknown header, or else the first invalid line
abbrev pub HasCsvFault : List ℕ → FileFault → Type 0
HasCsvFault text fault =
    (HasUnknownHeader text × (fault ≡ UnknownHeader))
    ⊎ ((¬ HasUnknownHeader text) × HaveFirstFault 1 usual (lines_of text) fault)

-- one of these lines is a VRP, and no line before it is invalid
abbrev pub BeginVrps : Columns → List (List ℕ) → Type 0
BeginVrps columns [] = ⊥
BeginVrps columns (line ∷ lines) =
    ((vrp : MaxLenValue × ℕ) × IsRow columns line (Vrp vrp))
    ⊎ ((row : Row) × IsRow columns line row × BeginVrps (columns_after columns row) lines)

-- a CSV file has a VRP before its first invalid line
abbrev pub HasCsvVrp : List ℕ → Type 0
HasCsvVrp text = BeginVrps usual (lines_of text)
