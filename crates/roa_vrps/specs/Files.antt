-- The VRPs of a file in either form, its faults, and the files for which a reader may run out of memory.
use Rattle.std.specs.Prelude.{◌≡◌, ◌≢◌, ◌⊎◌, ℕ, List, [], ◌∷◌}
use Rattle.std.specs.Str.{IsTrimAsciiStart, IsUtf8}
use Rattle.rpki_prefix.specs.MaxLen.{MaxLenValue}
use Rattle.rpki_text.specs.Lines.{lines_of}
use Rattle.roa_vrps.specs.Columns.{usual}
use Rattle.roa_vrps.specs.Csv.{AreRows, HasCsvFault, HasCsvVrp}
use Rattle.roa_vrps.specs.Entries.{Entry, vrps_of}
use Rattle.roa_vrps.specs.JsonFiles.{AreJsonEntries, HasJsonFault}
use Rattle.roa_vrps.specs.Marks.{IsUnmarked}
use Rattle.roa_vrps.specs.declared.fault.FileFault.{FileFault}
use Rattle.roa_vrps.specs.declared.fault.FileFault.TheVariants.{JsonArray, NoVrp}

-- the first octet that is not white space is `{`, which opens an object (RFC 8259, 4)
abbrev pub IsObjectText : List ℕ → Type 0
IsObjectText text = (rest : List ℕ) × IsTrimAsciiStart text (123 ∷ rest)

-- the first octet that is not white space is `[`, which opens an array (RFC 8259, 5)
abbrev pub IsArrayText : List ℕ → Type 0
IsArrayText text = (rest : List ℕ) × IsTrimAsciiStart text (91 ∷ rest)

-- the text opens neither an object nor an array
pub record IsCsvText (text : List ℕ) : Type 0 where
  pub no_object : ¬ IsObjectText text
  pub no_array : ¬ IsArrayText text

-- the entries of a text: its items if it opens an object, its lines if it opens neither an object nor an array
abbrev pub AreTextEntries : List ℕ → List Entry → Type 0
AreTextEntries text entries =
    (IsObjectText text × AreJsonEntries text entries) ⊎ (IsCsvText text × AreRows 1 usual (lines_of text) entries)

-- the fault of the text as JSON, as an array, or as CSV
abbrev pub HasTextFault : List ℕ → FileFault → Type 0
HasTextFault text fault =
    (IsObjectText text × HasJsonFault text fault)
    ⊎ (((¬ IsObjectText text) × IsArrayText text) × (fault ≡ JsonArray))
    ⊎ (IsCsvText text × HasCsvFault text fault)

-- the entries of the text of the file, without a byte order mark at its beginning; there is at least one
abbrev pub AreFileEntries : List ℕ → List Entry → Type 0
AreFileEntries file entries =
    (text : List ℕ) × IsUnmarked file text × (AreTextEntries text entries × (entries ≢ []))

-- the entries of the file have these VRPs
abbrev pub IsVrpFile : List ℕ → List (MaxLenValue × ℕ) → Type 0
IsVrpFile file vrps = (entries : List Entry) × AreFileEntries file entries × (vrps ≡ vrps_of entries)

-- the fault of the text of the file, or else that it has no entries
abbrev pub HasFileFault : List ℕ → FileFault → Type 0
HasFileFault file fault =
    (text : List ℕ) × IsUnmarked file text × (HasTextFault text fault ⊎ (AreTextEntries text [] × (fault ≡ NoVrp)))

-- the text is UTF-8 and opens an object, or it is CSV with a VRP before its first invalid line
abbrev pub MayTextWantMemory : List ℕ → Type 0
MayTextWantMemory text = (IsObjectText text × IsUtf8 text) ⊎ (IsCsvText text × HasCsvVrp text)

-- the same of the text of a file, without a byte order mark at its beginning
abbrev pub MayWantMemory : List ℕ → Type 0
MayWantMemory file = (text : List ℕ) × IsUnmarked file text × MayTextWantMemory text
