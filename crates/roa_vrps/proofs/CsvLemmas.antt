-- Lemmas on the lines of a file, read one after another. A file has one list of entries, or one fault.
use Rattle.roa_vrps.proofs.Common.{AreRead, Bool, Columns, Entry, ExpiryFault, FileFault, Found, HasRowFault, IsFoundIn}
use Rattle.roa_vrps.proofs.Common.{IsRow, IsUnknownHeader, Line, List, MaxLenValue, Ok, Option, Result, Row, Vec}
use Rattle.roa_vrps.proofs.Common.{VrpFault, append-nil, append_assoc, arith, inl, inr, line_entry, map-append, refl}
use Rattle.roa_vrps.proofs.Common.{sym, usual, vrp_of, vrps_of, ℕ, [], ◌++◌, ◌+◌, ◌∷◌, ◌≡◌, ◌≢◌}
use Rattle.roa_vrps.specs.Csv.{AreRows, BeginVrps, HasCsvFault, HasCsvVrp, HaveFirstFault, columns_after, entries_of}
use Rattle.roa_vrps.specs.declared.row.Row.TheVariants.{Vrp}
use Rattle.rpki_text.specs.Lines.{lines_of}
use Rattle.roa_vrps.proofs.EntryLemmas.{Vrps}
use Rattle.roa_vrps.proofs.Outcomes.{IsExact, exact_fault, exact_map, exact_none, exact_with}
use Rattle.roa_vrps.proofs.RowLemmas.{row_exact}

-- A text was read up to `rest`. The entries read, and then the entries of `rest`, are the entries of the text. The
-- first fault of `rest` is the first fault of the text. `vrps` and `expiries` are those of the entries read.
pub record IsReadSo {A : Type 0} (asked : Bool) (text rest : List ℕ) (number : ℕ) (columns : Columns)
    (vrps : Vrps) (expiries : Result (Vec (Option ℕ) A) ExpiryFault)
    : Type 0 where
  pub entries : List Entry
  pub vrps_are : vrps ≡ vrps_of entries
  pub read : AreRead asked entries expiries
  pub values : (more : List Entry) → AreRows (number + 1) columns (lines_of rest) more
      → AreRows 1 usual (lines_of text) (entries ++ more)
  pub faults : (fault : FileFault) → HaveFirstFault (number + 1) columns (lines_of rest) fault
      → HaveFirstFault 1 usual (lines_of text) fault
  pub begins : BeginVrps columns (lines_of rest) → HasCsvVrp text

-- nothing is read yet
pub read_none : {A : Type 0} (asked : Bool) (text : List ℕ) (vrps : Vrps) (found : Vec (Option ℕ) A)
    → vrps ≡ [] → found.items ≡ [] → IsReadSo asked text text 0 usual vrps (Ok found)
read_none asked text vrps found none empty = grind (arith)

module _ {A : Type 0} (asked : Bool) (text rest after line : List ℕ) (number : ℕ) (columns : Columns)
    (vrps : Vrps) (expiries : Result (Vec (Option ℕ) A) ExpiryFault)
    (had : IsReadSo asked text rest number columns vrps expiries) (first : lines_of rest ≡ line ∷ lines_of after) where
  -- one line more, with these entries
  read_line : (row : Row) (own : List Entry) (all : Vrps)
      (next : Result (Vec (Option ℕ) A) ExpiryFault) → entries_of (number + 1) columns line row ≡ own
      → IsRow columns line row → all ≡ vrps ++ vrps_of own → AreRead asked (had.entries ++ own) next
      → IsReadSo asked text after (number + 1) (columns_after columns row) all next
  read_line row own all next own_is is all_are read = record {
    entries = had.entries ++ own;
    vrps_are = rw (map-append vrp_of had.entries own, all_are, had.vrps_are) refl;
    read = read;
    values = λ more rows.
        rw append_assoc (had.values (own ++ more) (rw first (row, is, (more, rows, rw own_is refl))));
    faults = λ fault wrong. had.faults fault (rw first (inr (row, is, wrong)));
    begins = λ later. had.begins (rw first (inr (row, is, later)));
  }

  -- it has a VRP
  pub read_vrp : (vrp : MaxLenValue × ℕ) (next : Result (Vec (Option ℕ) A) ExpiryFault) → IsRow columns line (Vrp vrp)
      → AreRead asked (had.entries ++ line_entry vrp (number + 1) columns.expires line ∷ []) next
      → IsReadSo asked text after (number + 1) columns (vrps ++ vrp ∷ []) next
  read_vrp vrp next is read = read_line (Vrp vrp) _ _ next refl is refl read

  -- or none
  pub read_over : (row : Row) → entries_of (number + 1) columns line row ≡ [] → IsRow columns line row
      → IsReadSo asked text after (number + 1) (columns_after columns row) vrps expiries
  read_over row none is = read_line row [] vrps expiries none is (sym (append-nil vrps)) (rw append-nil had.read)

  -- memory is requested for a VRP
  pub read_wanting : (vrp : MaxLenValue × ℕ) → IsRow columns line (Vrp vrp) → HasCsvVrp text
  read_wanting vrp is = had.begins (rw first (inl (vrp, is)))

  -- the next line is wrong
  pub read_wrong : (wrong : VrpFault) → HasRowFault columns line wrong
      → HaveFirstFault 1 usual (lines_of text) (Line (number + 1) wrong)
  read_wrong wrong has = had.faults (Line (number + 1) wrong) (rw first (inl (wrong, has, refl)))

-- nothing is left
pub read_all : {A : Type 0} (asked : Bool) (text rest : List ℕ) (number : ℕ) (columns : Columns) (found : Found A)
    → IsReadSo asked text rest number columns found.vrps.items found.expiries → rest ≡ []
    → IsFoundIn asked (AreRows 1 usual (lines_of text)) found
read_all asked text rest number columns found had end = record {
  entries = had.entries;
  entries_are = grind (arith, append-nil, had.values []);
  vrps_are = had.vrps_are;
  read = had.read;
}

-- lines with VRPs have one before the first wrong line
pub rows_begin : (number : ℕ) (columns : Columns) (lines : List (List ℕ)) (entries : List Entry)
    → AreRows number columns lines entries → entries ≢ [] → BeginVrps columns lines
rows_begin number columns [] entries none some = absurd (some none)
rows_begin number columns (line ∷ lines) entries h some =
    grind (arith, rows_begin (number + 1) (columns_after columns h.0) lines)

-- lines write one list of entries, or have one first fault
rows_exact : (number : ℕ) (columns : Columns) (lines : List (List ℕ))
    → IsExact (AreRows number columns lines) (HaveFirstFault number columns lines)
rows_exact number columns [] = exact_none
rows_exact number columns (line ∷ lines) =
    let later =
    λ (row : Row). exact_map (λ more. entries_of number columns line row ++ more)
    (rows_exact (number + 1) (columns_after columns row) lines) in
    let all = exact_with (exact_fault (Line number) (row_exact columns line)) later in all

-- a row isn't an unknown header
row_known : (line : List ℕ) (row : Row) → IsRow usual line row → IsUnknownHeader line → ⊥
row_known line row is unknown = grind (arith)

-- so lines that have entries begin with none
rows_known : (lines others : List (List ℕ)) (line : List ℕ) (a : List Entry) → AreRows 1 usual lines a
    → lines ≡ line ∷ others → IsUnknownHeader line → ⊥
rows_known lines others line a rows same unknown = grind (arith, row_known)

pub csv_exact : (text : List ℕ) → IsExact (AreRows 1 usual (lines_of text)) (HasCsvFault text)
csv_exact text =
    let rows = rows_exact 1 usual (lines_of text) in
    record {
      one = rows.one;
      apart = λ a f h wrong. elim wrong [
        | inl (unknown, _) ↦ rows_known (lines_of text) unknown.1 unknown.0 a h unknown.2 unknown.3
        | inr (_, later) ↦ rows.apart a f h later
      ];
      fault_one = λ d f h k. grind (arith, rows.fault_one);
    }
