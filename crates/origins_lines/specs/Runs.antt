-- The bytes that runs leave in a writer, and how a run ends that first reads files.
use Rattle.std.specs.Prelude.{◌≡◌, ◌≢◌, ◌⊎◌, ◌++◌, ℕ, Bool, true, false, List, [], Option, None, Some, codes, length}
use Rattle.std.specs.Prelude.{if◌then◌else◌, ◌==◌, Err, IfSome, IsErrOf, Ok, OnOk, Result}
use Rattle.std.specs.Io.KnownBytes.{IsAtEnd}
use Rattle.std.specs.List.{flat_map}
use Rattle.lines_engine.specs.Run.{HasWritten, MarksWriter, as_line}
use Rattle.lines_engine.specs.declared.error.RunError.{RunError}
use Rattle.lines_engine.specs.declared.error.RunError.TheVariants.{Memory}
use Rattle.roa_vrps.specs.Files.{HasFileFault, IsVrpFile}
use Rattle.roa_vrps.specs.declared.fault.FileFault.{FileFault}
use Rattle.roa_origin.specs.Vrps.{Vrp}
use Rattle.roa_origin.specs.Tables.{IsTableOf, IsWithout}
use Rattle.roa_routes.specs.Texts.{vrp_text}
use Rattle.origins_lines.specs.FileResult.{IsFileError}
use Rattle.origins_lines.specs.Inputs.{AreInputsRead, ByInputs, IsInputsError}
use Rattle.origins_lines.specs.declared.error.ChangesError.{ChangesError}
use Rattle.origins_lines.specs.declared.error.OriginsError.{OriginsError}
use Rattle.origins_lines.specs.declared.error.OriginsError.TheVariants.{Inputs, Run}
use Rattle.origins_lines.specs.declared.error.ReadFileError.{ReadFileError}
use Rattle.origins_lines.specs.declared.error.ReadFileError.TheVariants.{File}
use Rattle.origins_lines.specs.declared.inputs.Report.{Report}
use Rattle.origins_lines.specs.declared.inputs.Selection.{Selection}

-- ---- texts

-- whether a VRP has the requested AS, or no AS is requested
abbrev pub is_of : Option ℕ → Vrp → Bool
is_of None vrp = true
is_of (Some asn) vrp = vrp.1 == asn

-- the line of a VRP after a word; it is empty if another AS is requested
abbrev pub vrp_line : Option ℕ → List ℕ → Vrp → List ℕ
vrp_line of word vrp = if is_of of vrp then as_line (word ++ vrp_text vrp) else []

-- the lines of the VRPs of a list, one after the other
abbrev pub vrp_lines : Option ℕ → List ℕ → List Vrp → List ℕ
vrp_lines of word vrps = flat_map (vrp_line of word) vrps

-- the text has the lines for the table of the VRPs of a list
abbrev pub IsTableText : Option ℕ → List Vrp → List ℕ → Type 0
IsTableText of listed text = (table : List Vrp) × IsTableOf listed table × (text ≡ vrp_lines of [] table)

-- The text has the lines for the changes from one list to the next. First come the VRPs that only the table of the old
-- list has, and then those that only the table of the new list has.
pub record IsChangesText (before after : List Vrp) (text : List ℕ) : Type 0 where
  pub old_table : List Vrp
  pub new_table : List Vrp
  pub withdrawn : List Vrp
  pub announced : List Vrp
  pub old_is : IsTableOf before old_table
  pub new_is : IsTableOf after new_table
  pub withdrawn_are : IsWithout old_table new_table withdrawn
  pub announced_are : IsWithout new_table old_table announced
  pub text_is : text
      ≡ vrp_lines None (codes "withdraw ") withdrawn ++ vrp_lines None (codes "announce ") announced

-- ---- runs

-- A call that writes a text ended with `result`. `Is` says which text it is. Only a write that fails, or takes nothing,
-- sets the mark. A beginning of the text was written, all of it after Ok, and nothing else. If memory ran out, the
-- writer may also be unchanged, since the text was not made.
pub record IsWritten {W : Type 0} (mark : W → Bool) (written : W → Option (List ℕ)) (Is : List ℕ → Type 0)
    (writer writer' : W) (result : Result (Unit {0}) RunError) : Type 0 where
  pub marked : MarksWriter (mark writer) (mark writer') result
  pub wrote : (IsErrOf result Memory × (writer' ≡ writer))
      ⊎ ((text : List ℕ) × Is text × (unwritten : List ℕ)
      × HasWritten (written writer) (written writer') text unwritten × OnOk result (unwritten ≡ []))

-- the same of a call that flushes the writer after the text
pub record IsFlushed {W : Type 0} (mark : W → Bool) (written : W → Option (List ℕ)) (is_flushed : W → Bool)
    (Is : List ℕ → Type 0) (writer writer' : W) (result : Result (Unit {0}) RunError) : Type 0 where
  pub text : IsWritten mark written Is writer writer' result
  pub flushed : OnOk result (is_flushed writer' ≡ true)

-- A run that first reads files ended with `result`. `mark` says whether a call of a file has failed. `Ran` says how the
-- rest of the run ended for the VRPs that the files give, at least one. `Untouched` says that it did not begin.
abbrev pub IsInputsRun : {A : Type 0} → (ℕ → Option (List ℕ)) → Selection → Bool → Type 0
    → (List Vrp → Result (Unit {0}) RunError → Type 0) → Result (Report A) OriginsError → Type 0
IsInputsRun text selection mark Untouched Ran (Ok report) =
    (mark ≡ false) × ((vrps : List Vrp) × AreInputsRead text selection vrps report.files.items report.all
    × (report.used ≡ length vrps) × (vrps ≢ []) × Ran vrps (Ok tt))
IsInputsRun text selection mark Untouched Ran (Err (Inputs error)) =
    IsInputsError text selection mark error × Untouched
IsInputsRun text selection mark Untouched Ran (Err (Run error)) =
    (mark ≡ false) × ByInputs text selection (λ vrps. Ran vrps (Err error))

-- the VRPs of a file could not be read; an invalid file was read to its end
pub record IsRefused (file left : Option (List ℕ)) (mark : Bool) (error : ReadFileError FileFault) : Type 0 where
  pub wrong : IsFileError HasFileFault file mark error
  pub whole : (fault : FileFault) → error ≡ File fault → IsAtEnd left

-- A run that first reads an old and a new file of VRPs ended with `result`. `old_left` and `old_mark` are the ghost
-- members of the type of the old file, which was `old` before the run, and is `old'` after it. `Untouched` says that
-- nothing was written. `Ran` says how the rest of the run ended for the VRPs of both files.
module _ {O N : Type 0} (old_left : O → Option (List ℕ)) (old_mark : O → Bool) (new_left : N → Option (List ℕ))
    (new_mark : N → Bool) (old old' : O) (new new' : N) (Untouched : Type 0)
    (Ran : List Vrp → List Vrp → Result (Unit {0}) RunError → Type 0) where
  abbrev pub IsOldRead : Type 0
  IsOldRead = (old_mark old' ≡ false) × IsAtEnd (old_left old')

  abbrev pub AreBothRead : (List Vrp → List Vrp → Type 0) → Type 0
  AreBothRead P =
      IsOldRead × (new_mark new' ≡ false) × IsAtEnd (new_left new')
      × (before : List Vrp) × (after : List Vrp) × IfSome (old_left old) (λ text. IsVrpFile text before)
      × IfSome (new_left new) (λ text. IsVrpFile text after) × P before after

  abbrev pub IsChangesRun : Result (ℕ × ℕ) ChangesError → Type 0
  IsChangesRun (Ok counts) =
      AreBothRead (λ before after. (counts.0 ≡ length before) × (counts.1 ≡ length after) × Ran before after (Ok tt))
  IsChangesRun (Err (ChangesError.Old error)) =
      IsRefused (old_left old) (old_left old') (old_mark old') error × (new' ≡ new) × Untouched
  IsChangesRun (Err (ChangesError.New error)) =
      IsOldRead × IsRefused (new_left new) (new_left new') (new_mark new') error × Untouched
  IsChangesRun (Err (ChangesError.Run error)) = AreBothRead (λ before after. Ran before after (Err error))
