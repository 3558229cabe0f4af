-- What a call that reads a whole file returns and leaves.
use Rattle.std.specs.Prelude.{◌≡◌, ℕ, Bool, true, false, List, Option, Some, IfErr, IfOk, IfSome}
use Rattle.std.specs.Prelude.{OnOk, IsErrOf, Result, codes}
use Rattle.std.specs.Io.KnownBytes.{IsAtEnd}
use Rattle.origins_lines.specs.declared.error.ReadFileError.{ReadFileError}
use Rattle.origins_lines.specs.declared.error.ReadFileError.TheVariants.{Read, File, Memory}

-- Why a file could not be read: a read failed, the file has this fault, or an allocation failed. `mark` says whether a
-- read failed, and `file` has the bytes of the file, if they are known.
abbrev pub IsFileError : {F : Type 0} → (List ℕ → F → Type 0) → Option (List ℕ) → Bool → ReadFileError F → Type 0
IsFileError Has file mark Read = mark ≡ true
IsFileError Has file mark (File fault) = (mark ≡ false) × IfSome file (λ text. Has text fault)
IsFileError Has file mark Memory = mark ≡ false

-- The result of a call that reads a whole file. `Is` says which values a file gives, and `Has` which faults a text has.
-- `left` has the bytes that are left to read. A file was read to its end if the result is a value or a fault.
pub record IsFileRead {V F : Type 0} (Is : Option (List ℕ) → V → Type 0) (Has : List ℕ → F → Type 0)
    (file left : Option (List ℕ)) (mark : Bool) (result : Result V (ReadFileError F)) : Type 0 where
  pub unmarked : OnOk result (mark ≡ false)
  pub read_whole : OnOk result (IsAtEnd left)
  pub found : IfOk result (Is file)
  pub wrong : IfErr result (IsFileError Has file mark)
  pub wrong_whole : (fault : F) → IsErrOf result (File fault) → IsAtEnd left

-- P holds of the text that was read, which is that of the file if the file's text is known
abbrev pub OfText : (List ℕ → Type 0) → Option (List ℕ) → Type 0
OfText P file = (text : List ℕ) × IfSome file (λ bytes. text ≡ bytes) × P text

-- the printed text: the text of the fault, if it is known, or a text of its own
abbrev pub file_error_text : {F : Type 0} → (F → Option (List ℕ)) → ReadFileError F → Option (List ℕ)
file_error_text text Read = Some (codes "read failed")
file_error_text text (File fault) = text fault
file_error_text text Memory = Some (codes "out of memory")
