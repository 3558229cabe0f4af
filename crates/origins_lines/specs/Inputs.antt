-- What a run reads: files of VRPs, one after another, and the local exceptions of a SLURM file. `text` has the bytes of
-- the file at each index, if they are known.
use Rattle.std.specs.Prelude.{◌≡◌, ◌⊎◌, ◌++◌, ◌<◌, ◌-◌, ◌^◌, ℕ, Bool, true, false, List, [], Option, None, Some, IfSome}
use Rattle.std.specs.Prelude.{length, map, min, slice_get}
use Rattle.std.specs.List.{flat_map, sum_by}
use Rattle.roa_origin.specs.Vrps.{Vrp}
use Rattle.roa_vrps.specs.Files.{HasFileFault, IsVrpFile}
use Rattle.roa_vrps.specs.ExpiryFiles.{HasExpiryFault, IsUnexpiredFile}
use Rattle.roa_vrps.specs.declared.fault.ExpiryFault.{ExpiryFault}
use Rattle.roa_vrps.specs.declared.expiry.UnexpiredVrps.{UnexpiredVrps}
use Rattle.roa_slurm.specs.Applied.{IsApplied}
use Rattle.roa_slurm.specs.SlurmFiles.{HasSlurmFault, IsSlurmFile, SlurmValue}
use Rattle.origins_lines.specs.declared.error.InputsError.{InputsError}
use Rattle.origins_lines.specs.FileResult.{IsFileError}
use Rattle.origins_lines.specs.declared.file.Numbers.{Numbers}
use Rattle.origins_lines.specs.declared.inputs.Selection.{Selection}

-- what a file gives: VRPs, and the number of those that have expired and were left out
pub record FilePart : Type 0 where
  pub vrps : List Vrp
  pub expired : ℕ

-- the VRPs that were read, as a part
abbrev pub part_of : {A : Type 0} → UnexpiredVrps A → FilePart
part_of read = record { vrps = read.vrps.items; expired = read.expired }

-- the part is what a file gives: all its VRPs, or those that have not expired at the time that is passed
abbrev pub IsPartOf : Option ℕ → Option (List ℕ) → FilePart → Type 0
IsPartOf None file part = IfSome file (λ text. IsVrpFile text part.vrps) × (part.expired ≡ 0)
IsPartOf (Some time) file part = IfSome file (λ text. IsUnexpiredFile text time part.vrps part.expired)

-- the numbers of a part
abbrev pub part_numbers : FilePart → Numbers
part_numbers part = record { unexpired = length part.vrps; expired = part.expired }

-- the part follows the old list in the new one, and these are its numbers
abbrev pub AppendsPart : Option ℕ → Option (List ℕ) → List Vrp → List Vrp → Numbers → Type 0
AppendsPart time file old new numbers =
    (part : FilePart) × IsPartOf time file part × (numbers ≡ part_numbers part) × (new ≡ old ++ part.vrps)

-- The first `count` files were read. `listed` has what they give, in the order of the files, and `files` has the
-- numbers of each file. `expired` is the number of all expired VRPs, or usize::MAX if it is greater.
pub record AreFilesRead (text : ℕ → Option (List ℕ)) (time : Option ℕ) (count : ℕ) (listed : List Vrp)
    (files : List Numbers) (expired : ℕ) : Type 0 where
  pub parts : List FilePart
  pub one_each : length parts ≡ count
  pub parts_are : (k : ℕ) (part : FilePart) → slice_get parts k ≡ Some part → IsPartOf time (text k) part
  pub listed_are : listed ≡ flat_map (λ part. part.vrps) parts
  pub files_are : files ≡ map part_numbers parts
  pub expired_are : expired ≡ min (sum_by (λ part. part.expired) parts) (2 ^ 64 - 1)

-- each of the first `count` files was read, and is valid
abbrev pub AreValidBefore : (ℕ → Option (List ℕ)) → Option ℕ → ℕ → Type 0
AreValidBefore text time count =
    (listed : List Vrp) × (files : List Numbers) × (expired : ℕ) × AreFilesRead text time count listed files expired

-- the VRPs after the local exceptions of the SLURM file, if one is passed, and otherwise the same VRPs
abbrev pub IsAppliedIf : (ℕ → Option (List ℕ)) → Option ℕ → List Vrp → List Vrp → Type 0
IsAppliedIf text None before after = after ≡ before
IsAppliedIf text (Some index) before after =
    (slurm : SlurmValue) × IfSome (text index) (λ file. IsSlurmFile file slurm)
    × IsApplied slurm.filters slurm.assertions before after

-- All files were read. `vrps` has what they give, in the order of the files, after the local exceptions. `files` has
-- the numbers of each file, and `all` those of all files.
pub record AreInputsRead (text : ℕ → Option (List ℕ)) (selection : Selection) (vrps : List Vrp) (files : List Numbers)
    (all : Numbers) : Type 0 where
  pub listed : List Vrp
  pub read : AreFilesRead text selection.time selection.files listed files all.expired
  pub unexpired_are : all.unexpired ≡ length listed
  pub applied : IsAppliedIf text selection.slurm listed vrps

-- all files were read, and P holds for the VRPs that they give after the local exceptions
abbrev pub ByInputs : (ℕ → Option (List ℕ)) → Selection → (List Vrp → Type 0) → Type 0
ByInputs text selection P =
    (vrps : List Vrp) × (files : List Numbers) × (all : Numbers) × AreInputsRead text selection vrps files all × P vrps

-- the turn of the file at an index had come: the files before it are valid
abbrev pub IsTurnOf : (ℕ → Option (List ℕ)) → Selection → ℕ → Type 0
IsTurnOf text selection index =
    ((index < selection.files) × AreValidBefore text selection.time index)
    ⊎ ((selection.slurm ≡ Some index) × AreValidBefore text selection.time selection.files)

-- the first fault of a file of VRPs; an invalid expiry is one if a time is passed
abbrev pub HasFaultAt : Option ℕ → List ℕ → ExpiryFault → Type 0
HasFaultAt None file (ExpiryFault.File fault) = HasFileFault file fault
HasFaultAt None file (ExpiryFault.Line number) = ⊥
HasFaultAt None file (ExpiryFault.Item number fault) = ⊥
HasFaultAt (Some time) file fault = HasExpiryFault file fault

-- why the files give no VRPs, and which files are valid
abbrev pub IsInputsError : (ℕ → Option (List ℕ)) → Selection → Bool → InputsError → Type 0
IsInputsError text selection mark (InputsError.NotOpened index) = (mark ≡ true) × IsTurnOf text selection index
IsInputsError text selection mark (InputsError.File index error) =
    (index < selection.files) × AreValidBefore text selection.time index
    × IsFileError (HasFaultAt selection.time) (text index) mark error
IsInputsError text selection mark (InputsError.Slurm index error) =
    (selection.slurm ≡ Some index) × AreValidBefore text selection.time selection.files
    × IsFileError HasSlurmFault (text index) mark error
IsInputsError text selection mark (InputsError.NoVrpLeft all) =
    (mark ≡ false) × ((files : List Numbers) × AreInputsRead text selection [] files all)
IsInputsError text selection mark InputsError.Memory = mark ≡ false
