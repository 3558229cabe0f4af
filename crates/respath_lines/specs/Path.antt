-- The answer to `path`: the resources that remain of the first list after all steps, the first refused step, or the
-- fault of the first invalid part of the path.
use Rattle.std.specs.Prelude.{◌≡◌, ◌≢◌, ◌⊎◌, ℕ, ◌==◌, List, [], ◌∷◌, Some, Result, Ok, Err, codes, unwrap_or}
use Rattle.std.specs.List.{slice_split, before_first, after_first}
use Rattle.std.specs.Str.{trim}
use Rattle.rpki_text.specs.Lists.{HaveValues, HasFirstFault}
use Rattle.rpki_text.specs.declared.memory.OrMemory.{OrMemory}
use Rattle.rpki_text.specs.declared.memory.OrMemory.TheVariants.{Refused, Memory}
use Rattle.rpki_chain.specs.Claims.{Claim, claim_of}
use Rattle.rpki_chain.specs.Paths.{IsPathResult, IsFirstRefusal, path_refusal_text}
use Rattle.rpki_chain.specs.Runs.{Runs, Holds}
use Rattle.rpki_chain.specs.declared.choice.ResourcesChoice.TheVariants.{Missing, Inherit}
use Rattle.rpki_chain.specs.declared.path.Overclaim.{Overclaim}
use Rattle.rpki_chain.specs.declared.path.Overclaim.TheVariants.{Refuse, Trim}
use Rattle.rpki_chain.specs.declared.path.PathRefusal.{PathRefusal}
use Rattle.rpki_chain.specs.declared.path.Step.{Step}
use Rattle.rpki_as.specs.Faults as AsFaults
use Rattle.rpki_as_block.specs.Faults as AsBlockFaults
use Rattle.rpki_as.specs.ListText.{IsAsListText, HasAsListFault, as_list_text}
use Rattle.rpki_ip.specs.Faults as IpFaults
use Rattle.rpki_der.specs.declared.family.AddressFamily.{AddressFamily}
use Rattle.rpki_ip_block.specs.ListText.{HasBlocks, HasBlocksFault}
use Rattle.rpki_ipres.specs.SetText as IpTexts
use Rattle.rpki_ipres.specs.SetText.{IsSetOf, set_text}
use Rattle.rpki_text.specs.Cuts.{is_space}
use Rattle.respath_lines.specs.Kinds.{IsByKind}
use Rattle.respath_lines.specs.Shown.{error_line}
use Rattle.respath_lines.specs.declared.steps.PartFault.{PartFault}
use Rattle.respath_lines.specs.declared.steps.PartFault.TheVariants.{BadList, UnknownStep}

-- the parts of a path, which `|` separates
abbrev pub parts_of : List ℕ → List (List ℕ)
parts_of text = slice_split (λ byte. byte == 124) text

-- the text of a part up to its first space, without white space at its ends
abbrev pub word_of : List ℕ → List ℕ
word_of part = before_first is_space (trim part)

-- the text of a part after its first space, without white space at its end
abbrev pub list_of : List ℕ → List ℕ
list_of part = after_first is_space (trim part)

-- the word is the name of the mode, which says what happens to overclaimed resources
abbrev pub IsMode : List ℕ → Overclaim → Type 0
IsMode word Refuse = word ≡ codes "refuse"
IsMode word Trim = word ≡ codes "trim"

-- the part is not a step: it is neither `inherit` nor `missing`, and its first word is not a mode
pub record IsNoStep (part : List ℕ) : Type 0 where
  pub no_inherit : trim part ≢ codes "inherit"
  pub no_missing : trim part ≢ codes "missing"
  pub no_refuse : word_of part ≢ codes "refuse"
  pub no_trim : word_of part ≢ codes "trim"

-- ---- the parts of a path; `Writes` says which set a list denotes, and `Fails` which fault it has

module _ {R : Type 0} (claim : R → Claim) (Writes : List ℕ → Runs → Type 0) where
  -- The part is a step. It is `inherit` or `missing` alone, and then its mode is `refuse`, which has no effect. Or it
  -- is a mode and the list of the claimed resources, which is empty for a missing claim.
  abbrev pub IsStepText : List ℕ → Step R → Type 0
  IsStepText part step =
      ((trim part ≡ codes "inherit") × (claim step.claim ≡ Inherit) × (step.mode ≡ Refuse))
      ⊎ ((trim part ≡ codes "missing") × (claim step.claim ≡ Missing) × (step.mode ≡ Refuse))
      ⊎ (IsMode (word_of part) step.mode × (set : Runs) × Writes (list_of part) set × (claim step.claim ≡ claim_of set))

  -- the first part is the first list, and the others are the steps
  abbrev pub ArePath : List (List ℕ) → Runs → List (Step R) → Type 0
  ArePath [] root steps = ⊥
  ArePath (list ∷ parts) root steps = Writes list root × HaveValues IsStepText parts steps

module _ {E : Type 0} (Fails : List ℕ → E → Type 0) where
  -- the fault of a part as the first list
  abbrev pub HasRootFault : List ℕ → PartFault E → Type 0
  HasRootFault part UnknownStep = ⊥
  HasRootFault part (BadList fault) = Fails part fault

  -- the fault of a part as a step
  abbrev pub HasStepFault : List ℕ → PartFault E → Type 0
  HasStepFault part UnknownStep = IsNoStep part
  HasStepFault part (BadList fault) = (mode : Overclaim) × IsMode (word_of part) mode × Fails (list_of part) fault

  -- the fault of the first invalid part of a path
  module _ {R : Type 0} (claim : R → Claim) (Writes : List ℕ → Runs → Type 0) where
    abbrev pub HavePathFault : List (List ℕ) → PartFault E → Type 0
    HavePathFault [] fault = ⊥
    HavePathFault (list ∷ parts) fault =
        HasRootFault list fault
        ⊎ ((root : Runs) × Writes list root × HasFirstFault (IsStepText claim Writes) HasStepFault parts fault)

-- ---- texts

-- the text printed for the fault of a part
abbrev pub part_fault_text : {E : Type 0} → (E → List ℕ) → PartFault E → List ℕ
part_fault_text fault_text UnknownStep = codes "unknown step"
part_fault_text fault_text (BadList fault) = fault_text fault

-- the text printed for a refusal whose fault has this text
abbrev pub refusal_text : {F : Type 0} → (F → List ℕ) → PathRefusal F → List ℕ
refusal_text excess_text refusal = unwrap_or (path_refusal_text (λ fault. Some (excess_text fault)) refusal) []

-- the text is that of the resources that remain after a path, or that of a refusal; an out-of-memory error has no text
abbrev pub ShowsLeft : {S F : Type 0} → (S → List ℕ) → (F → List ℕ) → Result S (OrMemory (PathRefusal F)) → List ℕ
    → Type 0
ShowsLeft list_text excess_text (Ok set) text = text ≡ list_text set
ShowsLeft list_text excess_text (Err (Refused refusal)) text = text ≡ refusal_text excess_text refusal
ShowsLeft list_text excess_text (Err (Memory error)) text = ⊥

-- the text is that of the resources that remain of the first list after a path, or that of its first refusal
abbrev pub ShowsPath : (Runs → List ℕ) → (Runs → List ℕ) → Runs → List (Step Claim) → List ℕ → Type 0
ShowsPath list_text excess_text root steps text =
    ((left : Runs) × IsPathResult (λ claim. claim) (Holds root) steps left × (text ≡ list_text left))
    ⊎ ((refusal : PathRefusal Runs) × IsFirstRefusal (λ claim. claim) (Holds root) steps refusal
    × (text ≡ refusal_text excess_text refusal))

-- ---- the answer

-- the text is the answer to a path of lists, which denote sets by `Writes` and have faults by `Fails`
abbrev pub IsPathOf : {E : Type 0} → (List ℕ → Runs → Type 0) → (Runs → List ℕ) → (Runs → List ℕ)
    → (List ℕ → E → Type 0) → (E → List ℕ) → List ℕ → List ℕ → Type 0
IsPathOf {E} Writes list_text excess_text Fails fault_text path text =
    ((root : Runs) × (steps : List (Step Claim)) × ArePath (λ claim. claim) Writes (parts_of path) root steps
    × ShowsPath list_text excess_text root steps text)
    ⊎ ((fault : PartFault E) × HavePathFault Fails (λ (claim : Claim). claim) Writes (parts_of path) fault
    × (text ≡ error_line (part_fault_text fault_text fault)))

-- the text is the answer to `path` for AS numbers
abbrev pub IsPathAs : List ℕ → List ℕ → Type 0
IsPathAs =
    IsPathOf IsAsListText as_list_text AsFaults.overclaimed_as_text HasAsListFault AsBlockFaults.as_from_str_error_text

-- the text is the answer to `path` for addresses of a family
abbrev pub IsPathIp : AddressFamily → List ℕ → List ℕ → Type 0
IsPathIp family =
    IsPathOf (λ list. IsSetOf (HasBlocks family list)) (set_text family) (IpTexts.overclaimed_ip_text family)
    (HasBlocksFault family) IpFaults.ip_from_str_error_text

-- the text is the answer to `path` for resources of this kind
abbrev pub IsPathAnswer : List ℕ → List ℕ → List ℕ → Type 0
IsPathAnswer kind path = IsByKind (IsPathAs path) (λ family. IsPathIp family path) kind
