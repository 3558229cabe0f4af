-- The parts of a path, and what is read of them.
use Rattle.respath_lines.proofs.Common.{List, Result, [], ap, arith, drop, eqb, get_or, length, sym, take, ℕ, ◌++◌, ◌+◌}
use Rattle.respath_lines.proofs.Common.{◌<◌, ◌∙◌, ◌∷◌, ◌≡◌, after_first, before_first, position_or_len, Claim, Holds}
use Rattle.respath_lines.proofs.Common.{Runs, HasFirstFault, HaveValues, IfRefused, AnswersOrMemory, OrMemory, Memory}
use Rattle.respath_lines.proofs.Common.{Refused, HasRootFault, HasStepFault, HavePathFault, IsStepText, ShowsLeft}
use Rattle.respath_lines.proofs.Common.{ShowsPath, parts_of, IsPathResult, IsFirstRefusal, PathRefusal, Step, PartFault}
use Rattle.std.proofs.lemmas.List.Splits.{slice_split_none, slice_split_first}
use Rattle.std.proofs.lemmas.List.Sums.{fails_before_first}
use Rattle.rpki_text.proofs.TextListLemmas.{parts_at}

-- a text without a bar is one part
pub one_part : (text : List ℕ) → position_or_len (λ b. eqb b 124) text ≡ length text → parts_of text ≡ text ∷ []
one_part text none =
    slice_split_none (λ b. eqb b 124) text
    (λ k d below. fails_before_first (λ b. eqb b 124) text k d (omega (arith, none)))

-- and else its first part ends at the first bar
pub first_part : (text list rest : List ℕ)
    → (list ≡ before_first (λ b. eqb b 124) text) × (rest ≡ after_first (λ b. eqb b 124) text)
    × (position_or_len (λ b. eqb b 124) text < length text) → parts_of text ≡ list ∷ parts_of rest
first_part text list rest (front, back, some) =
    slice_split_first (λ b. eqb b 124) text 0 some ∙ (λ i. sym front i ∷ parts_of (sym back i))

module _ {A : Type 0} (Has : List ℕ → A → Type 0) where
  -- a part is the first that is refused, where the parts before it are read
  pub first_refused : {E : Type 0} (Fails : List ℕ → E → Type 0) (parts : List (List ℕ)) (at : ℕ) (part : List ℕ)
      (values : List A) (refusal : OrMemory E) → (at < length parts) × (part ≡ get_or parts at part)
      → HaveValues Has (take at parts) values → IfRefused (Fails part) refusal
      → IfRefused (HasFirstFault Has Fails parts) refusal
  first_refused Fails parts at part values (Refused fault) here before fails = record {
    front = take at parts;
    bad = part;
    rest = drop (at + 1) parts;
    split = parts_at parts at part here.0 ∙ ap (λ p. take at parts ++ p ∷ drop (at + 1) parts) (sym here.1);
    values = values;
    before = before;
    fault = fails;
  }
  first_refused Fails parts at part values (Memory error) here before fails = tt

module _ {R E : Type 0} (claim : R → Claim) (Writes : List ℕ → Runs → Type 0) (Fails : List ℕ → E → Type 0)
    (parts : List (List ℕ)) (list : List ℕ) (others : List (List ℕ)) (are : parts ≡ list ∷ others) where
  -- the first part of a path is refused
  pub refused_root : (refusal : OrMemory (PartFault E)) → IfRefused (HasRootFault Fails list) refusal
      → IfRefused (HavePathFault Fails claim Writes parts) refusal
  refused_root refusal fails = grind (arith)

  -- or a later one, where the first one is read
  pub refused_step : (root : Runs) → Writes list root → (refusal : OrMemory (PartFault E))
      → IfRefused (HasFirstFault (IsStepText claim Writes) (HasStepFault Fails) others) refusal
      → IfRefused (HavePathFault Fails claim Writes parts) refusal
  refused_step root writes refusal fails = grind (arith)

-- ---- what is told of what a path leaves

-- is what it leaves of the root, or its first refusal
pub shows_path : (list_text excess_text : Runs → List ℕ) (root : Runs) (steps : List (Step Claim))
    (left : Result Runs (OrMemory (PathRefusal Runs)))
    → AnswersOrMemory (λ set. set) (IsPathResult (λ claim. claim) (Holds root) steps)
    (IsFirstRefusal (λ claim. claim) (Holds root) steps) left → (text : List ℕ)
    → ShowsLeft list_text excess_text left text → ShowsPath list_text excess_text root steps text
shows_path list_text excess_text root steps left is text shows = grind (arith)
