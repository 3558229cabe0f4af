-- A path has one result or one fault.
use Rattle.respath_lines.proofs.Common.{List, [], ap, arith, codes, inl, inr, refl, subst, sym, ℕ, ◌<◌, ◌∙◌, ◌∷◌, ◌≡◌}
use Rattle.respath_lines.proofs.Common.{◌≢◌, ◌≤◌, before_first, Claim, Holds, Runs, ArePath, HasStepFault}
use Rattle.respath_lines.proofs.Common.{HavePathFault, IsStepText, ShowsPath, list_of, parts_of, IsFirstRefusal}
use Rattle.respath_lines.proofs.Common.{IsPathResult, PathRefusal, Step, is_space, error_line, PartFault}
use Rattle.std.proofs.lemmas.Bool.{cases_lt}
use Rattle.std.proofs.lemmas.List.Elements.{All-head}
use Rattle.std.specs.Str.{trim}
use Rattle.rpki_chain.proofs.Common.{Covers-head}
use Rattle.rpki_chain.proofs.RunLists.{IsRunsOf-unique}
use Rattle.rpki_chain.specs.Runs.{IsRunsOf}
use Rattle.rpki_chain.specs.Paths.{ExceedsAt, IsLeft}
use Rattle.rpki_chain.specs.declared.path.Overclaim.{Overclaim}
use Rattle.rpki_text.proofs.TextListLemmas.{HaveValues-one, first_fault_apart, same_first_fault}
use Rattle.respath_lines.specs.Path.{IsMode, IsPathOf, part_fault_text, refusal_text, word_of}
use Rattle.respath_lines.proofs.SingleAnswers.{IsSingle, shown_once}

-- ---- one result or one first refusal

-- runs that are not empty hold a number
some_held : (S : ℕ → Type 0) (runs : Runs) → IsRunsOf S runs → runs ≢ [] → (n : ℕ) × S n
some_held S [] h some = absurd (some refl)
some_held S (run ∷ runs) h some =
    let ordered : run.0 ≤ run.1 = All-head (λ (x : ℕ × ℕ). x.0 ≤ x.1) run runs h.ordered in
    (run.0, (h.members run.0).0 (Covers-head (λ (x : ℕ × ℕ). x) run runs run.0 (omega arith, ordered)))

module _ (S : ℕ → Type 0) (steps : List (Step Claim)) where
  not_before : (q r : PathRefusal Runs) → IsFirstRefusal (λ claim. claim) S steps q
      → IsFirstRefusal (λ claim. claim) S steps r → q.step < r.step → ⊥
  not_before q r h k below =
      let (n, e) = some_held _ q.fault h.excess h.some in k.first q.step n below e

  one_place : (q r : PathRefusal Runs) → IsFirstRefusal (λ claim. claim) S steps q
      → IsFirstRefusal (λ claim. claim) S steps r → q.step ≡ r.step
  one_place q r h k = grind (arith, not_before q r h k, not_before r q k h, cases_lt)

  one_refusal : (q r : PathRefusal Runs) → IsFirstRefusal (λ claim. claim) S steps q
      → IsFirstRefusal (λ claim. claim) S steps r → q ≡ r
  one_refusal q r h k =
      let place = one_place q r h k in
      let excess = subst (λ (at : ℕ). IsRunsOf (ExceedsAt (λ claim. claim) S steps at) q.fault) place h.excess in
      let faults = IsRunsOf-unique (ExceedsAt (λ claim. claim) S steps r.step) q.fault r.fault excess k.excess in
      λ i. record { step = place i; fault = faults i }

  single_path : IsSingle (IsPathResult (λ claim. claim) S steps) (IsFirstRefusal (λ claim. claim) S steps)
  single_path = record {
    one = λ v w h k. IsRunsOf-unique (IsLeft (λ claim. claim) S steps) v w h.runs k.runs;
    apart = λ v q h k. let (n, e) = some_held _ q.fault k.excess k.some in h.accepted q.step n e;
    same = one_refusal;
  }

-- ---- the words of a step

same_step : (s t : Step Claim) → s.claim ≡ t.claim → s.mode ≡ t.mode → s ≡ t
same_step s t claims modes = λ i. record { claim = claims i; mode = modes i }

one_mode : (word : List ℕ) (m o : Overclaim) → IsMode word m → IsMode word o → m ≡ o
one_mode word m o h k = grind arith

module _ (part : List ℕ) where
  -- `inherit` and `missing` are no modes
  mode_no_inherit : (mode : Overclaim) → IsMode (word_of part) mode → trim part ≡ codes "inherit" → ⊥
  mode_no_inherit mode is e = grind (arith, ap (before_first is_space) e)

  mode_no_missing : (mode : Overclaim) → IsMode (word_of part) mode → trim part ≡ codes "missing" → ⊥
  mode_no_missing mode is e = grind (arith, ap (before_first is_space) e)

-- ---- parts, where each list has one set or one fault

module _ {E : Type 0} {Writes : List ℕ → Runs → Type 0} {Fails : List ℕ → E → Type 0}
    (single : (list : List ℕ) → IsSingle (Writes list) (Fails list)) where
  one_step : (part : List ℕ) (s t : Step Claim) → IsStepText (λ claim. claim) Writes part s
      → IsStepText (λ claim. claim) Writes part t → s ≡ t
  one_step part s t h k =
      grind (arith, one_mode, mode_no_inherit part, mode_no_missing part, same_step, (single (list_of part)).one)

  step_apart : (part : List ℕ) (s : Step Claim) (e : PartFault E) → IsStepText (λ claim. claim) Writes part s
      → HasStepFault Fails part e → ⊥
  step_apart part s e h f =
      grind (arith, mode_no_inherit part, mode_no_missing part, (single (list_of part)).apart)

  same_step_fault : (part : List ℕ) (d e : PartFault E) → HasStepFault Fails part d → HasStepFault Fails part e → d ≡ e
  same_step_fault part d e f g = grind (arith, (single (list_of part)).same)

  -- ---- whole paths

  one_root : (parts : List (List ℕ)) (x y : Runs) (ss ts : List (Step Claim))
      → ArePath (λ claim. claim) Writes parts x ss → ArePath (λ claim. claim) Writes parts y ts
      → (x ≡ y) × (ss ≡ ts)
  one_root [] x y ss ts h k = absurd h
  one_root (list ∷ parts) x y ss ts h k =
      ((single list).one x y h.0 k.0, HaveValues-one _ one_step parts ss ts h.1 k.1)

  path_apart : (parts : List (List ℕ)) (root : Runs) (ss : List (Step Claim)) (e : PartFault E)
      → ArePath (λ claim. claim) Writes parts root ss → HavePathFault Fails (λ (claim : Claim). claim) Writes parts e
      → ⊥
  path_apart [] root ss e h f = absurd h
  path_apart (list ∷ parts) root ss e h (inl f) = grind (arith, (single list).apart)
  path_apart (list ∷ parts) root ss e h (inr f) =
      first_fault_apart (IsStepText (λ claim. claim) Writes) (HasStepFault Fails) step_apart parts ss e h.1 f.2

  same_path_fault : (parts : List (List ℕ)) (d e : PartFault E)
      → HavePathFault Fails (λ (claim : Claim). claim) Writes parts d
      → HavePathFault Fails (λ (claim : Claim). claim) Writes parts e → d ≡ e
  same_path_fault [] d e f g = absurd f
  same_path_fault (list ∷ parts) d e f g =
      grind (
        arith,
        (single list).apart,
        (single list).same,
        same_first_fault (IsStepText (λ claim. claim) Writes) (HasStepFault Fails) step_apart same_step_fault parts,
      )

  pub path_once : (list_text excess_text : Runs → List ℕ) (error_text : E → List ℕ) (path a b : List ℕ)
      → IsPathOf Writes list_text excess_text Fails error_text path a
      → IsPathOf Writes list_text excess_text Fails error_text path b → a ≡ b
  path_once list_text excess_text error_text path a b (inl (x, ss, h, shows)) (inl (y, ts, k, also)) =
      let one = one_root (parts_of path) x y ss ts h k in
      let same : ShowsPath list_text excess_text x ss b = rw (one.0, one.1) also in
      shown_once (single_path (Holds x) ss) list_text (refusal_text excess_text) a b shows same
  path_once list_text excess_text error_text path a b (inl (x, ss, h, shows)) (inr (e, f, also)) =
      absurd (path_apart (parts_of path) x ss e h f)
  path_once list_text excess_text error_text path a b (inr (d, f, is)) (inl (y, ts, k, also)) =
      absurd (path_apart (parts_of path) y ts d k f)
  path_once list_text excess_text error_text path a b (inr (d, f, is)) (inr (e, g, also)) =
      is ∙ ap (λ (x : PartFault E). error_line (part_fault_text error_text x)) (same_path_fault (parts_of path) d e f g)
      ∙ sym also
