-- Where an answer has its state: by its outcome, and by its line.
use Rattle.origins_lines.proofs.Common.{Bool, List, Some, arith, inl, inr, refl, subst, ℕ, ◌++◌, ◌↔◌, IsFaultInitial}
use Rattle.origins_lines.proofs.Common.{IsAnswerIn, IsFaultAnswer, IsOutcomeOf, IsRouteLine, Form}
use Rattle.origins_lines.proofs.Common.{IsSkippedLine, None, Outcome, Route, Vrp, asked_asn, FamilyPrefix, skipped_text}
use Rattle.std.specs.Prelude.{slice_index_or}
use Rattle.std.proofs.lemmas.Option.{none-some, same_Some}
use Rattle.roa_origin.specs.Validities.{IsValidity}
use Rattle.roa_origin.specs.declared.validation.Validity.TheVariants as Validity
use Rattle.roa_origin.proofs.ChangedRoutes.{one_validity}
use Rattle.origins_lines.specs.Answers.{answer_end, answer_head}
use Rattle.origins_lines.specs.Checks.{IsFaultyLine}
use Rattle.origins_lines.specs.declared.explanation.Form.TheVariants.{Json, Words}
use Rattle.origins_lines.specs.declared.outcome.Outcome.TheVariants.{InvalidAs, InvalidLength, NotFound, Valid}
use Rattle.roa_routes.specs.declared.fault.RouteFault.{RouteFault}
use Rattle.roa_routes.proofs.RouteLineLemmas.{route_decided}

-- the outcome is that of an invalid route
abbrev IsInvalid : Outcome → Type 0
IsInvalid Valid = ⊥
IsInvalid InvalidLength = Unit {0}
IsInvalid InvalidAs = Unit {0}
IsInvalid NotFound = ⊥

-- the index of the state's first byte
abbrev pub state_place : Form → ℕ
state_place Words = 0
state_place Json = 10

-- the byte of an answer at its place, by what the line gives
head_state : (form : Form) (outcome : Outcome) (route : Route) (more end : List ℕ)
    → IsFaultInitial (slice_index_or (answer_head form outcome route ++ more ++ end) (state_place form) 0)
    ↔ IsInvalid outcome
head_state Words Valid route more end = grind (arith)
head_state Words InvalidLength route more end = grind (arith)
head_state Words InvalidAs route more end = grind (arith)
head_state Words NotFound route more end = grind (arith)
head_state Json Valid route more end = grind (arith)
head_state Json InvalidLength route more end = grind (arith)
head_state Json InvalidAs route more end = grind (arith)
head_state Json NotFound route more end = grind (arith)

skipped_state : (form : Form) → ¬ IsFaultInitial (slice_index_or (skipped_text form) (state_place form) 0)
skipped_state Words h = grind (arith)
skipped_state Json h = grind (arith)

fault_state : (form : Form) (fault : RouteFault) (line text : List ℕ) → IsFaultAnswer form fault line text
    → IsFaultInitial (slice_index_or text (state_place form) 0)
fault_state Words fault line text whole = rw whole (inr refl)
fault_state Json fault line text (value, is, whole) = rw whole (inr refl)

module _ (vrps : List Vrp) (route : FamilyPrefix) (asn : ℕ) where
  invalid_by : (outcome : Outcome) → IsOutcomeOf route asn vrps outcome
      → IsValidity route asn vrps Validity.Invalid ↔ IsInvalid outcome
  invalid_by Valid is = (λ h. cc (one_validity route asn vrps Validity.Valid Validity.Invalid is h), λ h. absurd h)
  invalid_by InvalidLength is = (λ h. tt, λ h. is.0)
  invalid_by InvalidAs is = (λ h. tt, λ h. is.0)
  invalid_by NotFound is =
      (λ h. cc (one_validity route asn vrps Validity.NotFound Validity.Invalid is h), λ h. absurd h)

module _ (vrps : List Vrp) (line : List ℕ) where
  -- the line of a route, by the outcome for it
  route_faulty : (route : Route) → IsRouteLine line route → (outcome : Outcome)
      → IsOutcomeOf route.prefix (asked_asn route.origin) vrps outcome → IsFaultyLine vrps line ↔ IsInvalid outcome
  route_faulty route is outcome is_outcome =
      let decided = route_decided line in
      let state = invalid_by vrps route.prefix (asked_asn route.origin) outcome is_outcome in (
        λ h. elim h [
          | inl (other, other_is, invalid) ↦ state.0
              (subst (λ (r : Route). IsValidity r.prefix (asked_asn r.origin) vrps Validity.Invalid)
              (same_Some other route (decided.one (Some other) (Some route) other_is is)) invalid)
          | inr (fault, has) ↦ absurd (decided.apart (Some route) fault is has)
        ],
        λ invalid. inl (route, is, state.1 invalid),
      )

  -- a line that announces no route
  skipped_sound : IsSkippedLine line → ¬ IsFaultyLine vrps line
  skipped_sound skipped h =
      let decided = route_decided line in
      elim h [
        | inl (other, other_is, invalid) ↦ none-some other (decided.one None (Some other) skipped other_is)
        | inr (fault, has) ↦ decided.apart None fault skipped has
      ]

  pub answer_faulty : (form : Form) (why : Bool) (text : List ℕ) → IsAnswerIn form why vrps line text
      → IsFaultInitial (slice_index_or text (state_place form) 0) ↔ IsFaultyLine vrps line
  answer_faulty form why text (inl (route, is, (outcome, is_outcome, more, explained, whole))) =
      let state = head_state form outcome route more (answer_end form) in
      let faulty = route_faulty route is outcome is_outcome in
      rw whole (λ h. faulty.1 (state.0 h), λ h. state.1 (faulty.0 h))
  answer_faulty form why text (inr (inl (skipped, whole))) =
      rw whole (λ h. absurd (skipped_state form h), λ h. absurd (skipped_sound skipped h))
  answer_faulty form why text (inr (inr (fault, has, is))) =
      (λ h. inr (fault, has), λ h. fault_state form fault line text is)
