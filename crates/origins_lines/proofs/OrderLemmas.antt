-- Lemmas on the answer to a line. A line has at most one answer. The order of the VRPs does not change the answer.
use Rattle.origins_lines.proofs.Common.{Bool, List, None, Some, [], arith, false, inl, inr, sym, true, ℕ, ◌∙◌, ◌∷◌, ◌⊎◌}
use Rattle.origins_lines.proofs.Common.{◌≡◌, Contains-permutation, IsPermutation-map, IsPermutation-sym, IsPermutation}
use Rattle.origins_lines.proofs.Common.{Vrp, as_sent, FamilyPrefix, IsAnswerIn, IsExplanationIf, IsRouteAnswer}
use Rattle.origins_lines.proofs.Common.{IsExplanation, IsExplanationText, Form, IsFaultAnswer, IsLineValue, IsReason}
use Rattle.origins_lines.proofs.Common.{IsExplainedBefore, AreReasonTexts, IsOutcomeOf, asked_asn, Option, Reason}
use Rattle.origins_lines.proofs.Common.{Outcome, Route, skipped_text}
use Rattle.std.proofs.lemmas.Option.{none-some, same_Some}
use Rattle.roa_origin.specs.declared.validation.Validity.TheVariants as Validities
use Rattle.roa_origin.proofs.SortedSearch.{any_moved}
use Rattle.roa_origin.proofs.ListMembers.{same_list}
use Rattle.roa_origin.proofs.ChangedRoutes.{one_validity}
use Rattle.roa_origin.proofs.ValidityScans.{same_validity}
use Rattle.origins_lines.specs.declared.explanation.Form.TheVariants.{Json, Words}
use Rattle.roa_routes.specs.declared.fault.RouteFault.{RouteFault}
use Rattle.origins_lines.specs.declared.outcome.Outcome.TheVariants.{InvalidAs}
use Rattle.roa_routes.proofs.RouteLineLemmas.{IsDecided, route_decided}
use Rattle.origins_lines.proofs.WhyLemmas.{not_back}

-- ---- VRPs in another order

outcome_moved : (route : FamilyPrefix) (asn : ℕ) (vrps others : List Vrp) (outcome : Outcome)
    → IsPermutation vrps others → IsOutcomeOf route asn vrps outcome → IsOutcomeOf route asn others outcome
outcome_moved route asn vrps others InvalidAs moved (h, free) =
    search (arith, IsPermutation-sym, any_moved, same_validity)
outcome_moved route asn vrps others outcome moved h = search (arith, any_moved, same_validity)

explanation_moved : (route : FamilyPrefix) (vrps others explained : List Vrp) → IsPermutation vrps others
    → IsExplanation route vrps explained → IsExplanation route others explained
explanation_moved route vrps others explained moved h =
    let sent = IsPermutation-map as_sent vrps others moved in
    let back = IsPermutation-sym _ _ sent in
    record {
      ordered = h.ordered;
      members = λ p. grind (arith, h.members p, Contains-permutation _ _ p sent, Contains-permutation _ _ p back);
    }

explanation_text_moved : (form : Form) (vrps others : List Vrp) (route : FamilyPrefix) (asn : ℕ) (text : List ℕ)
    → IsPermutation vrps others → IsExplanationText form route asn vrps text
    → IsExplanationText form route asn others text
explanation_text_moved form vrps others route asn text moved (explained, is, each) =
    (explained, explanation_moved route vrps others explained moved is, each)

explanation_if_moved : (form : Form) (why : Bool) (vrps others : List Vrp) (route : Route) (text : List ℕ)
    → IsPermutation vrps others → IsExplanationIf form why vrps route text → IsExplanationIf form why others route text
explanation_if_moved form false vrps others route text moved h = h
explanation_if_moved Words true vrps others route text moved h =
    explanation_text_moved Words vrps others route.prefix (asked_asn route.origin) text moved h
explanation_if_moved Json true vrps others route text moved (items, explains, whole) =
    (items, explanation_text_moved Json vrps others route.prefix (asked_asn route.origin) items moved explains, whole)

pub any_order : (form : Form) (why : Bool) (vrps others : List Vrp) (line text : List ℕ) → IsPermutation vrps others
    → IsAnswerIn form why vrps line text → IsAnswerIn form why others line text
any_order form why vrps others line text moved (inl (route, is, (outcome, is_outcome, more, explains, whole))) =
    let same = outcome_moved route.prefix (asked_asn route.origin) vrps others outcome moved is_outcome in
    inl (route, is, (outcome, same, more, explanation_if_moved form why vrps others route more moved explains, whole))
any_order form why vrps others line text moved (inr other) = inr other

-- ---- one answer alone

outcome_one : (route : FamilyPrefix) (asn : ℕ) (xs : List Vrp) (a b : Outcome) → IsOutcomeOf route asn xs a
    → IsOutcomeOf route asn xs b → a ≡ b
outcome_one route asn xs a b h k =
    grind (
      arith,
      one_validity route asn xs Validities.Valid Validities.Invalid,
      one_validity route asn xs Validities.Valid Validities.NotFound,
      one_validity route asn xs Validities.Invalid Validities.NotFound,
    )

explained_one : (route : FamilyPrefix) (vrps explained other : List Vrp) → IsExplanation route vrps explained
    → IsExplanation route vrps other → explained ≡ other
explained_one route vrps explained other h k =
    same_list IsExplainedBefore not_back explained other h.ordered k.ordered
    (λ p. grind (arith, h.members p, k.members p))

-- ---- so one text

reason_one : (route : FamilyPrefix) (asn : ℕ) (p : Vrp) (a b : Reason) → IsReason route asn p a
    → IsReason route asn p b → a ≡ b
reason_one route asn p a b h k = grind (arith)

each_one : (form : Form) (first : Bool) (route : FamilyPrefix) (asn : ℕ) (explained : List Vrp) (text other : List ℕ)
    → AreReasonTexts form first route asn explained text → AreReasonTexts form first route asn explained other
    → text ≡ other
each_one form first route asn [] text other h k = h ∙ sym k
each_one form first route asn (p ∷ explained) text other h k =
    grind (arith, reason_one, each_one form false route asn explained)

explanation_one : (form : Form) (route : FamilyPrefix) (asn : ℕ) (vrps : List Vrp) (text other : List ℕ)
    → IsExplanationText form route asn vrps text → IsExplanationText form route asn vrps other → text ≡ other
explanation_one form route asn vrps text other (explained, is, each) (others, are, all) =
    each_one form true route asn others text other (rw (explained_one route vrps explained others is are) at each) all

explanation_if_one : (form : Form) (why : Bool) (vrps : List Vrp) (route : Route) (text other : List ℕ)
    → IsExplanationIf form why vrps route text → IsExplanationIf form why vrps route other → text ≡ other
explanation_if_one form false vrps route text other h k = h ∙ sym k
explanation_if_one Words true vrps route text other h k =
    explanation_one Words route.prefix (asked_asn route.origin) vrps text other h k
explanation_if_one Json true vrps route text other (items, explains, h) (others, explain, k) =
    grind (arith, explanation_one Json route.prefix (asked_asn route.origin) vrps items others explains explain)

route_one : (form : Form) (why : Bool) (vrps : List Vrp) (route : Route) (text other : List ℕ)
    → IsRouteAnswer form why vrps route text → IsRouteAnswer form why vrps route other → text ≡ other
route_one form why vrps route text other h k = grind (arith, outcome_one, explanation_if_one)

line_value_one : (line text other : List ℕ) → IsLineValue line text → IsLineValue line other → text ≡ other
line_value_one line text other h k = grind (arith)

fault_one : (form : Form) (fault : RouteFault) (line text other : List ℕ) → IsFaultAnswer form fault line text
    → IsFaultAnswer form fault line other → text ≡ other
fault_one Words fault line text other h k = h ∙ sym k
fault_one Json fault line text other (value, is, h) (another, are, k) =
    grind (arith, line_value_one line value another is are)

-- what is decided has one answer, if each route and each fault has
module _ {Reads : Option Route → Type 0} {Fails : RouteFault → Type 0} (decided : IsDecided Reads Fails)
    (OfRoute : Route → List ℕ → Type 0) (OfFault : RouteFault → List ℕ → Type 0) (skipped : List ℕ) where
  abbrev IsOne : List ℕ → Type 0
  IsOne text =
      ((route : Route) × Reads (Some route) × OfRoute route text) ⊎ (Reads None × (text ≡ skipped))
      ⊎ ((fault : RouteFault) × Fails fault × OfFault fault text)

  by_one : (text other : List ℕ) → ((route : Route) → OfRoute route text → OfRoute route other → text ≡ other)
      → ((fault : RouteFault) → OfFault fault text → OfFault fault other → text ≡ other) → IsOne text → IsOne other
      → text ≡ other
  by_one text other of_route of_fault (inl (a, is_a, h)) (inl (b, is_b, k)) =
      of_route b (rw (same_Some a b (decided.one (Some a) (Some b) is_a is_b)) at h) k
  by_one text other of_route of_fault (inl (a, is, h)) (inr (inl (none, k))) =
      absurd (none-some a (decided.one None (Some a) none is))
  by_one text other of_route of_fault (inl (a, is, h)) (inr (inr (f, wrong, k))) =
      absurd (decided.apart (Some a) f is wrong)
  by_one text other of_route of_fault (inr (inl (none, h))) (inl (b, is, k)) =
      absurd (none-some b (decided.one None (Some b) none is))
  by_one text other of_route of_fault (inr (inl (none, h))) (inr (inl (too, k))) = h ∙ sym k
  by_one text other of_route of_fault (inr (inl (none, h))) (inr (inr (f, wrong, k))) =
      absurd (decided.apart None f none wrong)
  by_one text other of_route of_fault (inr (inr (f, wrong, h))) (inl (b, is, k)) =
      absurd (decided.apart (Some b) f is wrong)
  by_one text other of_route of_fault (inr (inr (f, wrong, h))) (inr (inl (none, k))) =
      absurd (decided.apart None f none wrong)
  by_one text other of_route of_fault (inr (inr (f, wrong, h))) (inr (inr (g, too, k))) =
      of_fault g (rw (decided.same f g wrong too) at h) k

pub answer_one : (form : Form) (why : Bool) (vrps : List Vrp) (line text other : List ℕ)
    → IsAnswerIn form why vrps line text → IsAnswerIn form why vrps line other → text ≡ other
answer_one form why vrps line text other h k =
    by_one (route_decided line) (IsRouteAnswer form why vrps) (λ fault. IsFaultAnswer form fault line)
    (skipped_text form) text other (λ route. route_one form why vrps route text other)
    (λ fault. fault_one form fault line text other) h k
