-- Each route is asked for in turn.
use Rattle.example_calls.proofs.Common.{arith, false, sym, true, ◌∙◌, ◌≡◌, IsInvalid}
use denote.Enum.Bare.{sameb}
use Rattle.roa_origin.specs.contracts.validation.Validity.{the_type}
use Rattle.roa_origin.specs.declared.validation.Validity.{Validity}
use Rattle.roa_origin.specs.declared.validation.Validity.TheVariants.{Invalid}
use Rattle.example_calls.proofs.RouteLemmas.{counted, not_counted}
use Rattle.example_calls.proofs.routes.count_invalid.Goals as goal
use Rattle.example_calls.proofs.routes.count_invalid.Goals.{then-eq, else-eq}

-- the derived test says whether a validity is Invalid
is_one : (v : Validity) → sameb the_type v Invalid ≡ true → v ≡ Invalid
is_one v e = grind arith

is_no_other : (v : Validity) → sameb the_type v Invalid ≡ false → v ≡ Invalid → ⊥
is_no_other v e h = grind arith

pub loop-route-preserved : goal.loop-route-preserved
loop-route-preserved g c =
    let P = IsInvalid c.args.table.now in
    let inside = c.loop-route-test.true in
    let invalid = c.origin.ensures.invalid in
    elim c.if-eq.branch [
      | then-eq w ↦
          let one = invalid.0 (is_one c.origin.result (sym c.eq.ensures ∙ w.if-eq.true)) in
          counted P _ _ _ inside c.loop-route-item.is c.loop-route.count _ one w.count-is c.loop-route.invariant
      | else-eq w ↦
          let other = is_no_other c.origin.result (sym c.eq.ensures ∙ w.if-eq.false) in
          not_counted P _ _ _ inside c.loop-route-item.is c.loop-route.count _ (λ h. other (invalid.1 h)) w.count-is
          c.loop-route.invariant
    ]
