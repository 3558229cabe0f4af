use Rattle.roa_vrps.proofs.Common.{arith, eqb-false, eqb-true, nil_from_length, refl, ◌≡◌}
use Rattle.roa_vrps.proofs.EntryLemmas.{line_fault}
use Rattle.roa_vrps.proofs.entry.expiry_of_line.Goals as goal

-- the field is neither empty nor a time
pub returns-in-None : goal.returns-in-None
returns-in-None c =
    let same : c.in-Ok.text.now ≡ c.args.line.now = grind arith in (
      line_fault c.args.column c.in-Some.index c.args.line.now c.in-Ok.text.now c.field_at-field.result.now c.in-Some.is
          same c.field_at-field.ensures (λ e. grind (arith, eqb-false, eqb-true, nil_from_length)) c.in-None.ensures,
      refl,
    )
