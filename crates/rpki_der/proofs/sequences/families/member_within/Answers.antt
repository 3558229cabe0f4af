-- A family that wasn't found before, in its order, its claim, and the end.
use Rattle.rpki_der.proofs.Common.{refl, sym, ◌∙◌, err_from_is_err_and, member_in_by}
use Rattle.rpki_der.proofs.sequences.families.member_within.Goals as goal

pub returns-in_err-look_at_order : goal.returns-in_err-look_at_order
unfolding member_in_by
returns-in_err-look_at_order g c =
    let new = sym c.is_among.ensures ∙ c.if-is_among.false in
    let residual = c.from_residual-in_err-look_at_order in
    let p = err_from_is_err_and residual.result residual.ensures.1 in
    record { by_mode = rw (p.1, p.2, c.in_ok-family.ensures.exact, new, c.in_err-look_at_order.ensures.exact) refl }

pub returns : goal.returns
unfolding member_in_by
returns g c =
    let claim = c.in_ok-claim.ensures.by_mode in
    let first = c.in_ok-family.ensures.exact in
    let new = sym c.is_among.ensures ∙ c.if-is_among.false in
    let end = c.in_ok-finish.ensures.exact in
    record {
      by_mode = (
        (c.in_ok-family.family, claim.0),
        rw (first, new, c.in_ok-look_at_order.ensures.exact, ← c.in_ok-family.ensures.mode, claim.1, end) refl,
        (refl, claim.2),
      );
    }
