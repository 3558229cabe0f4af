-- The letters and the digits behind them are those of each number that stands there.
use Rattle.rpki_base.proofs.Common.{arith, refl}
use Rattle.rpki_base.proofs.AsnIndexLemmas.{asn_between, digits_of}
use Rattle.rpki_base.proofs.asn.at_index.asn_at.Goals as goal
use Rattle.rpki_base.proofs.asn.at_index.asn_at.Goals.{then-end-first-via-then-end-first}
use Rattle.rpki_base.proofs.asn.at_index.asn_at.Goals.{then-end-first-via-else-end-first+then-value-from}

pub returns-then-end-first-clause-each : goal.returns-then-end-first-clause-each
returns-then-end-first-clause-each c n end h =
    let same = digits_of _ _ _ _ _ c.after_letters-first.ensures c.digits_from-value.ensures n end h in
    elim c.then-end-first.branch [
      | then-end-first-via-then-end-first w ↦
          absurd (omega (arith, w.if-end-first.true, same.1, same.2, h.some))
      | then-end-first-via-else-end-first+then-value-from w ↦
          absurd (omega (arith, w.if-value-from.true, w.from.ensures, same.0, h.fits))
    ]

pub returns-clause-each : goal.returns-clause-each
returns-clause-each c n end h =
    let same = digits_of _ _ _ _ _ c.after_letters-first.ensures c.digits_from-value.ensures n end h in
    rw (same.0, same.1) refl

pub returns-clause-number : goal.returns-clause-number
returns-clause-number c =
    asn_between _ _ _ _ (record {
      after = c.after_letters-first.result;
      letters = c.after_letters-first.ensures;
      digits = c.digits_from-value.ensures;
      some = omega (arith, c.digits_from-value.ensures.digits.in_order, c.if-end-first.false);
      fits = omega (arith, c.if-value-from.false, c.from.ensures);
    })
