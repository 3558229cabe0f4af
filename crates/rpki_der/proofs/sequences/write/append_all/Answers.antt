-- Each turn writes the next value, for which the capacity is enough.
use Rattle.rpki_der.proofs.Common.{ap, arith, length, sym, ◌∙◌, append-nil, length-append, take_all}
use Rattle.rpki_der.proofs.ValueWritingLemmas.{written_more, left_more}
use Rattle.rpki_der.proofs.sequences.write.append_all.Goals as goal

pub loop-value-init : goal.loop-value-init
loop-value-init g c =
    record { written = sym (append-nil c.args.out.now.items); fits = c.requires.fits; capacity = omega arith }

pub append-requires : goal.append-requires
append-requires g c =
    let left = left_more g.V.Encode.octets _ _ _ c.loop-value-test.true c.value-item.is in
    record { fits = omega (arith, left, c.loop-value.invariant.fits) }

pub loop-value-preserved : goal.loop-value-preserved
loop-value-preserved g c =
    let turn = c.loop-value in
    let octets = g.V.Encode.octets in
    let appended = c.append.ensures.items in
    let left = left_more octets _ _ _ c.loop-value-test.true c.value-item.is in
    let longer = ap (λ os. length os) appended ∙ length-append turn.out.items (octets c.value-item.result) in
    record {
      written = written_more octets _ _ _ c.loop-value-test.true c.value-item.is _ _ _ turn.invariant.written appended;
      fits = omega (arith, left, longer, turn.invariant.fits, c.append.ensures.capacity);
      capacity = omega (arith, turn.invariant.capacity, c.append.ensures.capacity);
    }

pub returns-clause-items : goal.returns-clause-items
returns-clause-items g c = grind (arith, take_all)

pub returns-clause-capacity : goal.returns-clause-capacity
returns-clause-capacity g c = c.loop-value.invariant.capacity
