-- Sets with the same numbers print alike and encode alike, and no others do.
use Rattle.rpki_theorem.proofs.Common.{arith, ◌≡◌}
use Rattle.rpki_as.specs.AsDer.{as_set_octets}
use Rattle.rpki_theorem.proofs.numbers.written.Goals as goal

pub returns-clause-equal : goal.returns-clause-equal
returns-clause-equal g c = c.eq-equal.ensures.numbers

pub returns-clause-texts : goal.returns-clause-texts
returns-clause-texts g c =
    rw (c.in_ok-text.ensures.ok, c.in_ok-other_text.ensures.ok)
    (c.printed_sets.ensures.alike c.args.a.now c.args.b.now c.recall_invariant.ensures c.recall_invariant-2.ensures)

pub returns-clause-octets : goal.returns-clause-octets
returns-clause-octets g c =
    let one : c.encode.new.out.items ≡ as_set_octets c.args.a.now = grind arith in
    let other : c.encode-2.new.out.items ≡ as_set_octets c.args.b.now = grind arith in
    rw (one, other)
    (c.written_sets.ensures.alike c.args.a.now c.args.b.now c.recall_invariant.ensures c.recall_invariant-2.ensures)
