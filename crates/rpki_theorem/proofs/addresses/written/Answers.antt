-- Sets with the same addresses print alike and encode alike, and no others do.
use Rattle.rpki_theorem.proofs.Common.{arith, ◌≡◌}
use Rattle.rpki_ipres.specs.SetDer.{ip_set_der}
use Rattle.rpki_ipres.specs.SetText.{IsIpSet}
use Rattle.rpki_theorem.proofs.addresses.written.Goals as goal

pub returns-clause-equal : goal.returns-clause-equal
returns-clause-equal g c = c.eq-equal.ensures.numbers

pub returns-clause-texts : goal.returns-clause-texts
returns-clause-texts g c =
    rw (c.in_ok-text.ensures.ok, c.in_ok-other_text.ensures.ok)
    (c.printed_sets.ensures.alike g.F.Family.FAMILY c.args.a.now c.args.b.now c.recall_invariant.ensures
    c.recall_invariant-2.ensures)

pub returns-clause-octets : goal.returns-clause-octets
returns-clause-octets g c =
    let one : c.encode.new.out.items ≡ ip_set_der c.args.a.now = grind arith in
    let other : c.encode-2.new.out.items ≡ ip_set_der c.args.b.now = grind arith in
    let one_set : IsIpSet c.args.a.now = rw (← c.ip_blocks.ensures.value) c.encode.ensures.set in
    let other_set : IsIpSet c.args.b.now = rw (← c.ip_blocks-2.ensures.value) c.encode-2.ensures.set in
    rw (one, other) (c.canonical.ensures.set c.args.a.now c.args.b.now one_set other_set)
