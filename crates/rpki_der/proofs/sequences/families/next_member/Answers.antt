-- A SEQUENCE, and the member in it.
use Rattle.rpki_der.proofs.Common.{refl, refined}
use Rattle.rpki_der.proofs.sequences.families.next_member.Goals as goal

pub returns-clause-by_mode : goal.returns-clause-by_mode
unfolding refined
returns-clause-by_mode g c =
    let member = c.in_ok-member.ensures.by_mode in
    let exact = c.in_ok-take_sequence.ensures.exact in
    (member.0, rw (exact, ← c.in_ok-take_sequence.ensures.hands_on_mode, member.1) refl, member.2)
