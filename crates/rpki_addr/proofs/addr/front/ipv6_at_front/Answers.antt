-- What stands at the front is what std's reader finds there.
use Rattle.rpki_addr.proofs.Common.{none-some, same_parts, ◌∙◌}
use Rattle.rpki_addr.proofs.AddressFronts.{ipv6_reader, at_front}
use Rattle.rpki_addr.proofs.addr.front.ipv6_at_front.Goals as goal

pub returns-in-Some-clause-each : goal.returns-in-Some-clause-each
returns-in-Some-clause-each c n rest h ends =
    rw c.from_bits.ensures (same_parts _ n _ rest (c.in-Some.ensures ∙ at_front ipv6_reader _ n rest h ends))

pub returns-in-None-clause-each : goal.returns-in-None-clause-each
returns-in-None-clause-each c n rest h ends =
    none-some _ (c.in-None.ensures ∙ at_front ipv6_reader _ n rest h ends)
