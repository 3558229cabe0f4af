use Rattle.rpki_ip.proofs.Common.{IsPrefix, All-rest}
use Rattle.rpki_ip.proofs.cover.V6PrefixesIterator.next.Goals as goal

pub invariant_of-self-2 : goal.invariant_of-self-2
invariant_of-self-2 c =
    All-rest (IsPrefix 128) c.in_ok-prefix.prefix c.next.new.self c.self.inside.cover c.in_ok-prefix.ensures.steps
    c.self.invariant
