-- Where no group follows, the reader on lists stops too.
use Rattle.rpki_addr.proofs.GroupLemmas.{all_read, no_colon, no_more}
use Rattle.rpki_addr.proofs.DigitGroupLemmas.{no_group}
use Rattle.rpki_addr.proofs.addr.read.Groups.longer.Goals as goal

pub returns-then-self-max_count-clause-so_far : goal.returns-then-self-max_count-clause-so_far
returns-then-self-max_count-clause-so_far c text so_far =
    all_read _ text _ c.if-self.false so_far c.if-self-max_count.true

pub returns-in_default-clause-so_far : goal.returns-in_default-clause-so_far
returns-in_default-clause-so_far c text so_far =
    no_colon _ text _ c.if-self.false so_far c.if-self-max_count.false c.in_default.ensures

pub returns-in_default-take_group-clause-so_far : goal.returns-in_default-take_group-clause-so_far
returns-in_default-take_group-clause-so_far c text so_far =
    let none = c.in_default-take_group.ensures in
    no_more _ text _ c.if-self.false so_far c.if-self-max_count.false _ c.in-Some.ensures (no_group _ _ none) none
