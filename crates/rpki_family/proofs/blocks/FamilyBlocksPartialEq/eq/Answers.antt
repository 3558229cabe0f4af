use Rattle.rpki_family.proofs.blocks.FamilyBlocksPartialEq.eq.Goals as goal

pub returns-clause-numbers : goal.returns-clause-numbers
returns-clause-numbers g c = rw (← c.self.view_is, ← c.other.view_is) c.eq.ensures.numbers
