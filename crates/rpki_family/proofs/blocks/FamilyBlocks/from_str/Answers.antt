-- A list of a family is the list that IP blocks read, taken as blocks of the family.
use Rattle.rpki_family.proofs.blocks.FamilyBlocks.from_str.Goals as goal

pub returns-in-Ok-clause-reads_back : goal.returns-in-Ok-clause-reads_back
returns-in-Ok-clause-reads_back g c = λ set is printed.
    rw c.of.ensures ((rw c.FAMILY.ensures at c.in-Ok.ensures.reads_back) set is printed)

pub returns-in-Err-clause-reads_back : goal.returns-in-Err-clause-reads_back
returns-in-Err-clause-reads_back g c = λ set is printed.
    (rw c.FAMILY.ensures at c.in-Err.ensures.reads_back) set is printed
