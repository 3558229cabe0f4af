-- What was written of a block is read as the block.
use Rattle.rpki_ip_block.proofs.Common.{bits_few_enough, bits_of}
use Rattle.rpki_ip_block.proofs.IpBlockDerWritten.{family_within, taken_back}
use Rattle.rpki_ip_block.proofs.block.IpBlock.take_opt_from_with_family.Goals as goal

pub returns-clause-reads_back : goal.returns-clause-reads_back
returns-clause-reads_back c = λ block rest is.
    taken_back (bits_of c.args.family) (bits_few_enough c.args.family) c.args.cursor.now
    c.take_opt_from_with_family_by_mode.new.cursor
    c.take_opt_from_with_family_by_mode.result c.take_opt_from_with_family_by_mode.ensures.by_mode block rest
    (family_within c.args.family block is)
