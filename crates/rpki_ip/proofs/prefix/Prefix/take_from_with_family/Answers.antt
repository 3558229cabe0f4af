-- What was written of a prefix is read as the prefix.
use Rattle.rpki_ip.proofs.Common.{bits_of}
use Rattle.rpki_ip.proofs.PrefixDerModes.{bits_few_enough, taken_back}
use Rattle.rpki_ip.proofs.prefix.Prefix.take_from_with_family.Goals as goal

pub returns-clause-reads_back : goal.returns-clause-reads_back
returns-clause-reads_back c =
    taken_back (bits_of c.args.family) (bits_few_enough c.args.family) c.args.cursor.now
    c.take_from_with_family_by_mode.new.cursor c.take_from_with_family_by_mode.result
    c.take_from_with_family_by_mode.ensures.by_mode
