-- What was written of a prefix is read as the prefix.
use Rattle.rpki_ip.proofs.Common.{arith}
use Rattle.rpki_ip.proofs.PrefixDerModes.{taken_back}
use Rattle.rpki_ip.proofs.prefix.Prefix.take_from.Goals as goal

pub returns-clause-reads_back : goal.returns-clause-reads_back
returns-clause-reads_back c = λ p rest is.
    taken_back 128 (omega arith) c.args.cursor.now c.take_from_with_family_by_mode.new.cursor
    c.take_from_with_family_by_mode.result c.take_from_with_family_by_mode.ensures.by_mode p rest
    (is, is.short)
