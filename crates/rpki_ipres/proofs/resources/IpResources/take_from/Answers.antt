-- What the reading gives is the value of the grammar of the mode, and it gives what was written.
use Rattle.rpki_ipres.proofs.Common.{taken_said, IfOk-weaker}
use Rattle.rpki_ipres.proofs.IpSetDerModes.{claim_in_modes}
use Rattle.rpki_ipres.proofs.WholeSetReadings.{whole_claim}
use Rattle.rpki_ipres.proofs.resources.IpResources.take_from.Goals as goal

pub returns : goal.returns
returns g c =
    let taken =
    taken_said (claim_in_modes c.args.family) c.args.cursor.now c.take_from_by_mode.new.cursor
    c.take_from_by_mode.result
    c.take_from_by_mode.ensures.by_mode in
    record {
      reads = taken.reads;
      exact = taken.exact;
      whole =
          IfOk-weaker c.take_from_by_mode.result _ _
          (λ claim (front, says, split). whole_claim c.args.family front claim says)
          taken.stands;
      reads_back = λ claim rest is some. taken.reads_back claim rest (is, some);
      strict = taken.strict;
      refused = taken.refused;
      by_mode = c.take_from_by_mode.ensures.by_mode;
      mode = c.take_from_by_mode.ensures.mode;
    }
