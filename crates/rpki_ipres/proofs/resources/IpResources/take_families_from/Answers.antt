-- What stands at the cursor for IPv4 is whole, and what was written is read; strictly, nothing else.
use Rattle.rpki_ipres.proofs.Common.{SaysClaimOf, if_present, stands_for, taken_said, IfOk-weaker}
use Rattle.rpki_ipres.proofs.FamilyModes.{G, are_present, families_in_modes, refused_families}
use Rattle.rpki_ipres.proofs.WholeSetReadings.{whole_families}
use Rattle.rpki_ipres.proofs.resources.IpResources.take_families_from.Goals as goal

pub returns : goal.returns
returns g c =
    let next = c.take_families_from_by_mode in
    let taken = taken_said families_in_modes c.args.cursor.now next.new.cursor next.result next.ensures.by_mode in
    record {
      reads = next.ensures.reads;
      exact = next.ensures.exact;
      whole = IfOk-weaker next.result _ _
          (λ fs (front, says, split). whole_families front fs (stands_for G SaysClaimOf front fs says)) taken.stands;
      reads_back = λ v4 v6 rest first second some. taken.reads_back (if_present v4, if_present v6) rest
          (are_present v4 v6 first second some);
      strict = taken.strict;
      refused = refused_families c.args.cursor.now next.result taken.refused;
      by_mode = next.ensures.by_mode;
      mode = next.ensures.mode;
    }
