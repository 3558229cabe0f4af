-- What the reading gives is the value of the grammar of the mode, and it gives what was written.
use Rattle.rpki_ipres.proofs.Common.{Holds, Ipv4, IsWhole, taken_said, ◌≡◌, IfOk-weaker, IfOk}
use Rattle.rpki_ipres.proofs.IpSetDerModes.{set_in_modes}
use Rattle.rpki_ipres.proofs.WholeSetReadings.{whole_sequence}
use Rattle.rpki_ipres.proofs.blocks.IpBlocks.take_from_with_family.Goals as goal

pub returns : goal.returns
returns g c =
    let taken =
    taken_said (set_in_modes c.args.family) c.args.cursor.now c.take_from_with_family_by_mode.new.cursor
    c.take_from_with_family_by_mode.result
    c.take_from_with_family_by_mode.ensures.by_mode in
    let whole : IfOk c.take_from_with_family_by_mode.result (λ set. c.args.family ≡ Ipv4 → IsWhole (Holds set)) =
    IfOk-weaker c.take_from_with_family_by_mode.result _ _ (λ set (front, says, split). whole_sequence _ front set says)
    taken.stands in
    assumption (taken, whole)
