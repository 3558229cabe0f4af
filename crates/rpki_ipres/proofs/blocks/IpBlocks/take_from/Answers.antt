-- What the reading gives is the value of the grammar of the mode, and it gives what was written.
use Rattle.rpki_ipres.proofs.Common.{Ipv6, taken_said}
use Rattle.rpki_ipres.proofs.IpSetDerModes.{set_in_modes}
use Rattle.rpki_ipres.proofs.blocks.IpBlocks.take_from.Goals as goal

pub returns : goal.returns
returns g c =
    let taken =
    taken_said (set_in_modes Ipv6) c.args.cursor.now c.take_from_with_family_by_mode.new.cursor
    c.take_from_with_family_by_mode.result
    c.take_from_with_family_by_mode.ensures.by_mode in
    assumption taken
