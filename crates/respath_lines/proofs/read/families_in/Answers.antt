use Rattle.respath_lines.proofs.Common.{one_of_families}
use Rattle.respath_lines.proofs.ReadCommandLemmas.{ended_take}
use Rattle.respath_lines.proofs.read.families_in.Goals as goal

pub returns : goal.returns
returns g c =
    rw (c.new-cursor.ensures.octets, c.as_slice.ensures.value) at
    (ended_take _ _ _ one_of_families _ _ _ (c.take_families_from-taken.ensures.reads c.new-cursor.ensures.mode)
    (c.take_families_from-taken.ensures.exact c.new-cursor.ensures.mode) _ c.ended.ensures)
