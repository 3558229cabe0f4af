use Rattle.respath_lines.proofs.Common.{one_resources}
use Rattle.respath_lines.proofs.ReadCommandLemmas.{ended_take}
use Rattle.respath_lines.proofs.read.as_resources_in.Goals as goal

pub returns : goal.returns
returns g c =
    rw (c.new-cursor.ensures.octets, c.as_slice.ensures.value) at
    (ended_take _ _ _ one_resources _ _ _ (c.take_from-taken.ensures.reads c.new-cursor.ensures.mode)
    (c.take_from-taken.ensures.exact c.new-cursor.ensures.mode) _ c.ended.ensures)
