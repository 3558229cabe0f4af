-- A list of the fewest prefixes is written.
use Rattle.std.proofs.Common.{inl}
use Rattle.pigyelund_c.proofs.exports.prefixes.pigy_prefixes.Goals as goal

pub returns-in-Ok : goal.returns-in-Ok
returns-in-Ok c = inl (c.in-Ok.list.items, c.in-Ok.ensures, rw c.as_slice.ensures.value at c.write_items.ensures)
