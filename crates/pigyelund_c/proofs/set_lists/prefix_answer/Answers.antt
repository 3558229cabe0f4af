-- The prefix is read, and the set is asked.
use Rattle.pigyelund_c.proofs.TestLemmas.{yes_if}
use Rattle.pigyelund_c.proofs.set_lists.prefix_answer.Goals as goal

pub returns-in-Ok : goal.returns-in-Ok
returns-in-Ok c =
    (c.in-Ok.prefix, c.in-Ok.ensures, yes_if _ _ _ c.contains_prefix.ensures c.answer_number.ensures)
