use Rattle.std.proofs.lemmas.Result.{err_from_is_err_and}
use Rattle.rpki_as_block.proofs.AsBlockTextLemmas.{around_split, no_cut, reads_block}
use Rattle.rpki_as_block.proofs.text.read_any.Goals as goal

pub returns-in_err-from_str : goal.returns-in_err-from_str
returns-in_err-from_str c =
    let p = err_from_is_err_and c.from_residual.result c.from_residual.ensures.1 in
    rw (p.1, p.2) (reads_block _ _ (no_cut _ c.in_default.ensures.cases, c.in_err-from_str.ensures.exact.found))

pub returns-in_default : goal.returns-in_default
returns-in_default c = reads_block _ _ (no_cut _ c.in_default.ensures.cases, c.in_ok-from_str.ensures.exact.found)

pub returns-in-Some-read_range : goal.returns-in-Some-read_range
returns-in-Some-read_range c =
    reads_block _ _
    (around_split _ c.in-Some.left c.in-Some.right _ c.in-Some.ensures.cases c.in-Some-read_range.ensures)

pub returns-in-None : goal.returns-in-None
returns-in-None c =
    reads_block _ _ (around_split _ c.in-Some.left c.in-Some.right _ c.in-Some.ensures.cases c.in-None.ensures)
