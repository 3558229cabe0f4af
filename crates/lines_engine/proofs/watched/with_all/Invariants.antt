-- The state is the one after the bytes so far.
use Rattle.lines_engine.proofs.Common.{List, take, true, ℕ, ◌++◌, ◌≡◌}
use Rattle.lines_engine.proofs.watched.with_all.Given as goal

abbrev pub invariant-loop-byte : goal.invariant-loop-byte
invariant-loop-byte g l =
    (bytes : List ℕ) → g.S.Watch.sees l.fn.seen bytes ≡ true
    → g.S.Watch.sees l.after (bytes ++ take l.byte-index l.piece) ≡ true
