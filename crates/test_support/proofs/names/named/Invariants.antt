use Rattle.std.proofs.Common.{◌≢◌, ◌<◌, get_or}
use Rattle.test_support.proofs.names.named.Given as goal

-- no word so far is the name
abbrev pub invariant-loop-word : goal.invariant-loop-word
invariant-loop-word g l = (k : _) (d : _) → k < l.word-index → (get_or l.words k d).0.now ≢ l.name
