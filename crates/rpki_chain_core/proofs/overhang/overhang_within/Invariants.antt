-- What was passed of the one chain lies in the other; a turn within takes a block off the rest of the other.
use Rattle.rpki_chain_core.proofs.Common.{Some, drop, length, HoldsBlock, ◌<◌, ◌≡◌}
use Rattle.rpki_chain_core.proofs.OverhangWalk.{Reaching}
use Rattle.rpki_chain_core.proofs.overhang.overhang_within.Given as goal

abbrev pub invariant-loop-held : goal.invariant-loop-held
invariant-loop-held g l = record {
  own : HoldsBlock g.T.Block.bounds g.T.Block.number g.T.Block.last l.own l.own_at
      (Some (l.min, l.max));
  some : 0 < length l.others;
  reaching : Reaching g.T.Block.bounds g.T.Block.form g.T.Block.number g.T.Block.last l.own l.other
      l.own_at l.held (drop 1 l.others);
}

abbrev pub decreases-loop-held : goal.decreases-loop-held
decreases-loop-held g l = length l.others

abbrev pub invariant-loop-own_at : goal.invariant-loop-own_at
invariant-loop-own_at g l = record {
  rest : l.owns ≡ drop l.own_at l.own;
  some : 0 < length l.others;
  reaching : Reaching g.T.Block.bounds g.T.Block.form g.T.Block.number g.T.Block.last l.own l.other
      l.own_at l.held (drop 1 l.others);
}
