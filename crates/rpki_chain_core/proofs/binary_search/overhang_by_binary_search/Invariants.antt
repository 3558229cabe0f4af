-- What was passed of the one chain lies in the other, in which each of its blocks was sought.
use Rattle.rpki_chain_core.proofs.Common.{length, ℕ, ◌*◌, ◌+◌, ◌<◌, ◌^◌, ◌≡◌, ◌≤◌}
use Rattle.rpki_chain_core.proofs.OverhangWalk.{Passed}
use Rattle.rpki_chain_core.proofs.binary_search.overhang_by_binary_search.Given as goal

abbrev pub invariant-loop-own_at : goal.invariant-loop-own_at
invariant-loop-own_at g l =
    let xs = g.X.Reads.blocks l.fn.own in
    let ys = g.Y.Reads.blocks l.fn.other in
    record {
      own_reads : g.X.Reads.count l.own ≤ g.X.Reads.count l.fn.own + l.own_at;
      other_reads : (digits : ℕ) → length ys < 2 ^ digits
          → g.Y.Reads.count l.other ≤ g.Y.Reads.count l.fn.other + l.own_at * digits;
      within : l.other_at ≤ length ys;
      walk : Passed g.T.Block.bounds g.T.Block.form xs ys l.own_at l.other_at;
      own_kept : g.X.Reads.blocks l.own ≡ xs;
      other_kept : g.Y.Reads.blocks l.other ≡ ys;
    }
