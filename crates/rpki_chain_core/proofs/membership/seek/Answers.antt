-- The part that is searched halves, and what is found is the block behind it.
use Rattle.rpki_chain_core.proofs.Common.{arith, ◌<◌, ◌∙◌, nat_tests}
use Rattle.rpki_chain_core.proofs.ReadCounts.{Halved-step}
use Rattle.rpki_chain_core.proofs.ChainSearches.{behind_all}
use Rattle.rpki_chain_core.proofs.membership.seek.Goals as goal

pub loop-low-preserved-then-lt : goal.loop-low-preserved-then-lt
loop-low-preserved-then-lt g c =
    let inv = c.loop-low.invariant in
    let half = c.middle_of-middle.ensures in
    let read = c.read-min.ensures in
    let value = rw inv.kept at read.value in
    let less : g.T.Block.number c.read-min.result.1 < g.T.Block.number c.args.item =
    grind (arith, nat_tests, g.met.T.Block.in_order, g.met.T.Item.Ord.matches_partial_cmp, c.if-lt.ensures) in
    record {
      halved = Halved-step _ _ _ _ _ _ inv.halved (omega arith) half.halves_behind read.counted;
      chain = inv.chain;
      kept = read.kept ∙ inv.kept;
      ordered = omega arith;
      below = λ k d from before. behind_all g.T.Block.bounds g.T.Block.form _ c.middle_of-middle.result k _ d inv.chain
          (omega arith) (λ e. grind (arith, value e)) (omega arith);
      found = inv.found;
      reaches = inv.reaches;
    }

pub loop-low-preserved : goal.loop-low-preserved
loop-low-preserved g c =
    let inv = c.loop-low.invariant in
    let half = c.middle_of-middle.ensures in
    let read = c.read-min.ensures in
    record {
      halved = Halved-step _ _ _ _ _ _ inv.halved (omega arith) half.halves read.counted;
      chain = inv.chain;
      kept = read.kept ∙ inv.kept;
      ordered = omega arith;
      below = inv.below;
      found = (omega arith, rw inv.kept at read.value, read.to_last);
      reaches = grind (arith, nat_tests, g.met.T.Block.in_order, g.met.T.Item.Ord.matches_partial_cmp, c.if-lt.ensures);
    }
