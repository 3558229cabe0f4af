-- Each turn is done with one block and keeps the walk; at its end one chain has no block any more.
use Rattle.rpki_chain_core.proofs.Common.{None, Some, arith, inl, inr, refl, le_refl, nat_tests, ◌<◌, ◌≤◌}
use Rattle.rpki_chain_core.proofs.ReadCounts.{reader_next}
use Rattle.rpki_chain_core.proofs.IntersectionWalk.{meet_ended, meet_ordered, meet_other_ends, meet_other_skips}
use Rattle.rpki_chain_core.proofs.IntersectionWalk.{meet_own_ends, meet_own_skips, meet_start, meet_swap}
use Rattle.rpki_chain_core.proofs.intersection.push_behind.Goals as goal

pub loop-other_block-init : goal.loop-other_block-init
loop-other_block-init g c =
    let req = c.requires in
    let walk = meet_start req.overhang c.len-own_len.ensures.chain c.len-other_len.ensures.chain in
    record {
      own = record { kept = refl; reads = le_refl _ };
      other = record { kept = refl; reads = le_refl _ };
      walk = rw req.before walk;
    }

pub returns-in_default-clause-common : goal.returns-in_default-clause-common
returns-in_default-clause-common g c =
    let inv = c.loop-other_block.invariant in
    let apart : g.T.Block.number c.loop-other_block.other_block.1 < g.T.Block.number c.loop-other_block.own_block.0 =
    grind (arith, nat_tests, g.met.T.Block.in_order, g.met.T.Item.Ord.matches_partial_cmp, c.if-lt.ensures) in
    let end = rw inv.other.kept at c.in_default.ensures.block in
    meet_ended (meet_other_skips None inv.walk apart end) (inr refl)

pub loop-other_block-preserved-then-lt : goal.loop-other_block-preserved-then-lt
loop-other_block-preserved-then-lt g c =
    let inv = c.loop-other_block.invariant in
    let apart : g.T.Block.number c.loop-other_block.other_block.1 < g.T.Block.number c.loop-other_block.own_block.0 =
    grind (arith, nat_tests, g.met.T.Block.in_order, g.met.T.Item.Ord.matches_partial_cmp, c.if-lt.ensures) in
    let read = c.in-Some.ensures in
    let on = reader_next g.T.Block.bounds g.T.Block.number g.T.Block.last _ _ _ _ (Some _) _ _ _ inv.other
    read.block read.kept read.counted in
    record { own = inv.own; other = on.0; walk = meet_other_skips _ inv.walk apart on.1 }

pub returns-in_default-read_at-clause-common : goal.returns-in_default-read_at-clause-common
returns-in_default-read_at-clause-common g c =
    let inv = c.loop-other_block.invariant in
    let apart : g.T.Block.number c.loop-other_block.own_block.1 < g.T.Block.number c.loop-other_block.other_block.0 =
    grind (arith, nat_tests, g.met.T.Block.in_order, g.met.T.Item.Ord.matches_partial_cmp, c.if-lt-2.ensures) in
    let end = rw inv.own.kept at c.in_default-read_at.ensures.block in
    meet_ended (meet_own_skips inv.walk None apart end) (inl refl)

pub loop-other_block-preserved-then-lt-2 : goal.loop-other_block-preserved-then-lt-2
loop-other_block-preserved-then-lt-2 g c =
    let inv = c.loop-other_block.invariant in
    let apart : g.T.Block.number c.loop-other_block.own_block.1 < g.T.Block.number c.loop-other_block.other_block.0 =
    grind (arith, nat_tests, g.met.T.Block.in_order, g.met.T.Item.Ord.matches_partial_cmp, c.if-lt-2.ensures) in
    let read = c.in-Some-read_at.ensures in
    let on = reader_next g.T.Block.bounds g.T.Block.number g.T.Block.last _ _ _ _ (Some _) _ _ _ inv.own
    read.block read.kept read.counted in
    record { own = on.0; other = inv.other; walk = meet_own_skips inv.walk _ apart on.1 }

pub push_common-requires-clause-ordered : goal.push_common-requires-clause-ordered
push_common-requires-clause-ordered g c = meet_ordered c.loop-other_block.invariant.walk

pub push_common-requires-clause-meets : goal.push_common-requires-clause-meets
push_common-requires-clause-meets g c =
    grind (arith, nat_tests, g.met.T.Block.in_order, g.met.T.Item.Ord.matches_partial_cmp, c.if-lt-2.ensures)

pub push_common-requires-clause-ends_first : goal.push_common-requires-clause-ends_first
push_common-requires-clause-ends_first g c =
    grind (arith, nat_tests, g.met.T.Block.in_order, g.met.T.Item.Ord.matches_partial_cmp, c.if-le.ensures)

pub returns-in_default-read_at-2-clause-common : goal.returns-in_default-read_at-2-clause-common
returns-in_default-read_at-2-clause-common g c =
    let inv = c.loop-other_block.invariant in
    let first : g.T.Block.number c.loop-other_block.own_block.1 ≤ g.T.Block.number c.loop-other_block.other_block.1 =
    grind (arith, nat_tests, g.met.T.Block.in_order, g.met.T.Item.Ord.matches_partial_cmp, c.if-le.ensures) in
    let end = rw inv.own.kept at c.in_default-read_at-2.ensures.block in
    meet_ended (meet_own_ends inv.walk None c.in_ok-push_common.ensures first end) (inl refl)

pub loop-other_block-preserved-then-le : goal.loop-other_block-preserved-then-le
loop-other_block-preserved-then-le g c =
    let inv = c.loop-other_block.invariant in
    let first : g.T.Block.number c.loop-other_block.own_block.1 ≤ g.T.Block.number c.loop-other_block.other_block.1 =
    grind (arith, nat_tests, g.met.T.Block.in_order, g.met.T.Item.Ord.matches_partial_cmp, c.if-le.ensures) in
    let read = c.in-Some-read_at-2.ensures in
    let on = reader_next g.T.Block.bounds g.T.Block.number g.T.Block.last _ _ _ _ (Some _) _ _ _ inv.own
    read.block read.kept read.counted in
    record { own = on.0; other = inv.other; walk = meet_own_ends inv.walk _ c.in_ok-push_common.ensures first on.1 }

pub push_common-requires-else-le-clause-ordered : goal.push_common-requires-else-le-clause-ordered
push_common-requires-else-le-clause-ordered g c = meet_ordered (meet_swap c.loop-other_block.invariant.walk)

pub push_common-requires-else-le-clause-meets : goal.push_common-requires-else-le-clause-meets
push_common-requires-else-le-clause-meets g c =
    grind (arith, nat_tests, g.met.T.Block.in_order, g.met.T.Item.Ord.matches_partial_cmp, c.if-lt.ensures)

pub push_common-requires-else-le-clause-ends_first : goal.push_common-requires-else-le-clause-ends_first
push_common-requires-else-le-clause-ends_first g c =
    grind (arith, nat_tests, g.met.T.Block.in_order, g.met.T.Item.Ord.matches_partial_cmp, c.if-le.ensures)

pub returns-in_default-read_at-3-clause-common : goal.returns-in_default-read_at-3-clause-common
returns-in_default-read_at-3-clause-common g c =
    let inv = c.loop-other_block.invariant in
    let first : g.T.Block.number c.loop-other_block.other_block.1 ≤ g.T.Block.number c.loop-other_block.own_block.1 =
    grind (arith, nat_tests, g.met.T.Block.in_order, g.met.T.Item.Ord.matches_partial_cmp, c.if-le.ensures) in
    let end = rw inv.other.kept at c.in_default-read_at-3.ensures.block in
    meet_ended (meet_other_ends None inv.walk c.in_ok-push_common-2.ensures first end) (inr refl)

pub loop-other_block-preserved : goal.loop-other_block-preserved
loop-other_block-preserved g c =
    let inv = c.loop-other_block.invariant in
    let first : g.T.Block.number c.loop-other_block.other_block.1 ≤ g.T.Block.number c.loop-other_block.own_block.1 =
    grind (arith, nat_tests, g.met.T.Block.in_order, g.met.T.Item.Ord.matches_partial_cmp, c.if-le.ensures) in
    let read = c.in-Some-read_at-3.ensures in
    let on = reader_next g.T.Block.bounds g.T.Block.number g.T.Block.last _ _ _ _ (Some _) _ _ _ inv.other
    read.block read.kept read.counted in
    record { own = inv.own; other = on.0; walk = meet_other_ends _ inv.walk c.in_ok-push_common-2.ensures first on.1 }
