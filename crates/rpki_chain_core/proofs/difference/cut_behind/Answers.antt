-- Each turn is done with one block and keeps the walk; where the cuts end the rest is kept.
use Rattle.rpki_chain_core.proofs.Common.{None, Some, arith, refl, le_refl, nat_tests, ◌<◌, ◌≤◌}
use Rattle.rpki_chain_core.proofs.ReadCounts.{reader_next}
use Rattle.rpki_chain_core.proofs.DifferenceWalk.{walk_behind, walk_cut, walk_decides, walk_done, walk_few, walk_from}
use Rattle.rpki_chain_core.proofs.DifferenceWalk.{walk_next, walk_rest, walk_skip}
use Rattle.rpki_chain_core.proofs.difference.cut_behind.Goals as goal

pub loop-cut-init : goal.loop-cut-init
loop-cut-init g c = rw c.requires.empty record {
  own = record { kept = refl; reads = le_refl _ };
  other = record { kept = refl; reads = le_refl _ };
  walk = walk_from c.requires.overhang c.len-own_len.ensures.chain c.len-other_len.ensures.chain;
}

pub keep_rest-requires-clause-behind : goal.keep_rest-requires-clause-behind
keep_rest-requires-clause-behind g c =
    let inv = c.loop-cut.invariant in
    let less : g.T.Block.number c.loop-cut.cut.1 < g.T.Block.number c.loop-cut.rest.0 = grind
    (arith, nat_tests, g.met.T.Block.in_order, g.met.T.Item.Ord.matches_partial_cmp, c.if-lt.ensures) in
    walk_behind (walk_skip inv.walk None less (rw inv.other.kept at c.in_default.ensures.block))

pub keep_rest-requires-clause-rest : goal.keep_rest-requires-clause-rest
keep_rest-requires-clause-rest g c =
    let inv = c.loop-cut.invariant in
    rw inv.own.kept inv.walk.own.rest_is

pub returns-in_default-clause-difference : goal.returns-in_default-clause-difference
returns-in_default-clause-difference g c =
    let inv = c.loop-cut.invariant in
    let less : g.T.Block.number c.loop-cut.cut.1 < g.T.Block.number c.loop-cut.rest.0 = grind
    (arith, nat_tests, g.met.T.Block.in_order, g.met.T.Item.Ord.matches_partial_cmp, c.if-lt.ensures) in
    walk_rest (walk_skip inv.walk None less (rw inv.other.kept at c.in_default.ensures.block)) _
    (rw inv.own.kept at c.keep_rest.ensures.chain)

pub returns-in_default-clause-few : goal.returns-in_default-clause-few
returns-in_default-clause-few g c =
    let inv = c.loop-cut.invariant in
    let less : g.T.Block.number c.loop-cut.cut.1 < g.T.Block.number c.loop-cut.rest.0 = grind
    (arith, nat_tests, g.met.T.Block.in_order, g.met.T.Item.Ord.matches_partial_cmp, c.if-lt.ensures) in
    walk_few (walk_skip inv.walk None less (rw inv.other.kept at c.in_default.ensures.block)) _
    (rw inv.own.kept at c.keep_rest.ensures.few)

pub loop-cut-preserved-then-lt : goal.loop-cut-preserved-then-lt
loop-cut-preserved-then-lt g c =
    let inv = c.loop-cut.invariant in
    let less : g.T.Block.number c.loop-cut.cut.1 < g.T.Block.number c.loop-cut.rest.0 = grind
    (arith, nat_tests, g.met.T.Block.in_order, g.met.T.Item.Ord.matches_partial_cmp, c.if-lt.ensures) in
    let read = c.in-Some.ensures in
    let on = reader_next g.T.Block.bounds g.T.Block.number g.T.Block.last _ _ _ _ (Some _) _ _ _ inv.other read.block
    read.kept read.counted in
    record { own = inv.own; other = on.0; walk = walk_skip inv.walk _ less on.1 }

pub push_before-requires-clause-from_first : goal.push_before-requires-clause-from_first
push_before-requires-clause-from_first g c = c.loop-cut.invariant.walk.valid.0

pub push_before-requires-clause-ordered : goal.push_before-requires-clause-ordered
push_before-requires-clause-ordered g c = c.loop-cut.invariant.walk.own.rest_is.ordered

pub from_vec_unchecked-requires : goal.from_vec_unchecked-requires
from_vec_unchecked-requires g c = (walk_decides c.loop-cut.invariant.walk c.in_ok-push_before.ensures).kept.chain

pub returns-in_default-read_at-clause-difference : goal.returns-in_default-read_at-clause-difference
returns-in_default-read_at-clause-difference g c =
    let inv = c.loop-cut.invariant in
    let ends : g.T.Block.number c.loop-cut.rest.1 ≤ g.T.Block.number c.loop-cut.cut.1 = grind
    (arith, nat_tests, g.met.T.Block.in_order, g.met.T.Item.Ord.matches_partial_cmp, c.if-le.ensures) in
    let end = rw inv.own.kept at c.in_default-read_at.ensures.block in
    rw c.from_vec_unchecked.ensures
    (walk_done (walk_next inv.walk (walk_decides inv.walk c.in_ok-push_before.ensures) None ends end tt))

pub returns-in_default-read_at-clause-few : goal.returns-in_default-read_at-clause-few
returns-in_default-read_at-clause-few g c =
    let inv = c.loop-cut.invariant in
    let few = (walk_decides inv.walk c.in_ok-push_before.ensures).few in
    let so_far = inv.walk.few in
    let own = inv.walk.own.rest_is.within in
    let other = inv.walk.cut_is.0 in
    rw c.from_vec_unchecked.ensures (omega arith)

pub loop-cut-preserved-then-le : goal.loop-cut-preserved-then-le
loop-cut-preserved-then-le g c =
    let inv = c.loop-cut.invariant in
    let ends : g.T.Block.number c.loop-cut.rest.1 ≤ g.T.Block.number c.loop-cut.cut.1 = grind
    (arith, nat_tests, g.met.T.Block.in_order, g.met.T.Item.Ord.matches_partial_cmp, c.if-le.ensures) in
    let read = c.in-Some-read_at.ensures in
    let on = reader_next g.T.Block.bounds g.T.Block.number g.T.Block.last _ _ _ _ (Some _) _ _ _ inv.own read.block
    read.kept read.counted in
    let decided = walk_decides inv.walk c.in_ok-push_before.ensures in
    record { own = on.0; other = inv.other; walk = walk_next inv.walk decided _ ends on.1 read.valid }

pub item_after-rest-requires : goal.item_after-rest-requires
item_after-rest-requires g c =
    let to = c.loop-cut.invariant.walk.valid.1 in
    grind (arith, nat_tests, g.met.T.Block.in_order, g.met.T.Item.Ord.matches_partial_cmp, c.if-le.ensures)

pub keep_rest-requires-in_default-read_at-2-clause-behind : goal.keep_rest-requires-in_default-read_at-2-clause-behind
keep_rest-requires-in_default-read_at-2-clause-behind g c =
    let inv = c.loop-cut.invariant in
    let reaches : g.T.Block.number c.loop-cut.rest.0 ≤ g.T.Block.number c.loop-cut.cut.1 = grind
    (arith, nat_tests, g.met.T.Block.in_order, g.met.T.Item.Ord.matches_partial_cmp, c.if-lt.ensures) in
    let beyond : g.T.Block.number c.loop-cut.cut.1 < g.T.Block.number c.loop-cut.rest.1 = grind
    (arith, nat_tests, g.met.T.Block.in_order, g.met.T.Item.Ord.matches_partial_cmp, c.if-le.ensures) in
    let decided = walk_decides inv.walk c.in_ok-push_before.ensures in
    walk_behind (walk_cut inv.walk decided c.item_after-rest.result None reaches beyond c.item_after-rest.ensures
    (rw inv.other.kept at c.in_default-read_at-2.ensures.block))

pub keep_rest-requires-in_default-read_at-2-clause-rest : goal.keep_rest-requires-in_default-read_at-2-clause-rest
keep_rest-requires-in_default-read_at-2-clause-rest g c =
    let inv = c.loop-cut.invariant in
    let reaches : g.T.Block.number c.loop-cut.rest.0 ≤ g.T.Block.number c.loop-cut.cut.1 = grind
    (arith, nat_tests, g.met.T.Block.in_order, g.met.T.Item.Ord.matches_partial_cmp, c.if-lt.ensures) in
    let beyond : g.T.Block.number c.loop-cut.cut.1 < g.T.Block.number c.loop-cut.rest.1 = grind
    (arith, nat_tests, g.met.T.Block.in_order, g.met.T.Item.Ord.matches_partial_cmp, c.if-le.ensures) in
    let decided = walk_decides inv.walk c.in_ok-push_before.ensures in
    rw inv.own.kept (walk_cut inv.walk decided c.item_after-rest.result None reaches beyond c.item_after-rest.ensures
    (rw inv.other.kept at c.in_default-read_at-2.ensures.block)).own.rest_is

pub returns-in_default-read_at-2-clause-difference : goal.returns-in_default-read_at-2-clause-difference
returns-in_default-read_at-2-clause-difference g c =
    let inv = c.loop-cut.invariant in
    let reaches : g.T.Block.number c.loop-cut.rest.0 ≤ g.T.Block.number c.loop-cut.cut.1 = grind
    (arith, nat_tests, g.met.T.Block.in_order, g.met.T.Item.Ord.matches_partial_cmp, c.if-lt.ensures) in
    let beyond : g.T.Block.number c.loop-cut.cut.1 < g.T.Block.number c.loop-cut.rest.1 = grind
    (arith, nat_tests, g.met.T.Block.in_order, g.met.T.Item.Ord.matches_partial_cmp, c.if-le.ensures) in
    let decided = walk_decides inv.walk c.in_ok-push_before.ensures in
    walk_rest (walk_cut inv.walk decided c.item_after-rest.result None reaches beyond c.item_after-rest.ensures
    (rw inv.other.kept at c.in_default-read_at-2.ensures.block)) _
    (rw inv.own.kept at c.keep_rest-in_default-read_at-2.ensures.chain)

pub returns-in_default-read_at-2-clause-few : goal.returns-in_default-read_at-2-clause-few
returns-in_default-read_at-2-clause-few g c =
    let inv = c.loop-cut.invariant in
    let reaches : g.T.Block.number c.loop-cut.rest.0 ≤ g.T.Block.number c.loop-cut.cut.1 = grind
    (arith, nat_tests, g.met.T.Block.in_order, g.met.T.Item.Ord.matches_partial_cmp, c.if-lt.ensures) in
    let beyond : g.T.Block.number c.loop-cut.cut.1 < g.T.Block.number c.loop-cut.rest.1 = grind
    (arith, nat_tests, g.met.T.Block.in_order, g.met.T.Item.Ord.matches_partial_cmp, c.if-le.ensures) in
    let decided = walk_decides inv.walk c.in_ok-push_before.ensures in
    walk_few (walk_cut inv.walk decided c.item_after-rest.result None reaches beyond c.item_after-rest.ensures
    (rw inv.other.kept at c.in_default-read_at-2.ensures.block)) _
    (rw inv.own.kept at c.keep_rest-in_default-read_at-2.ensures.few)

pub loop-cut-preserved : goal.loop-cut-preserved
loop-cut-preserved g c =
    let inv = c.loop-cut.invariant in
    let reaches : g.T.Block.number c.loop-cut.rest.0 ≤ g.T.Block.number c.loop-cut.cut.1 = grind
    (arith, nat_tests, g.met.T.Block.in_order, g.met.T.Item.Ord.matches_partial_cmp, c.if-lt.ensures) in
    let beyond : g.T.Block.number c.loop-cut.cut.1 < g.T.Block.number c.loop-cut.rest.1 = grind
    (arith, nat_tests, g.met.T.Block.in_order, g.met.T.Item.Ord.matches_partial_cmp, c.if-le.ensures) in
    let read = c.in-Some-read_at-2.ensures in
    let on = reader_next g.T.Block.bounds g.T.Block.number g.T.Block.last _ _ _ _ (Some _) _ _ _ inv.other read.block
    read.kept read.counted in
    let decided = walk_decides inv.walk c.in_ok-push_before.ensures in
    record {
      own = inv.own;
      other = on.0;
      walk = walk_cut inv.walk decided c.item_after-rest.result _ reaches beyond c.item_after-rest.ensures on.1;
    }
