use Rattle.roa_slurm.proofs.Common.{arith, ◌+◌, ◌≡◌, refl}
use Rattle.std.proofs.lemmas.List.{length-append}
use Rattle.roa_slurm.proofs.ListLemmas.{invalid_at, listed_more}
use Rattle.roa_slurm.proofs.item.read_items.Goals as goal

-- the first invalid item
pub returns-in-Err : goal.returns-in-Err
returns-in-Err g c =
    let at : 1 + c.loop-item.item-index ≡ c.len-number.result + 1 = grind arith in
    let found =
    invalid_at g.T.SlurmItem.is_item g.T.SlurmItem.fails 1 (c.len-number.result + 1) c.deref-item-items.result.now
    c.loop-item.item-index c.item-item.result c.loop-item.values.items c.in-Err.fault c.loop-item-test.true
    c.item-item.is c.loop-item.invariant.listed c.in-Err.ensures at in
    (c.len-number.result + 1, c.in-Err.fault, rw c.deref-item-items.ensures.value at found, refl)

-- an item more
pub loop-item-preserved : goal.loop-item-preserved
loop-item-preserved g c = record {
  listed = rw c.in_ok-push-in-Ok.ensures.items
      (listed_more g.T.SlurmItem.is_item _ _ _ _ c.in-Ok.value c.loop-item-test.true c.item-item.is
      c.loop-item.invariant.listed c.in-Ok.ensures);
  count = rw (c.in_ok-push-in-Ok.ensures.items, length-append) (omega (arith, c.loop-item.invariant.count));
}
