-- A block in new form, made anew from its bounds, is the same.
use Rattle.rpki_chain_core.proofs.Common.{List, Some, [], arith, take, ℕ, ◌++◌, ◌+◌, ◌∙◌, ◌∷◌, ◌≡◌, take_more, IsChain}
use Rattle.rpki_chain_core.proofs.Common.{numbers}
use Rattle.rpki_chain_core.proofs.Chains.{element_at}
use Rattle.rpki_chain_core.proofs.WalkSides.{IsAt, ordered_at}
use Rattle.rpki_chain_core.proofs.intersection.first_blocks.Goals as goal

-- the block that is made of the bounds at hand comes behind the first blocks
one_more : {B : Type 0} (f : B → ℕ × ℕ) (form : ℕ × ℕ → B) (xs : List B) (i : ℕ) (b : ℕ × ℕ) → IsChain f form xs
    → IsAt f xs i (Some b) → take i xs ++ form b ∷ [] ≡ take (i + 1) xs
one_more f form xs i b h at =
    let x = (element_at xs i at.0).0 in
    let new = h.new_form i x at.0 in
    let more = take_more xs i x at.0 in
    let bounds = at.1 x in
    cc

pub new-requires : goal.new-requires
new-requires g c =
    let test = c.loop-at-test.true in
    let bound = c.requires in
    ordered_at g.T.Block.bounds g.T.Block.form _ _ (numbers g.T.Block.number c.read-min.result) c.len-len.ensures.chain
    (omega arith, rw c.loop-at.invariant.kept at c.read-min.ensures.value)

pub loop-at-preserved : goal.loop-at-preserved
loop-at-preserved g c =
    let inv = c.loop-at.invariant in
    let read = c.read-min.ensures in
    let test = c.loop-at-test.true in
    let bound = c.requires in
    let before = inv.reads in
    let counted = read.counted in
    record {
      reads = omega arith;
      made = rw (c.in_ok-push.ensures.items, inv.made, c.new.ensures.value)
          (one_more g.T.Block.bounds g.T.Block.form _ _ _ c.len-len.ensures.chain
          (omega arith, rw inv.kept at read.value));
      kept = read.kept ∙ inv.kept;
    }
