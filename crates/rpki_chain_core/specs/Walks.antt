-- The number of reads of a pass that continues after a block.
use Rattle.std.specs.Prelude.{◌≡◌, ℕ, ◌+◌, ◌-◌, ◌≤◌, List, length}

-- the blocks after an index were read at most once each, and all blocks are unchanged
pub record IsReadOn {B : Type 0} (xs now : List B) (at old new : ℕ) : Type 0 where
  pub kept : now ≡ xs
  pub reads : new ≤ old + (length xs - (at + 1))
