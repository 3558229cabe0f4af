-- The blocks of AS numbers that strict cursors take.
use Rattle.std.specs.Prelude.{ℕ, List, Option}
use Rattle.rpki_block.specs.Beyond.{IsBeyond}
use Rattle.rpki_block.specs.Bounds.{IsNew}
use Rattle.rpki_der.specs.Der.{Where}
use Rattle.rpki_as_block.specs.AsDer.{IsAsBlock}
use Rattle.rpki_as_block.specs.Blocks.{as_bounds, new_as_block}
use Rattle.rpki_as_block.specs.declared.block.AsBlock.{AsBlock}

-- a block in new form: strict cursors take only these
abbrev pub IsStrictBlock : List ℕ → AsBlock → Type 0
IsStrictBlock = Where IsAsBlock (IsNew as_bounds new_as_block)

-- a block in new form that begins more than one above the greatest number of the block before (RFC 3779, 3.2.3.4)
abbrev pub IsNextBlock : Option ℕ → List ℕ → AsBlock → Type 0
IsNextBlock before = Where IsStrictBlock (λ block. IsBeyond before (as_bounds block).0)
