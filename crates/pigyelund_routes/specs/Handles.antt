-- The table that a handle owns or lends.
use Rattle.std.specs.Prelude.{List, Option, Some, None}
use Rattle.std.specs.Box.Ownership.{box_owns}
use Rattle.std.specs.Ptr.{if_non_null, static_ref_at}
use Rattle.std.specs.declared.alloc.Global.{Global}
use Rattle.std.specs.contracts.alloc.Global as heap
use Rattle.std.specs.contracts.impls.GlobalAllocator.TheImpl.{ghosts}
use Rattle.roa_origin.specs.Vrps.{Vrp}
use Rattle.roa_origin.specs.contracts.table.OriginTable as origin_table
use base.Fml.{Fml, ftrue, fex, fsep}
use denote.RattleType.{RattleType}
use denote.RawPtr.{Ptr, Testable}

-- The type of a table in memory.
abbrev pub table_row : RattleType
table_row = origin_table.the_row heap.the_row ghosts

-- A table with these VRPs is at the pointer, in a block of malloc. The owner of this fact may free the block.
abbrev pub boxed_table : Ptr → List Vrp → Fml
boxed_table p table = fex Global (λ alloc. box_owns (ghosts.dealloc_token alloc) table_row p table)

-- A pointer that C may compare with null.
abbrev pub testable : Ptr → Fml
testable p = fex (Testable p) (λ _. ftrue)

-- The right of an output: nothing, or the ownership of a table that was returned.
abbrev pub may_own_table : Ptr → Option (List Vrp) → Fml
may_own_table p None = ftrue
may_own_table p (Some table) = boxed_table p table

-- The right of a handle that is passed to be freed: null, or the ownership of a table.
abbrev pub owns_table : Ptr → List Vrp → Fml
owns_table p table = fsep (testable p) (if_non_null p (boxed_table p table))

-- The right of a handle that is only read: null, or a borrowed table. Any number of readers may borrow it.
abbrev pub lends_table : Ptr → List Vrp → Fml
lends_table p table = fsep (testable p) (if_non_null p (static_ref_at table_row p table))
