-- The set of resources that a handle owns or lends.
use Rattle.std.specs.Prelude.{Option, Some, None}
use Rattle.std.specs.Box.Ownership.{box_owns}
use Rattle.std.specs.Ptr.{if_non_null, static_ref_at}
use Rattle.std.specs.declared.alloc.Global.{Global}
use Rattle.std.specs.contracts.alloc.Global as heap
use Rattle.std.specs.contracts.impls.GlobalAllocator.TheImpl.{ghosts}
use Rattle.rpki_resources.specs.Triples.{Triple}
use Rattle.rpki_resources.specs.contracts.set.ResourceSet as resource_set
use base.Fml.{Fml, ftrue, fex, fsep}
use denote.RattleType.{RattleType}
use denote.RawPtr.{Ptr, Testable}

-- The type of a set in memory.
abbrev pub set_row : RattleType
set_row = resource_set.the_row heap.the_row ghosts

-- This set is at the pointer, in a block of malloc. The owner of this fact may free the block.
abbrev pub boxed_set : Ptr → Triple → Fml
boxed_set p set = fex Global (λ alloc. box_owns (ghosts.dealloc_token alloc) set_row p set)

-- A pointer that C may compare with null.
abbrev pub testable : Ptr → Fml
testable p = fex (Testable p) (λ _. ftrue)

-- The right of an output: nothing, or the ownership of a set that was returned.
abbrev pub may_own_set : Ptr → Option (Triple) → Fml
may_own_set p None = ftrue
may_own_set p (Some set) = boxed_set p set

-- The right of a handle that is passed to be freed: null, or the ownership of a set.
abbrev pub owns_set : Ptr → Triple → Fml
owns_set p set = fsep (testable p) (if_non_null p (boxed_set p set))

-- The right of a handle that is only read: null, or a borrowed set. Any number of readers may borrow it.
abbrev pub lends_set : Ptr → Triple → Fml
lends_set p set = fsep (testable p) (if_non_null p (static_ref_at set_row p set))
