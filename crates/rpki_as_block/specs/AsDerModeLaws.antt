-- Lemmas: the readings of blocks of AS numbers in either mode. Readers of lists depend on them.
use Rattle.std.proofs.Common.{◌≡◌, ℕ, Bool, true, false, not, eqb, cond, Option, refl, sym, ap}
use Rattle.std.proofs.lemmas.Bool.{eq-eqb}
use Rattle.rpki_block.specs.Beyond.{IsBeyond, is_beyond}
use Rattle.rpki_block.specs.Bounds.{IsNew}
use Rattle.rpki_block.proofs.BlockStartTest.{beyond_is, is_beyond_of}
use Rattle.rpki_der.specs.Reading.{IsModal}
use Rattle.rpki_der.proofs.ReadingModes.{plain_modal, tested_modal}
use Rattle.rpki_as_block.specs.AsDer.{IsAsBlock}
use Rattle.rpki_as_block.specs.AsDerLaws.{as_block_reading}
use Rattle.rpki_as_block.specs.AsDerModes.{IsNextBlock, IsStrictBlock}
use Rattle.rpki_as_block.specs.AsDerReading.{as_block_at, as_block_by, is_new_form, next_block_by}
use Rattle.rpki_as_block.specs.Blocks.{as_bounds, new_as_block}
use Rattle.rpki_as_block.specs.declared.block.AsBlock.{AsBlock}
use Rattle.rpki_as_block.specs.declared.block.AsBlock.TheVariants.{Id, Range}

-- a block passes the test of its form if and only if it is in new form
new_form_is : (x : AsBlock) → is_new_form x ≡ true → IsNew as_bounds new_as_block x
new_form_is (Id n) e = ap (λ t. cond t (Id n) (Range (record { min = n; max = n }))) (sym (eq-eqb n n refl))
new_form_is (Range r) e = by_test (eqb r.min r.max) e
  where
    by_test : (t : Bool) → not t ≡ true → Range r ≡ cond t (Id r.min) (Range r)
    by_test true e = absurd cc
    by_test false e = refl

is_new_form_of : (x : AsBlock) → IsNew as_bounds new_as_block x → is_new_form x ≡ true
is_new_form_of (Id n) e = refl
is_new_form_of (Range r) e = by_test (eqb r.min r.max) e
  where
    by_test : (t : Bool) → Range r ≡ cond t (Id r.min) (Range r) → not t ≡ true
    by_test true e = absurd cc
    by_test false e = refl

-- a strict reading finds exactly the blocks in new form, and refuses other blocks by NotCanonical
pub as_block_modal : IsModal IsStrictBlock as_block_at as_block_by
as_block_modal =
    tested_modal IsAsBlock (IsNew as_bounds new_as_block) as_block_at (λ strict. as_block_at) is_new_form
    (plain_modal IsAsBlock as_block_at as_block_reading) new_form_is is_new_form_of

-- a strict reading of a block after others requires also that it begins beyond them
pub next_block_modal : (before : Option ℕ)
    → IsModal (IsNextBlock before) as_block_at (λ strict. next_block_by strict before)
next_block_modal before =
    tested_modal IsStrictBlock (λ block. IsBeyond before (as_bounds block).0) as_block_at as_block_by
    (λ block. is_beyond before (as_bounds block).0) as_block_modal
    (λ x e. beyond_is before (as_bounds x).0 e) (λ x e. is_beyond_of before (as_bounds x).0 e)
