-- What is written of blocks of AS numbers.
use Rattle.rpki_as_block.proofs.Common.{List, Ok, Option, Result, Some, arith, length, refl, subst, sym, true, ℕ, ◌++◌}
use Rattle.rpki_as_block.proofs.Common.{[], ◌<◌, ◌^◌, ◌∷◌, ◌≡◌, ◌≤◌, length-append, as_number_octets, IsNew}
use Rattle.rpki_as_block.proofs.Common.{same_reading, length-header, u32_is, value_is, IsReading, HasAsNumbers}
use Rattle.rpki_as_block.proofs.Common.{IsAsBlock, IsSetBlock, as_block_octets, as_range_content, as_block_has_octets}
use Rattle.rpki_as_block.proofs.Common.{as_block_reading, as_block_modal, IsStrictBlock, as_block_at, as_block_by}
use Rattle.rpki_as_block.proofs.Common.{as_bounds, new_as_block, AsBlock, Id, Range}
use Rattle.rpki_der.proofs.SequenceModes.{optional_back_by}
use Rattle.rpki_der.specs.Der.{Spells, header, integer}
use Rattle.rpki_der.specs.Reading.{optional, refined, value_at}
use Rattle.rpki_der.specs.Views.{Takes, is_strict, left}
use Rattle.rpki_der.specs.declared.error.DerError.{DerError}
use Rattle.rpki_der.specs.declared.cursor.Cursor.{Cursor}
use Rattle.rpki_der.proofs.ContentReadings.{length-integer}

-- an AS number has seven octets at most
pub length-number : (n : ℕ) → n < 2 ^ 32 → length (as_number_octets n) ≤ 7
length-number n lt =
    let few = length-integer n lt in
    omega (
      arith,
      few,
      length-header 2 (length (integer n)) (omega arith),
      length-append (header 2 (length (integer n)))
          (integer n),
    )

-- two have fourteen
pub length-content : (b : ℕ × ℕ) → b.0 ≤ b.1 → b.1 < 2 ^ 32 → length (as_range_content b) ≤ 14
length-content b ordered lt =
    omega (
      arith,
      length-number b.0 (omega arith),
      length-number b.1 lt,
      length-append (as_number_octets b.0)
          (as_number_octets b.1),
    )

-- how long a header is
pub ruleset header_lengths = (length-header)

-- what is written of a block is the block
pub block_written : (x : AsBlock) → (as_bounds x).0 ≤ (as_bounds x).1 → (as_bounds x).1 < 2 ^ 32
    → IsAsBlock (as_block_octets x) x
block_written (Id n) ordered lt = u32_is n lt
block_written (Range r) ordered lt =
    let short = length-content (r.min, r.max) ordered lt in (
      ordered,
      (
        as_range_content (r.min, r.max),
        value_is 48 (as_range_content (r.min, r.max)) (omega arith)
            (omega arith),
        (as_number_octets r.max, (as_number_octets r.min, u32_is r.min (omega arith), refl), u32_is r.max lt),
      ),
    )

-- ---- canonical octets

-- octets that are a block are those that are written of it
pub block_spelled : (bytes : List ℕ) (x : AsBlock) → IsAsBlock bytes x → bytes ≡ as_block_octets x
block_spelled bytes x is = grind (arith)

-- its numbers
pub block_numbers : (bytes : List ℕ) (x : AsBlock) → IsAsBlock bytes x
    → ((as_bounds x).0 ≤ (as_bounds x).1) × ((as_bounds x).1 < 2 ^ 32)
block_numbers bytes x is = grind (arith)

-- and it is read again, whatever follows it
pub read_again : (x : AsBlock) (rest : List ℕ) → HasAsNumbers x
    → as_block_at (as_block_octets x ++ rest) ≡ Ok (x, rest)
read_again x rest numbers = as_block_reading.again (as_block_octets x) x rest (block_written x numbers.0 numbers.1)

-- octets that begin with a block aren't at their end
pub block_found : (bytes : List ℕ) (x : AsBlock) (rest : List ℕ) → as_block_at bytes ≡ Ok (x, rest)
    → optional as_block_at bytes ≡ Ok (Some x, rest)
unfolding optional refined value_at
block_found [] x rest e = absurd cc
block_found (b ∷ bytes) x rest e = grind (arith)

-- strictly, these octets are found, of the blocks that sets have
pub set_block_is : (bytes : List ℕ) (x : AsBlock) → IsStrictBlock bytes x → Spells IsSetBlock as_block_octets bytes x
set_block_is bytes x h = grind (arith, block_numbers, block_spelled)

pub is_set_block : (bytes : List ℕ) (x : AsBlock) → Spells IsSetBlock as_block_octets bytes x → IsStrictBlock bytes x
is_set_block bytes x (is, spelled) =
    (subst (λ (t : List ℕ). IsAsBlock t x) (sym spelled) (block_written x is.ordered is.below), is.new_form)

pub set_block_reading : IsReading (Spells IsSetBlock as_block_octets) (as_block_by true)
set_block_reading =
    same_reading IsStrictBlock (Spells IsSetBlock as_block_octets) (as_block_by true)
    (λ bytes x fits is. set_block_is bytes x is) is_set_block as_block_modal.tight

-- what was written of a block is read as the block
pub block_back : (old new : Cursor) (result : Result (Option AsBlock) DerError)
    → Takes (λ block. block) old new result (optional (as_block_by (is_strict old))) → (block : AsBlock) (rest : List ℕ)
    → HasAsNumbers block → (is_strict old ≡ true → IsNew as_bounds new_as_block block)
    → left old ≡ as_block_octets block ++ rest → (result ≡ Ok (Some block)) × (left new ≡ rest)
block_back old new result took block rest numbers form at =
    let written : IsAsBlock (as_block_octets block) block = block_written block numbers.0 numbers.1 in
    optional_back_by IsAsBlock IsStrictBlock as_block_at as_block_by old new result as_block_reading as_block_modal took
    (as_block_octets block) rest block (as_block_has_octets (as_block_octets block) block written) written
    (λ strict. (written, form strict)) at
