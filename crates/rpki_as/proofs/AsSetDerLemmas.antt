-- What is written of sets of AS numbers, and what is taken of them in either mode.
use Rattle.rpki_as.proofs.Common.{AsBlock, ◌∙◌, List, None, [], ap, arith, get_or, length, map, suc, zero, ℕ, ◌*◌, ◌+◌}
use Rattle.rpki_as.proofs.Common.{◌<◌, ◌^◌, ◌∷◌, ◌≡◌, ◌≤◌, cases_lt, eq-eqb, le-ltb, lt-ltb, ne_eqb, length-append}
use Rattle.rpki_as.proofs.Common.{recursion_from_All, flat_map-map, AllByRecursion, block_numbers, block_spelled}
use Rattle.rpki_as.proofs.Common.{block_written, length-content, length-number, IsAsBlock, as_block_octets}
use Rattle.rpki_as.proofs.Common.{as_block_has_octets, as_block_reading, next_block_modal, IsNextBlock, IsStrictBlock}
use Rattle.rpki_as.proofs.Common.{as_block_at, next_block_by, as_bounds, new_as_block, IsSaidInModes, IsSequenceFrom}
use Rattle.rpki_as.proofs.Common.{IsSequenceOf, IsRunsOfBlocks, Runs, length-header, header, length_octets, value}
use Rattle.rpki_as.proofs.Common.{as_run_octets, as_sequence_octets, as_set_octets, as_blocks_at, as_blocks_by}
use Rattle.rpki_as.proofs.Common.{greatest_of_as_block, IsAsSet, AreBlocksInModes, set_said}
use Rattle.rpki_der.proofs.NumberOctets.{length-octets}
use Rattle.rpki_der.specs.SequenceWriting.{octets_of_all}

-- ---- how long the blocks of a set are

-- the runs of a set, each in order and below 2 ^ 32
IsRun32 : ℕ × ℕ → Type 0
IsRun32 b = (b.0 ≤ b.1) × (b.1 < 2 ^ 32)

runs_32 : (set : Runs) → IsAsSet set → AllByRecursion IsRun32 set
unfolding IsRun32
runs_32 set is =
    recursion_from_All IsRun32 set (λ k d small.
    (is.are_runs.ordered k d small, (let most = is.below k d small in omega arith)))

-- what is written of the blocks of runs is what is written of the set
pub blocks_octets : (set : Runs) (made : List AsBlock) → made ≡ map new_as_block set
    → octets_of_all as_block_octets made ≡ as_set_octets set
blocks_octets set made same = ap (octets_of_all as_block_octets) same ∙ flat_map-map as_block_octets new_as_block set

-- each run begins two above the one before
run_places : (set : Runs) → IsAsSet set → (k : ℕ) (d : ℕ × ℕ) → k < length set → k + k ≤ (get_or set k d).0
run_places set is zero d small = omega arith
run_places set is (suc k) d small = grind (arith, run_places set is k d (omega arith))

-- so there are at most 2 ^ 31
run_count : (set : Runs) → IsAsSet set → length set ≤ 2 ^ 31
run_count [] is = omega arith
run_count (b ∷ set) is = grind (arith, run_places (b ∷ set) is (length set) b (omega arith))

-- a run has sixteen octets at most
length-run : (b : ℕ × ℕ) → IsRun32 b → length (as_run_octets b) ≤ 16
unfolding IsRun32
length-run b is = grind (arith, cases_lt, eq-eqb, length-append, length-content, length-header, length-number, ne_eqb)

length-runs : (set : Runs) → AllByRecursion IsRun32 set → length (as_set_octets set) ≤ 16 * length set
length-runs [] all = omega arith
length-runs (b ∷ set) all = grind (arith, length-append, length-run, length-runs set all.1)

-- so a set has at most 2 ^ 35 octets
pub set_octets_few : (set : Runs) → IsAsSet set → length (as_set_octets set) ≤ 2 ^ 35
set_octets_few set is = grind (arith, length-runs, run_count, runs_32)

-- a value has at most ten octets more than its content
pub length-value : (tag : ℕ) (content : List ℕ) → length (value tag content) ≤ length content + 10
unfolding header length_octets
length-value tag content = grind (arith, cases_lt, le-ltb, length-append, length-octets, lt-ltb)

pub set_short : (set : Runs) → IsAsSet set → length (as_sequence_octets set) < 2 ^ 64
set_short set is = grind (arith, length-value, set_octets_few)

-- ---- in either mode

-- blocks in new form are what is written of them
pub blocks : AreBlocksInModes as_bounds new_as_block as_block_octets 4294967295 (λ b. Unit {0}) IsAsSet IsAsBlock
    IsStrictBlock as_block_at next_block_by
blocks = record {
  lenient = as_block_reading;
  has_octets = as_block_has_octets;
  modal = next_block_modal;
  looser = λ bytes x is. is.0;
  written = grind (arith, block_numbers, block_spelled, block_written);
  fitting = λ set is fit. is;
  fits = λ set is. (is, λ k d small. tt);
}

-- a SEQUENCE of blocks
pub set_in_modes : IsSaidInModes (IsSequenceOf IsAsBlock) (IsSequenceFrom greatest_of_as_block IsNextBlock None)
    (IsRunsOfBlocks as_bounds) IsAsSet as_sequence_octets as_blocks_at as_blocks_by
set_in_modes = set_said blocks
