-- The starts so far are those of the numbers gone through, and before the last of them the first bits write less than
-- the next number.
use Rattle.roa_origin.proofs.Common.{get_or, length, slice_index, ℕ, ◌<◌, ◌≡◌, ◌≤◌, Vrp, IsStart, first_bits}
use Rattle.roa_origin.proofs.starts.starts.Given as goal

abbrev pub invariant-loop-number : goal.invariant-loop-number
invariant-loop-number g l =
    (length l.starts.items ≡ l.number)
    × ((number : ℕ) → number < l.number → IsStart l.bits l.vrps number (slice_index l.starts.items number))
    × (l.at ≤ length l.vrps)
    × ((k : ℕ) (d : Vrp) → k < l.at → first_bits l.bits (get_or l.vrps k d).0.prefix < l.number)
