-- The bytes before the index are visible, and so many of them are commas.
use Rattle.roa_vrps.proofs.Common.{IsInRange, count_by, get_or, is_comma, take, ℕ, ◌<◌, ◌≡◌, ◌≤◌}
use Rattle.roa_vrps.proofs.usual_row.count_commas.Given as goal

abbrev pub invariant-loop-byte : goal.invariant-loop-byte
invariant-loop-byte l = record {
  few : l.count ≤ l.byte-index;
  count : l.count ≡ count_by is_comma (take l.byte-index l.text);
  shown : (k : ℕ) (d : ℕ) → k < l.byte-index → IsInRange 44 126 (get_or l.text k d);
}
