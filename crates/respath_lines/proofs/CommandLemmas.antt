-- A text may be cut at its first space, and after it.
use Rattle.respath_lines.proofs.Common.{arith, length, ℕ, ◌+◌, ◌<◌, ◌≡◌, List, position_or_len, IsUtf8, nat_tests}
use Rattle.respath_lines.proofs.Common.{is_space}
use Rattle.std.specs.Str.{IsCharBoundary}
use Rattle.std.proofs.lemmas.List.Sums.{passes_at_first}
use Rattle.std.proofs.lemmas.Str.{IsCharBoundary-after_ascii, IsCharBoundary-before_ascii}

-- the first space is the boundary of a character
pub cut_before : (text : List ℕ) (at : ℕ) → at ≡ position_or_len is_space text → at < length text
    → IsCharBoundary text at
cut_before text at is small = grind (arith, nat_tests, passes_at_first is_space text 0, IsCharBoundary-before_ascii)

-- so is the byte after it
pub cut_behind : (text : List ℕ) (at : ℕ) → IsUtf8 text → at ≡ position_or_len is_space text → at < length text
    → IsCharBoundary text (at + 1)
cut_behind text at utf8 is small = grind (arith, nat_tests, passes_at_first is_space text 0, IsCharBoundary-after_ascii)
