-- The results of the readers of addresses at the front of a text: std's readers on lists, with numbers for groups.
use Rattle.std.specs.Prelude.{ℕ, List, Bool, length}
use Rattle.std.specs.Net.Reader.{Segments}
use Rattle.rpki_text.specs.Digits.{from_groups, from_octets}

-- the groups that were read as one number, the number of groups, whether they end in an IPv4 text, and the text after
-- them
abbrev pub numbered : Segments → ℕ × ℕ × Bool × List ℕ
numbered found = (from_groups found.0, length found.0, found.1, found.2)

-- eight groups as one number, and the text after them
abbrev pub with_number : List ℕ × List ℕ → ℕ × List ℕ
with_number read = (from_groups read.0, read.1)

-- four octets as one number, and the text after them
abbrev pub with_octets : List ℕ × List ℕ → ℕ × List ℕ
with_octets read = (from_octets read.0, read.1)
