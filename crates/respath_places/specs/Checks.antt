-- The lines that a check looks for: the errors and the refusals.
use Rattle.std.specs.Prelude.{◌==◌, ◌&&◌, ◌||◌, ℕ, ◌+◌, Bool, true, false, IsTrue, List, [], ◌∷◌, codes, length}
use Rattle.std.specs.Prelude.{nat_lt, slice_index, if◌then◌else◌}
use Rattle.respath_places.specs.declared.check.Seen.{Seen}

-- the answer to an invalid line begins with it
abbrev pub error_word : List ℕ
error_word = codes "error: "

-- the answer to a path with a refused step begins with it
abbrev pub refused_word : List ℕ
refused_word = codes "refused "

-- whether octets begin with a word
abbrev pub begins_with : List ℕ → List ℕ → Bool
begins_with [] octets = true
begins_with (first ∷ word) [] = false
begins_with (first ∷ word) (octet ∷ octets) = first == octet && begins_with word octets

-- whether the octets after a line end, 0a, begin with a word
abbrev pub has_later : List ℕ → List ℕ → Bool
has_later word [] = false
has_later word (octet ∷ octets) = (octet == 10 && begins_with word octets) || has_later word octets

-- a line of the octets begins with one of the words
abbrev pub HasFaultLine : List ℕ → Type 0
HasFaultLine octets =
    IsTrue ((begins_with error_word octets || has_later error_word octets)
    || (begins_with refused_word octets || has_later refused_word octets))

-- The number of octets by which a line has matched a word, after one more octet. It is one more than the length of the
-- word if the line does not begin as the word does. It stays the length of the word after a line that begins with it.
abbrev pub matched_with : List ℕ → ℕ → ℕ → ℕ
matched_with word count octet =
    if count == length word then count
    else (if octet == 10 then 0
    else (if nat_lt count (length word) && (slice_index word count == octet) then count + 1 else length word + 1))

-- the number of matched octets after more octets
abbrev pub matched_after : List ℕ → ℕ → List ℕ → ℕ
matched_after word count [] = count
matched_after word count (octet ∷ octets) = matched_after word (matched_with word count octet) octets

-- whether the state is the one after the octets
abbrev pub is_after : List ℕ → Seen → Bool
is_after octets seen =
    seen.error == matched_after error_word 0 octets && seen.refused == matched_after refused_word 0 octets
