-- The list of prefixes that a traversal of a range from its beginning finds. proofs/CoverList proves that it is the
-- cover list of the range.
use Rattle.std.specs.Prelude.{ℕ, zero, suc, ◌+◌, ◌-◌, ◌%◌, ◌^◌, ◌==◌, nat_le, ◌&&◌, List, [], ◌∷◌, if◌then◌else◌}
use Rattle.std.specs.Prelude.{Option, Some, None}
use Rattle.rpki_cover.specs.Prefixes.{PrefixValue}

-- the highest k up to the first argument for which 2 ^ k divides a and the 2 ^ k numbers from a on end at b or
-- before; 0 if there is no such k
abbrev pub free_bits_upto : ℕ → ℕ → ℕ → ℕ
free_bits_upto zero a b = 0
free_bits_upto (suc k) a b =
    (if (a % 2 ^ suc k == 0) && nat_le (a + 2 ^ suc k) (b + 1) then suc k else free_bits_upto k a b)

-- the largest prefix from a on, then the largest one from the number after it on, and so on; at most as many as the
-- first argument says
abbrev pub cover_list_upto : ℕ → ℕ → ℕ → ℕ → List PrefixValue
cover_list_upto zero w a b = []
cover_list_upto (suc n) w a b =
    (if nat_le a b then
    record { first = a; len = w - free_bits_upto w a b } ∷ cover_list_upto n w (a + 2 ^ free_bits_upto w a b) b
    else [])

-- the number of bits that are not fixed in the largest prefix of width w that begins with a and ends at b or before
unfoldable pub free_bits : ℕ → ℕ → ℕ → ℕ
free_bits w a b = free_bits_upto w a b

-- the cover list, at width w, of the numbers from a to b
unfoldable pub cover_list : ℕ → ℕ → ℕ → List PrefixValue
cover_list w a b = cover_list_upto (b + 1 - a) w a b

-- the cover list of the rest of a range, or no prefixes if nothing is left
abbrev pub left_cover : ℕ → Option (ℕ × ℕ) → List PrefixValue
left_cover w None = []
left_cover w (Some (a, b)) = cover_list w a b
