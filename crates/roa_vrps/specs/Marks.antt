-- The byte order mark, with which some programs begin a file (RFC 3629, 6).
use Rattle.std.specs.Prelude.{◌≡◌, ◌≢◌, ◌⊎◌, ℕ, List, [], ◌∷◌, ◌++◌}

-- the octets of the character U+FEFF in UTF-8 (RFC 3629, 3 and 6)
abbrev pub mark : List ℕ
mark = 239 ∷ 187 ∷ 191 ∷ []

-- The text of a file: what follows a byte order mark at its beginning, or the whole file if it begins with no such
-- mark. A reader of JSON may ignore the mark (RFC 8259, 8.1).
abbrev pub IsUnmarked : List ℕ → List ℕ → Type 0
IsUnmarked file text = (file ≡ mark ++ text) ⊎ ((file ≡ text) × ((rest : List ℕ) → file ≢ mark ++ rest))
