-- Equality by bounds.
use Rattle.std.specs.Prelude.{ℕ, Bool, ◌==◌, ◌&&◌}

-- whether two bounds are the same
abbrev pub is_same_pair : ℕ × ℕ → ℕ × ℕ → Bool
is_same_pair a b = (a.0 == b.0) && (a.1 == b.1)

-- whether two blocks have the same bounds
abbrev pub have_same_bounds : {B : Type 0} → (B → ℕ × ℕ) → B → B → Bool
have_same_bounds bounds a b = is_same_pair (bounds a) (bounds b)
