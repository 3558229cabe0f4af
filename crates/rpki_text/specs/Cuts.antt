-- Texts split at the first occurrence of a byte.
use Rattle.std.specs.Prelude.{◌≡◌, ◌==◌, ℕ, ◌≢◌, Bool, List, ◌∷◌, ◌++◌, EachIndex, slice_index}

-- `b'-'`
abbrev pub dash : ℕ
dash = 45

-- `b'/'`
abbrev pub slash : ℕ
slash = 47

-- the comma, which ends a field
abbrev pub is_comma : ℕ → Bool
is_comma byte = byte == 44

-- the space, which ends a word
abbrev pub is_space : ℕ → Bool
is_space byte = byte == 32

-- no byte of the text is b
abbrev pub HasNo : ℕ → List ℕ → Type 0
HasNo b text = EachIndex text (λ i. slice_index text i ≢ b)

-- the text is left, its first b, and right
pub record IsCutAt (b : ℕ) (text left right : List ℕ) : Type 0 where
  pub split : text ≡ left ++ b ∷ right
  pub first : HasNo b left

-- P holds of the two texts before and after the first b
pub record Around (b : ℕ) (text : List ℕ) (P : List ℕ → List ℕ → Type 0) : Type 0 where
  pub left : List ℕ
  pub right : List ℕ
  pub cut : IsCutAt b text left right
  pub holds : P left right
