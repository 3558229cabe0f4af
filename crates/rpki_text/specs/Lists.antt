-- Texts of lists, as the Rust crate `rpki` 0.20.1 splits and prints them: the elements of a text, their values or the
-- first fault, and the printed text.
use Rattle.std.specs.Prelude.{◌≡◌, ℕ, List, [], ◌∷◌, ◌++◌, map, filter, length, codes, nat_lt, ◌==◌}
use Rattle.std.specs.List.{slice_split, flat_map}
use Rattle.std.specs.Str.{trim}

-- `b','`
abbrev pub comma : ℕ
comma = 44

-- Each part is trimmed of white space at its start and end, and empty parts are left out. White space is that of
-- Unicode, which std's `trim` removes: U+0009 to U+000D, U+0020, U+0085, U+00A0, U+1680, U+2000 to U+200A, U+2028,
-- U+2029, U+202F, U+205F and U+3000.
abbrev pub kept : List (List ℕ) → List (List ℕ)
kept parts = filter (λ part. nat_lt 0 (length part)) (map trim parts)

-- the elements of a list: the kept parts of its text, split at each comma
unfoldable pub elements : List ℕ → List (List ℕ)
elements text = kept (slice_split (λ b. b == comma) text)

-- the texts with another text between each two of them
abbrev pub joined_by : List ℕ → List (List ℕ) → List ℕ
joined_by between [] = []
joined_by between (text ∷ more) = text ++ flat_map (λ next. between ++ next) more

-- the printed text of a list: the texts with a comma and a space between them
abbrev pub joined : List (List ℕ) → List ℕ
joined texts = joined_by (codes ", ") texts

-- each text has the value at the same index
abbrev pub HaveValues : {A : Type 0} → (List ℕ → A → Type 0) → List (List ℕ) → List A → Type 0
HaveValues Has [] [] = Unit {0}
HaveValues Has (text ∷ texts) (value ∷ values) = Has text value × HaveValues Has texts values
HaveValues Has [] (value ∷ values) = ⊥
HaveValues Has (text ∷ texts) [] = ⊥

-- the first text that has no value has this fault
pub record HasFirstFault {A E : Type 0} (Has : List ℕ → A → Type 0) (Fails : List ℕ → E → Type 0)
    (texts : List (List ℕ)) (e : E) : Type 0 where
  pub front : List (List ℕ)
  pub bad : List ℕ
  pub rest : List (List ℕ)
  pub split : texts ≡ front ++ bad ∷ rest
  pub values : List A
  pub before : HaveValues Has front values
  pub fault : Fails bad e
