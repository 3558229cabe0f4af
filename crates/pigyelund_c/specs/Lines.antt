-- Answers of `respath` that are error messages.
use Rattle.std.specs.Prelude.{ℕ, List, IsTrue, codes, nat_eq}
use Rattle.std.specs.List.{starts_with}

-- The text begins with `error: `.
abbrev pub BeginsAsError : List ℕ → Type 0
BeginsAsError text = IsTrue (starts_with nat_eq text (codes "error: "))
