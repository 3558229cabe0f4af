-- Groups of lines. Each line is with a value: what is known of its answer.
use Rattle.std.specs.Prelude.{ℕ, List, map}
use Rattle.std.specs.List.{All}
use Rattle.lines_engine.specs.declared.group.BegunLine.{BegunLine}

-- the lines of a group, in order
abbrev pub group_lines : {B : Type 0} → List (BegunLine B) → List (List ℕ)
group_lines group = map (λ asked. asked.line.now) group

-- Each value of the group is what is known of the answer to its line. `Is` says which values are so for a line.
abbrev pub AnswersAreBegun : {B : Type 0} → (B → List ℕ → Type 0) → List (BegunLine B) → Type 0
AnswersAreBegun Is group = All (λ asked. Is asked.begun asked.line.now) group
