-- The command, the kind and the argument of a line.
use Rattle.std.specs.Prelude.{ℕ, List}
use Rattle.std.specs.List.{before_first, after_first}
use Rattle.rpki_text.specs.Cuts.{is_space}

-- the line up to its first space
abbrev pub command_of : List ℕ → List ℕ
command_of line = before_first is_space line

-- the text after the command, up to its own first space
abbrev pub kind_of : List ℕ → List ℕ
kind_of line = before_first is_space (after_first is_space line)

-- the text after the kind
abbrev pub argument_of : List ℕ → List ℕ
argument_of line = after_first is_space (after_first is_space line)
