-- The answer to a line.
use Rattle.std.specs.Prelude.{◌≡◌, ◌≢◌, ℕ, List, codes}
use Rattle.std.specs.Str.{IsUtf8}
use Rattle.respath_lines.specs.Command.{command_of, kind_of, argument_of}
use Rattle.respath_lines.specs.Cover.{IsCoverAnswer}
use Rattle.respath_lines.specs.Der.{IsDerAnswer}
use Rattle.respath_lines.specs.Norm.{IsNormAnswer}
use Rattle.respath_lines.specs.Path.{IsPathAnswer}
use Rattle.respath_lines.specs.Read.{IsReadAnswer}

-- the first word of a line is not a command
pub record IsUnknown (command : List ℕ) : Type 0 where
  pub no_norm : command ≢ codes "norm"
  pub no_der : command ≢ codes "der"
  pub no_read : command ≢ codes "read"
  pub no_cover : command ≢ codes "cover"
  pub no_path : command ≢ codes "path"

-- the text is the answer to the line
pub record IsAnswer (line text : List ℕ) : Type 0 where
  pub not_utf8 : ¬ IsUtf8 line → text ≡ codes "error: not UTF-8"
  pub norm : IsUtf8 line → command_of line ≡ codes "norm" → IsNormAnswer (kind_of line) (argument_of line) text
  pub der : IsUtf8 line → command_of line ≡ codes "der" → IsDerAnswer (kind_of line) (argument_of line) text
  pub read : IsUtf8 line → command_of line ≡ codes "read" → IsReadAnswer (kind_of line) (argument_of line) text
  pub cover : IsUtf8 line → command_of line ≡ codes "cover" → IsCoverAnswer (kind_of line) (argument_of line) text
  pub path : IsUtf8 line → command_of line ≡ codes "path" → IsPathAnswer (kind_of line) (argument_of line) text
  pub unknown : IsUtf8 line → IsUnknown (command_of line) → text ≡ codes "error: unknown command"
