-- The printed texts of errors, as in the Rust crate `rpki` 0.20.1.
use Rattle.std.specs.Prelude.{ℕ, List, codes}
use Rattle.rpki_as_block.specs.declared.error.FromStrError.{FromStrError}
use Rattle.rpki_as_block.specs.declared.error.FromStrError.TheVariants.{BadAsn, BadRange, BadBlocks}

-- the printed text of an error
abbrev pub as_from_str_error_text : FromStrError → List ℕ
as_from_str_error_text BadAsn = codes "Bad AS number. Expected format: AS#"
as_from_str_error_text BadRange = codes "Bad AS range. Expected format: AS#-AS#"
as_from_str_error_text BadBlocks = codes "Cannot parse blocks."
