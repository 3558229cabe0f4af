-- The printed texts of errors, as in the Rust crate `rpki` 0.20.1.
use Rattle.std.specs.Prelude.{ℕ, List, ◌++◌, codes}
use Rattle.rpki_chain.specs.Runs.{Runs}
use Rattle.rpki_as.specs.ListText.{as_list_text}

-- the printed text of the error for overclaimed AS numbers, which are claimed and which the issuer doesn't have
abbrev pub overclaimed_as_text : Runs → List ℕ
overclaimed_as_text excess = codes "overclaimed AS resources: " ++ as_list_text excess
