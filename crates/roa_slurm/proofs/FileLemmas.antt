-- Lemmas on the text of a SLURM file. The members of its object give its entries, or its fault.
use Rattle.roa_slurm.proofs.Common.{List, MatchResult, Result, Some, ℕ, ◌≡◌, Members, object, SlurmFault, arith}
use Rattle.std.specs.Str.{IsUtf8}
use Rattle.json.specs.Json.{document}
use Rattle.rpki_text.specs.Memory.{IfRefused}
use Rattle.rpki_text.specs.declared.memory.OrMemory.{OrMemory}
use Rattle.roa_slurm.specs.SlurmFiles.{AreSlurm, HasSlurmTextFault, HaveSlurmFault, IsSlurmText, slurm_value}
use Rattle.roa_slurm.specs.declared.slurm.Slurm.{Slurm}

-- if each fault of one kind is a fault of another kind, so is each refusal
pub refused_then : (P Q : SlurmFault → Type 0) → ((fault : SlurmFault) → P fault → Q fault) → (e : OrMemory SlurmFault)
    → IfRefused P e → IfRefused Q e
refused_then P Q implies e h = grind (arith, implies)

-- the result for the members is the result for the text
pub text_says : {A : Type 0} (text : List ℕ) (members : Members) (r : Result (Slurm A) (OrMemory SlurmFault))
    → IsUtf8 text → document text ≡ Some (object members)
    → MatchResult r (λ slurm. AreSlurm members (slurm_value slurm)) (IfRefused (HaveSlurmFault members))
    → MatchResult r (λ slurm. IsSlurmText text (slurm_value slurm)) (IfRefused (HasSlurmTextFault text))
text_says text ms r utf8 is h = grind (arith)
