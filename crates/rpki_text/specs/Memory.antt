-- The errors of calls that also allocate.
use Rattle.std.specs.Prelude.{◌≡◌, ℕ, List, Option, Some, codes}
use Rattle.rpki_text.specs.declared.memory.OrMemory.{OrMemory}
use Rattle.rpki_text.specs.declared.memory.OrMemory.TheVariants.{Refused, Memory}

-- the error is out of memory
abbrev pub IsMemory : {E : Type 0} → OrMemory E → Type 0
IsMemory (Refused e) = ⊥
IsMemory (Memory e) = Unit {0}

-- if the call refuses its input, P holds of the refusal
abbrev pub IfRefused : {E : Type 0} → (E → Type 0) → OrMemory E → Type 0
IfRefused P (Refused e) = P e
IfRefused P (Memory e) = Unit {0}

-- P holds of each refusal that the error may be: IfRefused as a precondition
abbrev pub ForRefused : {E : Type 0} → OrMemory E → (E → Type 0) → Type 0
ForRefused {E} error P = (e : E) → error ≡ Refused e → P e

-- the call refuses its input, and P holds of the refusal
abbrev pub IsRefusedAnd : {E : Type 0} → OrMemory E → (E → Type 0) → Type 0
IsRefusedAnd (Refused e) P = P e
IsRefusedAnd (Memory e) P = ⊥

-- P holds of the refusal if the call refuses its input, and Q holds if it is out of memory
abbrev pub MatchOrMemory : {E : Type 0} → OrMemory E → (E → Type 0) → Type 0 → Type 0
MatchOrMemory (Refused e) P Q = P e
MatchOrMemory (Memory e) P Q = Q

-- the printed text: the text of the refusal, if it is known, or `out of memory`
abbrev pub or_memory_text : {E : Type 0} → (E → Option (List ℕ)) → OrMemory E → Option (List ℕ)
or_memory_text text (Refused e) = text e
or_memory_text text (Memory e) = Some (codes "out of memory")
