-- What `refused_as` returns for the answer of a call, and what `?` passes on of it.
use Rattle.std.proofs.Common.{◌≡◌, Err, MatchResult, Ok, Result, arith}
use Rattle.std.specs.Result.{IsErr, IsErrAnd}
use Rattle.rpki_text.specs.Memory.{IfRefused}
use Rattle.rpki_text.specs.declared.memory.OrMemory.{OrMemory}

-- the result has this value
abbrev pub HasValue : {T D : Type 0} → Result T (OrMemory D) → T → Type 0
HasValue result value = result ≡ Ok value

-- a value of the result is one of the answer
pub value_kept : {T E : Type 0} (D : Type 0) (P : T → Type 0) (Q : OrMemory E → Type 0) (answer : Result T (OrMemory E))
    (value : T) → MatchResult answer P Q → MatchResult answer (λ x. HasValue {D = D} (Ok value) x) (λ error. ⊥)
    → P value
value_kept D P Q (Ok x) value is kept = let same : value ≡ x = cc in rw same is
value_kept D P Q (Err error) value is never = absurd never

-- what is said of an error is said of the result that passes it on
pub passed_on : {T D : Type 0} (P : T → Type 0) (R : D → Type 0) (error : OrMemory D) (result : Result T (OrMemory D))
    → IsErr result × IsErrAnd result (λ (e : OrMemory D). e ≡ error) → IfRefused R error
    → MatchResult result P (IfRefused R)
passed_on P R error result passed is = grind (arith)
