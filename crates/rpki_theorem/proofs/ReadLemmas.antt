-- Results of readers: what is found at the front of octets, and what is read back.
use Rattle.rpki_theorem.proofs.Common.{Err, Front, IfErr, IfOk, IfRefused, IsMemory, List, MatchResult, Memory, NoFront}
use Rattle.rpki_theorem.proofs.Common.{Ok}
use Rattle.rpki_theorem.proofs.Common.{OrMemory, ReadsOrMemory, Refused, Result, left, subst, ℕ, ◌≡◌}
use Rattle.rpki_der.specs.declared.cursor.Cursor.{Cursor}
use Rattle.rpki_der.specs.declared.error.DerError.{DerError}

-- the result is the value at the front of the octets, or there is none
pub found_at_front : {X : Type 0} (G : List ℕ → X → Type 0) (old new : Cursor) (octets : List ℕ)
    (r : Result X (OrMemory DerError)) → left old ≡ octets → ReadsOrMemory G (λ x. x) old new r
    → MatchResult r (λ x. (rest : List ℕ) × Front G octets x rest) (IfRefused (λ _. NoFront G octets))
found_at_front G old new octets (Ok x) is h = (left new, subst (λ o. Front G o x (left new)) is h)
found_at_front G old new octets (Err (Refused e)) is h = subst (λ o. NoFront G o) is h.0
found_at_front G old new octets (Err (Memory e)) is h = tt

-- what is read back is the value, whatever is left
pub only_value : {X E : Type 0} (P Q : X → Type 0) (r : Result X (OrMemory E)) → MatchResult r (λ x. P x × Q x) IsMemory
    → MatchResult r P IsMemory
only_value P Q (Ok x) h = h.0
only_value P Q (Err e) h = h

-- what holds of each value, from what holds of each result
pub ok_of : {X E : Type 0} (P Q : X → Type 0) (N : E → Type 0) (r : Result X E) → ((x : X) → P x → Q x)
    → MatchResult r P N → IfOk r Q
ok_of P Q N (Ok x) k h = k x h
ok_of P Q N (Err e) k h = tt

-- what holds of each refusal, from what holds of each result
pub refused_of : {X E : Type 0} (P : X → Type 0) (N M : E → Type 0) (r : Result X (OrMemory E)) → ((e : E) → N e → M e)
    → MatchResult r P (IfRefused N) → IfErr r (IfRefused M)
refused_of P N M (Ok x) k h = tt
refused_of P N M (Err (Refused e)) k h = k e h
refused_of P N M (Err (Memory e)) k h = tt
