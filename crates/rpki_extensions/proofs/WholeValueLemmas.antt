-- What a take at the front of octets, and then their end, tell of all of them.
use Rattle.rpki_extensions.proofs.Common.{Err, IsErr, List, MatchResult, Ok, Result, [], arith, refl, ℕ, ◌∷◌, ◌≡◌, ◌≢◌}
use Rattle.rpki_extensions.proofs.Common.{ended, DerError, IfRefused, OrMemory}
use Rattle.std.specs.Result.{IsErrAnd}

-- the end was seen
pub nothing_left : (octets : List ℕ) (u : Unit {0}) → ended octets ≡ Ok u → octets ≡ []
nothing_left [] u e = refl
nothing_left (octet ∷ octets) u e = grind (arith)

-- or octets that are left
pub something_left : (octets : List ℕ) (fault : DerError) → ended octets ≡ Err fault → octets ≢ []
something_left octets fault e = λ n. grind (arith)

-- what is passed on is said of the answer
pub passed_on : {X E : Type 0} (Q : X → Type 0) (P : E → Type 0) (e : OrMemory E) (answer : Result X (OrMemory E))
    → IsErr answer × IsErrAnd answer (λ (f : OrMemory E). f ≡ e) → IfRefused P e → MatchResult answer Q (IfRefused P)
passed_on Q P e answer passed h = grind (arith)
