-- What claims leave of an issuer's resources, and that it lies in them.
use Rattle.rpki_extensions.proofs.Common.{Ok, Err, MatchResult, Result, arith, ℕ, Claim, Holds, Runs, HasEachOf, Triple}
use Rattle.rpki_extensions.proofs.Common.{IfRefused, OrMemory, AreClaims, IsIssuedOfEach, IsNotIssuedOfEach}
use Rattle.rpki_extensions.proofs.Common.{HasVerifyError, IsVerified, Extensions}
use Rattle.rpki_chain.specs.Paths.{IsExcess, IsIssued}
use Rattle.rpki_chain.specs.declared.path.Overclaim.{Overclaim}
use Rattle.rpki_ipres.specs.Families.{IsWholeIn}
use Rattle.rpki_ipres.specs.Resources.{IsWholeClaim}
use Rattle.rpki_ipres.proofs.WholeClaims.{whole_excess, whole_issued}
use Rattle.rpki_text.specs.Memory.{ForRefused, IsMemory, IsRefusedAnd, MatchOrMemory}
use Rattle.rpki_extensions.proofs.Common.{Ipv4, Memory, inr, Refused, ◌≡◌}
use Rattle.rpki_extensions.specs.declared.error.VerifyError.{VerifyError}
use Rattle.rpki_extensions.specs.declared.error.VerifyError.TheVariants.{Ipv6 as OverIpv6}

-- what claims come to, said of their extensions
pub of_claims : {A : Type 0} (issuer : Triple) (certificate : Extensions) (asn v4 v6 : Claim)
    (answer : Result Triple (OrMemory (VerifyError A))) → AreClaims certificate asn v4 v6
    → MatchResult answer (IsIssuedOfEach issuer asn v4 v6 certificate.mode)
    (IfRefused (IsNotIssuedOfEach issuer asn v4 v6 certificate.mode))
    → MatchResult answer (IsVerified issuer certificate) (IfRefused (HasVerifyError issuer certificate))
of_claims issuer certificate asn v4 v6 answer are issued = grind (arith)

-- what is left of an issuer's numbers lies in them
left : (issuer set : Runs) (claim : Claim) (mode : Overclaim) → IsIssued (Holds issuer) claim mode set → (n : ℕ)
    → Holds set n → Holds issuer n
left issuer set claim mode is n h = ((is.runs.members n).0 h).0

issued_inside : (issuer set : Triple) (asn v4 v6 : Claim) (mode : Overclaim) → IsIssuedOfEach issuer asn v4 v6 mode set
    → HasEachOf issuer set
issued_inside issuer set asn v4 v6 mode is = record {
  asn = left issuer.asn set.asn asn mode is.asn;
  ipv4 = left issuer.ipv4 set.ipv4 v4 mode is.of_families.0;
  ipv6 = left issuer.ipv6 set.ipv6 v6 mode is.of_families.1;
}

pub inside : (issuer set : Triple) (certificate : Extensions) → IsVerified issuer certificate set → HasEachOf issuer set
inside issuer set certificate (asn, v4, v6, are, is) = issued_inside issuer set asn v4 v6 certificate.mode is

-- so of each answer
pub answer_inside : {E : Type 0} (issuer : Triple) (asn v4 v6 : Claim) (mode : Overclaim) (P : E → Type 0)
    (answer : Result Triple E) → MatchResult answer (IsIssuedOfEach issuer asn v4 v6 mode) P
    → MatchResult answer (HasEachOf issuer) (λ _. Unit {0})
answer_inside issuer asn v4 v6 mode P (Ok set) is = issued_inside issuer set asn v4 v6 mode is
answer_inside issuer asn v4 v6 mode P (Err error) is = tt

-- ---- whole addresses

-- the answer of an issuer's set to a claim
abbrev Answered : Runs → Claim → Overclaim → Result Runs (OrMemory Runs) → Type 0
Answered set claim mode answer =
    MatchResult answer (IsIssued (Holds set) claim mode) (IfRefused (IsExcess (Holds set) claim mode))

-- if the set and the claim are of whole addresses, so are the overclaimed ones
pub excess_is_whole : (set : Runs) (claim : Claim) (mode : Overclaim) (answer : Result Runs (OrMemory Runs))
    → IsWholeIn Ipv4 set → IsWholeClaim claim → Answered set claim mode answer → (error : OrMemory Runs)
    → answer ≡ Err error → ForRefused error (IsWholeIn Ipv4)
excess_is_whole set claim mode answer own whole is error same excess refused =
    whole_excess set excess claim mode own whole (rw (same, refused) at is)

-- and so are those that the claim leaves
pub left_is_whole : (set left : Runs) (claim : Claim) (mode : Overclaim) → IsWholeIn Ipv4 set → IsWholeClaim claim
    → IsIssued (Holds set) claim mode left → IsWholeIn Ipv4 left
left_is_whole set left claim mode own whole is = whole_issued set left claim mode own whole is

-- ---- answers

-- if an answer of a set has a value, the value is what the claim leaves
pub issued_of : (set left : Runs) (claim : Claim) (mode : Overclaim) (answer : Result Runs (OrMemory Runs))
    (S : Runs → Type 0) (Q : OrMemory Runs → Type 0) → Answered set claim mode answer → MatchResult answer S Q
    → ((value : Runs) → S value → value ≡ left) → ((error : OrMemory Runs) → Q error → ⊥)
    → IsIssued (Holds set) claim mode left
issued_of set left claim mode (Ok value) S Q is same one none = rw (← one value same) is
issued_of set left claim mode (Err error) S Q is same one none = absurd (none error same)

-- the error of an answer to the claim on IPv6, which comes last
pub last_refused : {A : Type 0} (issuer : Triple) (asn v4 v6 : Claim) (mode : Overclaim) (a b : Runs)
    (answer : Result Runs (OrMemory Runs)) (error : OrMemory (VerifyError A)) (S : Runs → Type 0)
    → IsIssued (Holds issuer.asn) asn mode a → IsIssued (Holds issuer.ipv4) v4 mode b
    → Answered issuer.ipv6 v6 mode answer
    → MatchResult answer S (λ from. MatchOrMemory from
    (λ excess. IsRefusedAnd error (λ reason. reason ≡ OverIpv6 excess)) (IsMemory error))
    → ((value : Runs) → S value → ⊥) → IfRefused (IsNotIssuedOfEach issuer asn v4 v6 mode) error
last_refused issuer asn v4 v6 mode a b (Ok value) error S first second is same none = absurd (none value same)
last_refused issuer asn v4 v6 mode a b (Err (Refused excess)) (Refused reason) S first second is same none =
    rw same (inr ((a, first), inr ((b, second), is)))
last_refused issuer asn v4 v6 mode a b (Err (Refused excess)) (Memory error) S first second is same none = tt
last_refused issuer asn v4 v6 mode a b (Err (Memory memory)) (Refused reason) S first second is same none =
    absurd same
last_refused issuer asn v4 v6 mode a b (Err (Memory memory)) (Memory error) S first second is same none = tt
