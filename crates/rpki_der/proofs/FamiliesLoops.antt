-- The loop over the members: what was found, and what is left, give the whole.
use Rattle.rpki_der.proofs.Common.{Bool, Err, List, Ok, Result, [], arith, length, refl, ℕ, ◌<◌, ◌∷◌, ◌≡◌, ◌≢◌, ◌≤◌}
use Rattle.rpki_der.proofs.Common.{DerError, IfRefused, OrMemory, ByFamily, SaysByFamily, SaysClaim, members_by, seen}
use Rattle.rpki_der.proofs.Common.{with_claim, AddressFamily, Reading}

module _ {X Y : Type 0} (member_of : Bool × Bool → Reading (AddressFamily × Y)) (C : Y → X → Type 0) where
  -- what was found stands for what was read before, and this and what is left give the whole
  pub record SoFar (found : ByFamily X) (bytes : List ℕ) (total : Result (ByFamily Y) DerError) : Type 0 where
    pub before : ByFamily Y
    pub says : SaysByFamily C before found
    pub steps : ℕ
    pub enough : length bytes ≤ steps
    pub whole : members_by member_of steps before bytes ≡ total

  -- a turn that reads a member
  pub loop_more : (found : ByFamily X) (bytes : List ℕ) (total : Result (ByFamily Y) DerError)
      (read : AddressFamily × Y) (member : AddressFamily × X) (rest : List ℕ) → SoFar found bytes total
      → member_of (seen found) bytes ≡ Ok (read, rest) → SaysClaim C read member → length rest < length bytes
      → SoFar (with_claim found member.0 member.1) rest total
  unfolding members_by
  loop_more found bytes total read member rest so at claim fewer = grind arith

  -- at the end of the octets what was found is all
  pub loop_ends : (found : ByFamily X) (bytes : List ℕ) (total : Result (ByFamily Y) DerError) → SoFar found bytes total
      → bytes ≡ [] → (all : ByFamily Y) × (total ≡ Ok all) × SaysByFamily C all found
  unfolding members_by
  loop_ends found bytes total so none = grind arith

  -- a turn that fails, by the steps that are left
  fails_by : (steps : ℕ) (before : ByFamily Y) (b : ℕ) (bytes : List ℕ) (e : DerError) → length (b ∷ bytes) ≤ steps
      → member_of (seen before) (b ∷ bytes) ≡ Err e → members_by member_of steps before (b ∷ bytes) ≡ Err e
  unfolding members_by
  fails_by steps before b bytes e enough read = grind (arith)

  -- a turn that fails is what the whole fails with, unless memory was wanting
  pub loop_fails_or_memory : (found : ByFamily X) (bytes : List ℕ) (total : Result (ByFamily Y) DerError)
      (e : OrMemory DerError) → SoFar found bytes total → bytes ≢ []
      → IfRefused (λ fault. member_of (seen found) bytes ≡ Err fault) e → IfRefused (λ fault. total ≡ Err fault) e
  loop_fails_or_memory found [] total e so some read = absurd (some refl)
  loop_fails_or_memory found (b ∷ bytes) total e so some read =
      let same : seen so.before ≡ seen found = grind arith in
      grind (arith, fails_by so.steps so.before b bytes)
