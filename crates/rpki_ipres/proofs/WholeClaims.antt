-- Where a set and the claims on it consist of whole IPv4 addresses, so does what they leave, and what is too much.
use Rattle.rpki_ipres.proofs.Common.{List, arith, subst, sym, take, ℕ, All-take, All, Claim, Holds, IsRunsOf, Runs}
use Rattle.rpki_ipres.proofs.Common.{IsWhole, IsWholeClaim}
use Rattle.rpki_chain.specs.Paths.{Lists, Leaves, Exceeds, IsIssued, IsExcess, IsUncovered, IsLeft, IsPathResult}
use Rattle.rpki_chain.specs.Paths.{IsFirstRefusal}
use Rattle.rpki_chain.specs.declared.path.Overclaim.{Overclaim}
use Rattle.rpki_chain.specs.declared.path.Overclaim.TheVariants.{Refuse, Trim}
use Rattle.rpki_chain.specs.declared.path.PathRefusal.{PathRefusal}
use Rattle.rpki_chain.specs.declared.path.Step.{Step}

-- what a whole claim lists, and what it leaves, is whole
whole_lists : (claim : Claim) → IsWholeClaim claim → IsWhole (Lists claim)
whole_lists claim whole m n same l = grind arith

pub whole_leaves : (claim : Claim) → IsWholeClaim claim → IsWhole (Leaves claim)
whole_leaves claim whole m n same l = grind arith

-- and so is that by which it is too much
pub whole_exceeds : (S : ℕ → Type 0) (claim : Claim) (mode : Overclaim) → IsWhole S → IsWholeClaim claim
    → IsWhole (Exceeds S claim mode)
whole_exceeds S claim Refuse set whole m n same (listed, outside) =
    (whole_lists claim whole m n same listed, λ held. outside (set n m (sym same) held))
whole_exceeds S claim Trim set whole m n same e = e

-- the runs of a whole set are whole
pub whole_members : (S : ℕ → Type 0) (runs : Runs) → IsRunsOf S runs → IsWhole S → IsWhole (Holds runs)
whole_members S runs is whole m n same held = (is.members n).1 (whole m n same ((is.members m).0 held))

pub whole_issued : (set issued : Runs) (claim : Claim) (mode : Overclaim) → IsWhole (Holds set) → IsWholeClaim claim
    → IsIssued (Holds set) claim mode issued → IsWhole (Holds issued)
whole_issued set issued claim mode own whole h =
    whole_members _ issued h.runs
    (λ m n same (held, leaves). (own m n same held, whole_leaves claim whole m n same leaves))

pub whole_excess : (set excess : Runs) (claim : Claim) (mode : Overclaim) → IsWhole (Holds set) → IsWholeClaim claim
    → IsExcess (Holds set) claim mode excess → IsWhole (Holds excess)
whole_excess set excess claim mode own whole h =
    whole_members _ excess h.runs (whole_exceeds (Holds set) claim mode own whole)

pub whole_uncovered : (set excess : Runs) (issuer : Claim) → IsWhole (Holds set) → IsWholeClaim issuer
    → IsUncovered (Holds set) issuer excess → IsWhole (Holds excess)
whole_uncovered set excess issuer own whole h =
    whole_members _ excess h.runs
    (λ m n same (held, outside).
    (own m n same held, λ leaves. outside (whole_leaves issuer whole n m (sym same) leaves)))

-- what a path of whole claims leaves of a whole set
whole_left : (set : Runs) (steps : List (Step Claim)) → IsWhole (Holds set)
    → All (λ (s : Step Claim). IsWholeClaim s.claim) steps → IsWhole (IsLeft (λ c. c) (Holds set) steps)
whole_left set steps own whole m n same (held, all) =
    (own m n same held, λ k d lt. whole_leaves _ (whole k d lt) m n same (all k d lt))

pub whole_result : (set left : Runs) (steps : List (Step Claim)) → IsWhole (Holds set)
    → All (λ (s : Step Claim). IsWholeClaim s.claim) steps → IsPathResult (λ c. c) (Holds set) steps left
    → IsWhole (Holds left)
whole_result set left steps own whole h = whole_members _ left h.runs (whole_left set steps own whole)

pub whole_refusal : (set : Runs) (steps : List (Step Claim)) (refusal : PathRefusal Runs) → IsWhole (Holds set)
    → All (λ (s : Step Claim). IsWholeClaim s.claim) steps → IsFirstRefusal (λ c. c) (Holds set) steps refusal
    → IsWhole (Holds refusal.fault)
whole_refusal set steps refusal own whole h = whole_members _ refusal.fault h.excess (λ m n same (step, lt, is, e). (
  step,
  lt,
  is,
  whole_exceeds (IsLeft (λ c. c) (Holds set) (take refusal.step steps)) step.claim step.mode
      (whole_left set (take refusal.step steps) own
      (All-take (λ (s : Step Claim). IsWholeClaim s.claim) refusal.step steps whole))
      (subst (λ (s : Step Claim). IsWholeClaim s.claim) is (whole refusal.step step lt)) m n same e,
))
