-- Claims on the numbers that an issuer has, and what remains of a root after a path of claims: sets by membership (RFC
-- 3779, 2.3 and 3.3; RFC 6487, 7.2; RFC 8360, 4).
use Rattle.std.specs.Prelude.{◌≡◌, ◌≢◌, ℕ, ◌<◌, List, [], ◌∷◌, ◌++◌, Option, All, codes, decimal, length, option_map}
use Rattle.std.specs.Prelude.{slice_index_or, take, ⊤}
use Rattle.rpki_chain.specs.Claims.{Claim}
use Rattle.rpki_chain.specs.Runs.{Runs, Holds, IsRunsOf}
use Rattle.rpki_chain.specs.declared.choice.ResourcesChoice.TheVariants.{Missing, Inherit, Blocks}
use Rattle.rpki_chain.specs.declared.path.Overclaim.{Overclaim}
use Rattle.rpki_chain.specs.declared.path.Overclaim.TheVariants.{Refuse, Trim}
use Rattle.rpki_chain.specs.declared.path.PathRefusal.{PathRefusal}
use Rattle.rpki_chain.specs.declared.path.Step.{Step}

-- ---- one claim

-- the claim lists n
abbrev pub Lists : Claim → ℕ → Type 0
Lists Missing n = ⊥
Lists Inherit n = ⊥
Lists (Blocks runs) n = Holds runs n

-- the claim leaves a number n that the issuer has: it isn't missing, and lists n if it lists a set
abbrev pub Leaves : Claim → ℕ → Type 0
Leaves Missing n = ⊥
Leaves Inherit n = ⊤
Leaves (Blocks runs) n = Holds runs n

-- n is overclaimed: the claim lists n, an issuer that has the numbers S doesn't have n, and the mode is Refuse
abbrev pub Exceeds : (ℕ → Type 0) → Claim → Overclaim → ℕ → Type 0
Exceeds S claim Refuse n = Lists claim n × (S n → ⊥)
Exceeds S claim Trim n = ⊥

-- the claim isn't refused, and the runs are those of the numbers of S that it leaves
pub record IsIssued (S : ℕ → Type 0) (claim : Claim) (mode : Overclaim) (issued : Runs) : Type 0 where
  pub runs : IsRunsOf (λ n. S n × Leaves claim n) issued
  pub accepted : (n : ℕ) → Exceeds S claim mode n → ⊥

-- the claim is refused, and the runs are those of the overclaimed numbers, of which there is at least one
pub record IsExcess (S : ℕ → Type 0) (claim : Claim) (mode : Overclaim) (excess : Runs) : Type 0 where
  pub runs : IsRunsOf (Exceeds S claim mode) excess
  pub some : excess ≢ []

-- ---- a set that an issuer's claim covers

-- the issuer's claim leaves each number of S
abbrev pub IsCovered : (ℕ → Type 0) → Claim → Type 0
IsCovered S issuer = (n : ℕ) → S n → Leaves issuer n

-- the runs are those of the numbers of S that the issuer's claim doesn't leave, of which there is at least one
pub record IsUncovered (S : ℕ → Type 0) (issuer : Claim) (excess : Runs) : Type 0 where
  pub runs : IsRunsOf (λ n. S n × (Leaves issuer n → ⊥)) excess
  pub some : excess ≢ []

-- ---- a path of claims

-- the path of one step
abbrev pub one_step : {R : Type 0} → R → Overclaim → List (Step R)
one_step claim mode = record { claim = claim; mode = mode } ∷ []

module _ {R : Type 0} (claim : R → Claim) where
  -- n remains after a path from S: it is in S, no step is missing, and each set that a step lists has it
  abbrev pub IsLeft : (ℕ → Type 0) → List (Step R) → ℕ → Type 0
  IsLeft S steps n = S n × All (λ step. Leaves (claim step.claim) n) steps

  -- n is overclaimed by the step at an index: it exceeds what the steps before it leave
  abbrev pub ExceedsAt : (ℕ → Type 0) → List (Step R) → ℕ → ℕ → Type 0
  ExceedsAt S steps at n =
      (step : Step R) × (at < length steps) × (slice_index_or steps at step ≡ step)
      × Exceeds (IsLeft S (take at steps)) (claim step.claim) step.mode n

  -- no step is refused, and the runs are those of the numbers that remain after the path
  pub record IsPathResult (S : ℕ → Type 0) (steps : List (Step R)) (result : Runs) : Type 0 where
    pub runs : IsRunsOf (IsLeft S steps) result
    pub accepted : (at n : ℕ) → ExceedsAt S steps at n → ⊥

  -- the step is refused, no step before it is, and the runs are those of the numbers that the step overclaims
  pub record IsFirstRefusal (S : ℕ → Type 0) (steps : List (Step R)) (refusal : PathRefusal Runs) : Type 0 where
    pub excess : IsRunsOf (ExceedsAt S steps refusal.step) refusal.fault
    pub some : refusal.fault ≢ []
    pub first : (at n : ℕ) → at < refusal.step → ExceedsAt S steps at n → ⊥

-- ---- the printed text of a refusal

-- the index of the step and the text of its fault, if that is known
abbrev pub path_refusal_text : {F : Type 0} → (F → Option (List ℕ)) → PathRefusal F → Option (List ℕ)
path_refusal_text fault_text refusal =
    option_map (λ text. codes "refused at step " ++ decimal refusal.step ++ codes ": " ++ text)
    (fault_text refusal.fault)
