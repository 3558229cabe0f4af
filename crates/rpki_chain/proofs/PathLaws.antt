-- A path of one step, and what holds of what a path leaves.
use Rattle.rpki_chain.proofs.Common.{List, [], arith, get_or, inl, length, take, ℕ, ◌<◌, ◌↔◌, ◌∷◌, ◌≡◌, ◌⊎◌}
use Rattle.rpki_chain.proofs.Common.{get_or_default, All-cons, All-contains, All-contains_itself, All-head, All-nil}
use Rattle.rpki_chain.proofs.Common.{All-tail, All-weaker, Contains, Claim, Exceeds, ExceedsAt, IsExcess}
use Rattle.rpki_chain.proofs.Common.{IsFirstRefusal, IsIssued, IsLeft, IsPathResult, Leaves, Lists, one_step, Holds}
use Rattle.rpki_chain.proofs.Common.{Runs, Overclaim, Refuse, Trim, Step}
use Rattle.std.specs.List.{All}
use Rattle.rpki_chain.proofs.CoveredSets.{Leaves-decided}
use Rattle.rpki_chain.proofs.SetLawLemmas.{one_set}
use Rattle.rpki_chain.proofs.PathSteps.{Exceeds-same, ExceedsAt-step}
use Rattle.rpki_chain.proofs.RunLists.{Holds-decided, IsRunsOf-iff}

module _ (S : ℕ → Type 0) (claim : Claim) (mode : Overclaim) where
  exceeds_first : (n : ℕ) → Exceeds S claim mode n ↔ ExceedsAt (λ c. c) S (one_step claim mode) 0 n
  exceeds_first n = grind (arith, Exceeds-same, ExceedsAt-step)

  exceeds_once : (at n : ℕ) → ExceedsAt (λ c. c) S (one_step claim mode) at n → Exceeds S claim mode n
  exceeds_once at n e = grind (arith, Exceeds-same, ExceedsAt-step)

  left_by_one : (n : ℕ) → (S n × Leaves claim n) ↔ IsLeft (λ c. c) S (one_step claim mode) n
  left_by_one n = (
    λ (s, leaves). (s, All-cons (λ (step : Step Claim). Leaves step.claim n) _ [] leaves (All-nil _)),
    λ (s, all). (s, all 0 (record { claim = claim; mode = mode }) (omega arith)),
  )

  pub path_of_one : (issued : Runs)
      → IsIssued S claim mode issued ↔ IsPathResult (λ c. c) S (one_step claim mode) issued
  path_of_one issued =
      let same = IsRunsOf-iff issued _ _ left_by_one in (
        λ h. record { runs = same.0 h.runs; accepted = λ at n e. h.accepted n (exceeds_once at n e) },
        λ h. record { runs = same.1 h.runs; accepted = λ n e. h.accepted 0 n ((exceeds_first n).0 e) },
      )

  pub refusal_of_one : (excess : Runs)
      → IsExcess S claim mode excess
      ↔ IsFirstRefusal (λ c. c) S (one_step claim mode) (record { step = 0; fault = excess })
  refusal_of_one excess = grind (arith, IsRunsOf-iff excess _ _ exceeds_first)

-- what is trimmed once lies in the claim
pub trimmed_twice : (root once twice : Runs) (claim : Claim) → IsIssued (Holds root) claim Trim once
    → IsIssued (Holds once) claim Trim twice → twice ≡ once
trimmed_twice root once twice claim h k =
    one_set _ _ twice once k.runs h.runs (λ n. grind (arith, h.runs.members n))

-- where two facts are decided, so is what says both
both_decided : {A B C : Type 0} → (A → B → C) → (C → A) → (C → B) → A ⊎ (A → ⊥) → B ⊎ (B → ⊥) → C ⊎ (C → ⊥)
both_decided both one other a b = grind arith

module _ {X : Type 0} (P : X → Type 0) (decide : (x : X) → P x ⊎ (P x → ⊥)) where
  -- whether something holds of each element is decided
  all_decided : (xs : List X) → All P xs ⊎ (All P xs → ⊥)
  all_decided [] = inl (All-nil P)
  all_decided (x ∷ xs) =
      both_decided (All-cons P x xs) (All-head P x xs) (All-tail P x xs) (decide x) (all_decided xs)

-- whether a path leaves a number is decided
pub IsLeft-decided : (root : Runs) (steps : List (Step Claim)) (n : ℕ)
    → IsLeft (λ c. c) (Holds root) steps n ⊎ (IsLeft (λ c. c) (Holds root) steps n → ⊥)
IsLeft-decided root steps n =
    let leaves = all_decided (λ (s : Step Claim). Leaves s.claim n) (λ s. Leaves-decided s.claim n) steps in
    grind (arith, Holds-decided root n, leaves)

-- what is accepted in mode Refuse lies in what the steps before it leave
pub inside_issuer : (root set : Runs) (steps : List (Step Claim)) (at : ℕ) (step : Step Claim)
    → IsPathResult (λ c. c) (Holds root) steps set → at < length steps → get_or steps at step ≡ step
    → step.mode ≡ Refuse → (n : ℕ) → Lists step.claim n → IsLeft (λ c. c) (Holds root) (take at steps) n
inside_issuer root set steps at step h lt is refuse n listed =
    grind (arith, IsLeft-decided root (take at steps) n, h.accepted at n)

-- no step in mode Trim is refused
pub not_trimmed : (root : Runs) (steps : List (Step Claim)) (at n : ℕ) (step : Step Claim) → get_or steps at step ≡ step
    → step.mode ≡ Trim → ExceedsAt (λ c. c) (Holds root) steps at n → ⊥
not_trimmed root steps at n step there trim e = grind (arith, get_or_default)

-- what holds of each element of a list holds of those of a list with the same elements
all_alike : {X : Type 0} (P : X → Type 0) (xs ys : List X) → ((x : X) → Contains ys x → Contains xs x) → All P xs
    → All P ys
all_alike P xs ys alike all =
    All-weaker (Contains ys) P (λ x there. All-contains P xs x all (alike x there)) ys (All-contains_itself ys)

pub any_order : (root set other : Runs) (steps others : List (Step Claim))
    → ((step : Step Claim) → Contains steps step ↔ Contains others step) → IsPathResult (λ c. c) (Holds root) steps set
    → IsPathResult (λ c. c) (Holds root) others other → set ≡ other
any_order root set other steps others alike h k = one_set _ _ set other h.runs k.runs (λ n. (
  λ (held, all). (held, all_alike (λ (s : Step Claim). Leaves s.claim n) steps others (λ s. (alike s).1) all),
  λ (held, all). (held, all_alike (λ (s : Step Claim). Leaves s.claim n) others steps (λ s. (alike s).0) all),
))
