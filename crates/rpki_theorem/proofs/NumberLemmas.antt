-- The numbers of lists of runs and of blocks: which are the same, and that membership is decided.
use Rattle.rpki_theorem.proofs.Common.{All, All-cons, All-head, All-nil, All-tail, Any, Claim, Covers, Holds, IsRunsOf}
use Rattle.rpki_theorem.proofs.Common.{IsRunsOfBlocks, IsWithin, Leaves, List, [], Runs, arith, cases_lt}
use Rattle.rpki_theorem.proofs.Common.{inl, inr, map, refl, subst, suc, sym, zero, ℕ, ◌++◌, ◌↔◌, ◌∷◌, ◌≡◌, ◌⊎◌}
use Rattle.rpki_chain.specs.declared.choice.ResourcesChoice.TheVariants.{Missing, Inherit, Blocks}

module _ {X : Type 0} (P : X → Type 0) where
  -- no element of the empty list satisfies P
  pub any_nil : Any P [] → ⊥
  any_nil (k, x, lt, e, p) = omega arith

  -- if the first element satisfies P, some element does
  pub any_head : (x : X) (xs : List X) → P x → Any P (x ∷ xs)
  any_head x xs p = (0, x, omega arith, refl, p)

  -- if some later element satisfies P, some element does
  pub any_tail : (x : X) (xs : List X) → Any P xs → Any P (x ∷ xs)
  any_tail x xs (k, y, lt, e, p) = (suc k, y, omega arith, e, p)

  -- the element that satisfies P is the first or a later one
  pub any_cases : (x : X) (xs : List X) → Any P (x ∷ xs) → P x ⊎ Any P xs
  any_cases x xs (zero, y, lt, e, p) = inl (subst P (sym e) p)
  any_cases x xs (suc k, y, lt, e, p) = inr (k, y, omega arith, e, p)

-- whether both facts hold is decided if each is
both_decided : {A B C : Type 0} → (A → B → C) → (C → A) → (C → B) → A ⊎ (A → ⊥) → B ⊎ (B → ⊥) → C ⊎ (C → ⊥)
both_decided both one other a b = grind arith

-- whether one of two facts holds is decided if each is
either_decided : {A B C : Type 0} → (A → C) → (B → C) → (C → A ⊎ B) → A ⊎ (A → ⊥) → B ⊎ (B → ⊥) → C ⊎ (C → ⊥)
either_decided one other cases a b = grind arith

module _ {X : Type 0} (P : X → Type 0) (decide : (x : X) → P x ⊎ (P x → ⊥)) where
  -- whether some element satisfies P is decided
  pub any_decided : (xs : List X) → Any P xs ⊎ (Any P xs → ⊥)
  any_decided [] = inr (any_nil P)
  any_decided (x ∷ xs) =
      either_decided (any_head P x xs) (any_tail P x xs) (any_cases P x xs) (decide x) (any_decided xs)

  -- whether each element satisfies P is decided
  pub all_decided : (xs : List X) → All P xs ⊎ (All P xs → ⊥)
  all_decided [] = inl (All-nil P)
  all_decided (x ∷ xs) =
      both_decided (All-cons P x xs) (All-head P x xs) (All-tail P x xs) (decide x) (all_decided xs)

-- whether a number lies within bounds is decided
within_decided : (n : ℕ) (b : ℕ × ℕ) → IsWithin b n ⊎ (IsWithin b n → ⊥)
within_decided n b = grind (arith, cases_lt)

-- whether a set has a number is decided
pub Holds-decided : (runs : Runs) (n : ℕ) → Holds runs n ⊎ (Holds runs n → ⊥)
Holds-decided runs n = any_decided (λ b. IsWithin b n) (within_decided n) runs

-- whether a claim leaves a number is decided
pub Leaves-decided : (claim : Claim) (n : ℕ) → Leaves claim n ⊎ (Leaves claim n → ⊥)
Leaves-decided Missing n = inr (λ l. l)
Leaves-decided Inherit n = inl tt
Leaves-decided (Blocks runs) n = Holds-decided runs n

-- the bounds of blocks have the numbers that the blocks cover
pub Holds-map : {B : Type 0} (f : B → ℕ × ℕ) (xs : List B) (n : ℕ) → Holds (map f xs) n ↔ Covers f xs n
Holds-map f [] n = (λ h. absurd (any_nil _ h), λ h. absurd (any_nil _ h))
Holds-map f (x ∷ xs) n =
    grind (
      arith,
      any_head (λ b. IsWithin b n) (f x) (map f xs),
      any_tail (λ b. IsWithin b n) (f x) (map f xs),
      any_cases (λ b. IsWithin b n) (f x) (map f xs),
      any_head (λ y. IsWithin (f y) n) x xs,
      any_tail (λ y. IsWithin (f y) n) x xs,
      any_cases (λ y. IsWithin (f y) n) x xs,
      Holds-map f xs n,
    )

-- the set of the bounds that a builder has is the set of the blocks that were added
pub built_of_blocks : {B : Type 0} (f : B → ℕ × ℕ) (start made : Runs) (blocks : List B) (set : Runs) → start ≡ []
    → made ≡ start ++ map f blocks → IsRunsOf (Holds made) set → IsRunsOfBlocks f blocks set
built_of_blocks f start made blocks set none added h =
    let same : made ≡ map f blocks = grind (arith, none, added) in
    let k : IsRunsOf (Holds (map f blocks)) set = subst (λ runs. IsRunsOf (Holds runs) set) same h in
    record {
      members = λ n. (
        λ held. (Holds-map f blocks n).0 ((k.members n).0 held),
        λ covered. (k.members n).1 ((Holds-map f blocks n).1 covered),
      );
      ordered = k.ordered;
      apart = k.apart;
    }

-- two sets have the same numbers if and only if they were made of the same numbers
pub same_members : (S U : ℕ → Type 0) (a b : Runs) → IsRunsOf S a → IsRunsOf U b
    → ((n : ℕ) → Holds a n ↔ Holds b n) ↔ ((n : ℕ) → S n ↔ U n)
same_members S U a b h k = (
  λ same n. grind (arith, same n, h.members n, k.members n),
  λ same n. grind (arith, same n, h.members n, k.members n),
)
