-- Sets with the same numbers are one list of runs, and a set that has a number is not empty.
use Rattle.rpki_chain.proofs.Common.{[], arith, ℕ, ◌↔◌, ◌≡◌, Covers-nil, IsDifference, IsIntersection, Holds, IsRunsOf}
use Rattle.rpki_chain.proofs.Common.{Runs}
use Rattle.rpki_chain.proofs.RunLists.{Holds-decided, IsRunsOf-same, IsRunsOf-unique}

-- sets with the same numbers are one
pub one_set : (S U : ℕ → Type 0) (a b : Runs) → IsRunsOf S a → IsRunsOf U b → ((n : ℕ) → S n ↔ U n) → a ≡ b
one_set S U a b h k same = IsRunsOf-unique U a b (IsRunsOf-same a S U same h) k

-- a set that has no number is empty
pub empty_set : (S : ℕ → Type 0) (a : Runs) → IsRunsOf S a → ((n : ℕ) → S n → ⊥) → a ≡ []
empty_set S a h none = one_set S (λ n. ⊥) a [] h (grind (arith, Covers-nil)) (λ n. grind (arith, none n))

-- a set inside another is what they have in common
pub common_inside : (a b : Runs) → IsRunsOf (Holds a) a → ((n : ℕ) → Holds a n → Holds b n) → IsIntersection a b a
common_inside a b h inside = IsRunsOf-same a _ _ (λ n. grind (arith, inside n)) h

-- where nothing is left of a difference, the one set lies in the other, and where it does, nothing is left
pub inside_where_none : (a b rest : Runs) → IsDifference a b rest → (rest ≡ []) ↔ ((n : ℕ) → Holds a n → Holds b n)
inside_where_none a b rest h = (
  λ none n held. grind (arith, Holds-decided b n, Covers-nil (λ x. x) n, (h.members n).1),
  λ inside. empty_set _ rest h (λ n (held, outside). outside (inside n held)),
)
