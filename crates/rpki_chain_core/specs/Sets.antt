-- Sets of whole numbers: the numbers that a list of blocks covers, the runs of a set, and the chain of its runs (RFC
-- 3779, 2.2.3.6 and 3.2.3.4: blocks are sorted, don't overlap, and are combined if they are contiguous). `bounds` gives
-- the least and the greatest number of a block.
use Rattle.std.specs.Prelude.{◌≡◌, ℕ, ◌+◌, ◌<◌, ◌≤◌, ◌↔◌, List, Option, MatchOption, length, slice_index_or, All, Any}
use Rattle.std.specs.Prelude.{AllPairs}
pub use Rattle.rpki_block.specs.Bounds.{IsBeside, IsNew, IsWithin}

-- n lies in some block of the list
abbrev pub Covers : {B : Type 0} → (B → ℕ × ℕ) → List B → ℕ → Type 0
Covers bounds xs n = Any (λ x. IsWithin (bounds x) n) xs

-- each number that the first list covers is covered by the second
abbrev pub IsInside : {B : Type 0} → (B → ℕ × ℕ) → List B → List B → Type 0
IsInside bounds xs ys = (n : ℕ) → Covers bounds xs n → Covers bounds ys n

-- each number that the list covers is a number of the kind, from the first to the last
abbrev pub IsOfKind : {B : Type 0} → (B → ℕ × ℕ) → ℕ → ℕ → List B → Type 0
IsOfKind bounds first last xs = (n : ℕ) → Covers bounds xs n → (first ≤ n) × (n ≤ last)

-- a run of S: all numbers from b.0 to b.1 are in S, and neither the one before them nor the one after them is
pub record IsRun (S : ℕ → Type 0) (b : ℕ × ℕ) : Type 0 where
  pub ordered : b.0 ≤ b.1
  pub inside : (n : ℕ) → IsWithin b n → S n
  pub starts : (n : ℕ) → n + 1 ≡ b.0 → S n → ⊥
  pub ends : S (b.1 + 1) → ⊥

-- the first run of S that doesn't end before n
pub record IsRunFrom (S : ℕ → Type 0) (n : ℕ) (b : ℕ × ℕ) : Type 0 where
  pub run : IsRun S b
  pub reaches : n ≤ b.1
  pub first : (m : ℕ) → n ≤ m → m < b.0 → S m → ⊥

-- the chain of S: exactly its runs, ascending, each in new form; and each number of S lies in one of them
pub record IsChainOf {B : Type 0} (bounds : B → ℕ × ℕ) (form : ℕ × ℕ → B) (S : ℕ → Type 0) (xs : List B) : Type 0 where
  pub runs : All (λ x. IsRun S (bounds x)) xs
  pub every_run : (b : ℕ × ℕ) → IsRun S b → Any (λ x. bounds x ≡ b) xs
  pub ascending : AllPairs (λ x y. (bounds x).0 < (bounds y).0) xs
  pub new_form : All (IsNew bounds form) xs
  pub covers : (n : ℕ) → Covers bounds xs n ↔ S n

-- ascending blocks that neither overlap nor touch, each in new form
pub record IsChain {B : Type 0} (bounds : B → ℕ × ℕ) (form : ℕ × ℕ → B) (xs : List B) : Type 0 where
  pub ordered : All (λ x. (bounds x).0 ≤ (bounds x).1) xs
  pub apart : AllPairs (λ x y. (bounds x).1 + 1 < (bounds y).0) xs
  pub new_form : All (IsNew bounds form) xs

-- the numbers of two items
abbrev pub numbers : {I : Type 0} → (I → ℕ) → I × I → ℕ × ℕ
numbers number p = (number p.0, number p.1)

-- the result of a read at an index: the numbers of the block there, or nothing at the end of the list
abbrev pub HoldsBlock : {B I : Type 0} → (B → ℕ × ℕ) → (I → ℕ) → ℕ → List B → ℕ → Option (I × I) → Type 0
HoldsBlock {B} bounds number last blocks at block =
    MatchOption block (at ≡ length blocks)
    (λ b. (at < length blocks) × ((d : B) → bounds (slice_index_or blocks at d) ≡ numbers number b)
    × (number b.1 ≤ last))
