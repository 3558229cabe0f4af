-- Bounds that become a chain from left to right: the chain so far, and after it the current run.
use Rattle.std.specs.Prelude.{ℕ, ◌+◌, ◌<◌, ◌≤◌, ◌⊎◌, List, All}
use Rattle.rpki_chain_core.specs.Sets.{IsWithin, Covers, IsChain}

-- n is a number of the chain or of the run
abbrev pub IsInChainOrRun : {B : Type 0} → (B → ℕ × ℕ) → List B → ℕ × ℕ → ℕ → Type 0
IsInChainOrRun bounds xs run n = Covers bounds xs n ⊎ IsWithin run n

-- the run begins after the chain and doesn't touch it
pub record IsBehind {B : Type 0} (bounds : B → ℕ × ℕ) (form : ℕ × ℕ → B) (last : ℕ) (xs : List B) (run : ℕ × ℕ)
    : Type 0 where
  pub chain : IsChain bounds form xs
  pub ordered : run.0 ≤ run.1
  pub to_last : run.1 ≤ last
  pub apart : All (λ x. (bounds x).1 + 1 < run.0) xs
