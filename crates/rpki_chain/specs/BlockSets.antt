-- Sets of the items of one kind, whose numbers go from `first` to `last`: as runs, and as the chain that holds them.
use Rattle.std.specs.Prelude.{ℕ, ◌≤◌, List, All}
use Rattle.rpki_chain.specs.Runs.{Runs, Holds, IsRunsOf}
use Rattle.rpki_chain_core.specs.Sets.{IsChain}

-- the runs of a set of numbers from the first to the last
pub record IsBlockSet (first last : ℕ) (runs : Runs) : Type 0 where
  pub are_runs : IsRunsOf (Holds runs) runs
  pub above : All (λ b. first ≤ b.0) runs
  pub below : All (λ b. b.1 ≤ last) runs

-- a chain of blocks of numbers from the first to the last
pub record IsBlockChain {B : Type 0} (bounds : B → ℕ × ℕ) (form : ℕ × ℕ → B) (first last : ℕ) (blocks : List B)
    : Type 0 where
  pub chain : IsChain bounds form blocks
  pub above : All (λ x. first ≤ (bounds x).0) blocks
  pub below : All (λ x. (bounds x).1 ≤ last) blocks
