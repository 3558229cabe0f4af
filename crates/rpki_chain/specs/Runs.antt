-- A set of whole numbers as a value: the ascending list of its runs, each as its least and its greatest number.
use Rattle.std.specs.Prelude.{ℕ, ◌+◌, ◌<◌, ◌≤◌, ◌↔◌, List, All, Any, AllPairs}
use Rattle.rpki_chain_core.specs.Sets.{IsWithin, Covers}

-- a list of runs, each as its least and its greatest number
abbrev pub Runs : Type 0
Runs = List (ℕ × ℕ)

-- n lies in some run of the list
abbrev pub Holds : Runs → ℕ → Type 0
Holds runs n = Any (λ b. IsWithin b n) runs

-- the runs of S, ascending: they hold exactly the numbers of S, and neither overlap nor touch
pub record IsRunsOf (S : ℕ → Type 0) (runs : Runs) : Type 0 where
  pub members : (n : ℕ) → Holds runs n ↔ S n
  pub ordered : All (λ b. b.0 ≤ b.1) runs
  pub apart : AllPairs (λ b c. b.1 + 1 < c.0) runs

-- the runs of the numbers that some block of the list covers
abbrev pub IsRunsOfBlocks : {B : Type 0} → (B → ℕ × ℕ) → List B → Runs → Type 0
IsRunsOfBlocks bounds blocks runs = IsRunsOf (Covers bounds blocks) runs

-- for some list of blocks, Has holds, and the set is that of the numbers that the blocks cover
pub record IsSetOfBlocks {B : Type 0} (bounds : B → ℕ × ℕ) (Has : List B → Type 0) (set : Runs) : Type 0 where
  pub blocks : List B
  pub are_written : Has blocks
  pub covered : IsRunsOfBlocks bounds blocks set
