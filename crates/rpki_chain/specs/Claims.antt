-- Claims on the numbers of a kind (RFC 3779, 2.2.3.4 and 3.2.3.2), and the results of builders.
use Rattle.std.specs.Prelude.{◌≡◌, ◌≢◌, ℕ, List, [], ◌∷◌, Option, Some, None, ⊤}
use Rattle.rpki_chain.specs.Runs.{Runs, Holds, IsRunsOf}
use Rattle.rpki_chain.specs.declared.choice.ResourcesChoice.{ResourcesChoice}
use Rattle.rpki_chain.specs.declared.choice.ResourcesChoice.TheVariants.{Missing, Inherit, Blocks}

-- a claim: missing, inherited, or the runs of a set
abbrev pub Claim : Type 0
Claim = ResourcesChoice Runs

-- the listed set isn't empty
abbrev pub ListsSome : Claim → Type 0
ListsSome Missing = ⊤
ListsSome Inherit = ⊤
ListsSome (Blocks runs) = runs ≢ []

-- the listed set satisfies IsSet, and isn't empty
abbrev pub IsClaim : (Runs → Type 0) → Claim → Type 0
IsClaim IsSet Missing = ⊤
IsClaim IsSet Inherit = ⊤
IsClaim IsSet (Blocks runs) = IsSet runs × (runs ≢ [])

-- the claim that lists the set, and a missing one if the set is empty
abbrev pub claim_of : Runs → Claim
claim_of [] = Missing
claim_of (run ∷ runs) = Blocks (run ∷ runs)

-- the claim that lists the model of a set
abbrev pub claim_by : {X : Type 0} → (X → Runs) → ResourcesChoice X → Claim
claim_by runs Missing = Missing
claim_by runs Inherit = Inherit
claim_by runs (Blocks x) = Blocks (runs x)

-- ---- built block by block

-- the blocks so far; no blocks if the resources are inherited
abbrev pub blocks_so_far : Option (List (ℕ × ℕ)) → List (ℕ × ℕ)
blocks_so_far None = []
blocks_so_far (Some blocks) = blocks

-- the claim is inherited, or lists the set of the numbers that some block has
abbrev pub IsBuilt : Option (List (ℕ × ℕ)) → Claim → Type 0
IsBuilt None claim = claim ≡ Inherit
IsBuilt (Some blocks) claim = (set : Runs) × IsRunsOf (Holds blocks) set × (claim ≡ claim_of set)
