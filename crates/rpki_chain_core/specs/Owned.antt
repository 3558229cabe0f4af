-- The blocks of a chain that owns or shares them. A chain that holds no memory has no blocks.
use Rattle.std.specs.Prelude.{◌≡◌, ℕ, List, [], Option, Some, None, MatchOption, ⊤}
use Rattle.std.specs.declared.vec.Vec.{Vec}
use Rattle.std.specs.declared.sync.Arc.{Arc}
use Rattle.rpki_chain_core.specs.Sets.{IsChain}

-- the blocks of an owned chain
abbrev pub owned_blocks : {T A : Type 0} → Option (Vec T A) → List T
owned_blocks None = []
owned_blocks (Some v) = v.items

-- the blocks of a shared chain
abbrev pub shared_blocks : {T A : Type 0} → Option (Arc (List T) A) → List T
shared_blocks None = []
shared_blocks (Some arc) = arc.value

-- the blocks of an owned chain are a chain, and the empty chain holds no memory
pub record IsOwned {T A : Type 0} (bounds : T → ℕ × ℕ) (form : ℕ × ℕ → T) (held : Option (Vec T A)) : Type 0 where
  pub chain : IsChain bounds form (owned_blocks held)
  pub some : MatchOption held ⊤ (λ v. v.items ≡ [] → ⊥)

-- the blocks of a shared chain are a chain, and the empty chain holds no memory
pub record IsShared {T A : Type 0} (bounds : T → ℕ × ℕ) (form : ℕ × ℕ → T) (held : Option (Arc (List T) A))
    : Type 0 where
  pub chain : IsChain bounds form (shared_blocks held)
  pub some : MatchOption held ⊤ (λ arc. arc.value ≡ [] → ⊥)
