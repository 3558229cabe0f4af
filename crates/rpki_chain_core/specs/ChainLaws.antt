-- A lemma: a list is a chain in at most one way.
use Rattle.std.specs.Prelude.{ℕ, List}
use Rattle.std.proofs.Props.{props}
use Rattle.rpki_chain_core.specs.Sets.{IsChain}

-- two proofs that a list is a chain are equal
pub IsChain-prop : {B : Type 0} → IsSet B → {bounds : B → ℕ × ℕ} {form : ℕ × ℕ → B} {xs : List B}
    → IsProp (IsChain bounds form xs)
IsChain-prop one = hlevel (props, one)
