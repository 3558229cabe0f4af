-- What an issuer's claim leaves out of a set.
use Rattle.rpki_chain.proofs.Common.{[], inl, inr, ℕ, ◌↔◌, ◌≡◌, ◌⊎◌, false≢true, Err, IfErr, IsOk, IfRefused, OrMemory}
use Rattle.rpki_chain.proofs.Common.{Memory, Refused, Claim, IsDifference, IsCovered, IsUncovered, Leaves, Holds}
use Rattle.rpki_chain.proofs.Common.{IsRunsOf, Runs, Blocks, Inherit, Missing}
use Rattle.std.specs.Prelude.{Result, Ok}
use Rattle.rpki_chain.proofs.IssuedClaims.{none_held}
use Rattle.rpki_chain.proofs.SetLawLemmas.{empty_set, inside_where_none}
use Rattle.rpki_chain.proofs.RunLists.{Holds-decided}

-- whether a claim leaves a number is decided
pub Leaves-decided : (claim : Claim) (n : ℕ) → Leaves claim n ⊎ (Leaves claim n → ⊥)
Leaves-decided Missing n = inr (λ l. l)
Leaves-decided Inherit n = inl tt
Leaves-decided (Blocks runs) n = Holds-decided runs n

module _ (set : Runs) where
  -- a missing claim covers the empty set alone
  pub covered_missing : (P : Type 0) → IsRunsOf (Holds set) set → P ↔ (set ≡ []) → P ↔ IsCovered (Holds set) Missing
  covered_missing P runs h =
      (λ p n held. none_held set n (h.0 p) held, λ none. h.1 (empty_set (Holds set) set runs none))

  -- what isn't listed is what a claim that lists a set is refused by
  pub refused_listed : {X : Type 0} (listed : Runs) (r : Result X (OrMemory Runs))
      → IsOk r ↔ ((n : ℕ) → Holds set n → Holds listed n) → IfErr r (IfRefused (IsDifference set listed))
      → IfErr r (IfRefused (IsUncovered (Holds set) (Blocks listed)))
  refused_listed listed (Ok x) ok h = tt
  refused_listed listed (Err (Memory e)) ok h = tt
  refused_listed listed (Err (Refused rest)) ok h =
      record { runs = h; some = λ none. false≢true (ok.1 ((inside_where_none set listed rest h).0 none)) }
