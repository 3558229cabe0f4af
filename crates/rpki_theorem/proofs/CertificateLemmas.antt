-- Lemmas on the sets that paths of certificates leave, and on the resources that an accepted certificate lists.
use Rattle.rpki_theorem.proofs.Common.{Claim, Exceeds, Holds, IsLeft, IsPathResult, Leaves, List, Lists, Refuse, Runs}
use Rattle.rpki_theorem.proofs.Common.{Step, arith, get_or, length, subst, sym, take, ℕ, ◌<◌, ◌≡◌, ◌⊎◌}
use Rattle.std.proofs.Common.{[], ◌∷◌, ◌+◌, refl, suc, zero}
use Rattle.rpki_theorem.proofs.NumberLemmas.{Holds-decided, Leaves-decided, all_decided}
use Rattle.rpki_extensions.specs.Anchors.{IsAnchorSet}
use Rattle.rpki_extensions.specs.Below.{IsLeftBelow}
use Rattle.rpki_extensions.specs.Issued.{GetsClaimed, IsVerified}
use Rattle.rpki_extensions.specs.Paths.{IsVerifiedPath}
use Rattle.rpki_extensions.specs.Kinds.{AreSteps, ClaimTriple, IsResultOfEach}
use Rattle.rpki_extensions.specs.declared.extensions.Extensions.{Extensions}
use Rattle.rpki_resources.specs.Triples.{Triple}

-- a fact that is decided, and that doesn't fail, holds
holds_unless : {A : Type 0} → A ⊎ (A → ⊥) → ((A → ⊥) → ⊥) → A
holds_unless decided fails = grind (arith, decided, fails)

-- ---- a path

module _ {R : Type 0} (claim : R → Claim) (root : Runs) where
  -- whether both facts hold is decided if each is
  both_decided : {A B : Type 0} → A ⊎ (A → ⊥) → B ⊎ (B → ⊥) → (A × B) ⊎ ((A × B) → ⊥)
  both_decided a b = grind arith

  -- whether a path leaves a number is decided
  IsLeft-decided : (steps : List (Step R)) (n : ℕ)
      → IsLeft claim (Holds root) steps n ⊎ (IsLeft claim (Holds root) steps n → ⊥)
  IsLeft-decided steps n =
      both_decided (Holds-decided root n)
      (all_decided (λ (s : Step R). Leaves (claim s.claim) n) (λ s. Leaves-decided (claim s.claim) n) steps)

  -- what is accepted in mode Refuse lies in what the steps before it leave
  pub inside_issuer : (set : Runs) (steps : List (Step R)) (at n : ℕ) (step : Step R)
      → IsPathResult claim (Holds root) steps set → at < length steps → get_or steps at step ≡ step
      → step.mode ≡ Refuse → Lists (claim step.claim) n → IsLeft claim (Holds root) (take at steps) n
  inside_issuer set steps at n step h lt is refuse listed =
      let S = IsLeft claim (Holds root) (take at steps) in
      holds_unless (IsLeft-decided (take at steps) n) (λ outside.
      h.accepted at n
      (step, lt, is, subst (λ m. Exceeds S (claim step.claim) m n) (sym refuse) (listed, outside)))

-- a path of certificates: each that is accepted in mode Refuse lists only what those before it leave
pub accepted_on_path : (anchor set : Triple) (certificates : List Extensions)
    → ((steps : List (Step ClaimTriple)) × AreSteps certificates steps × IsResultOfEach anchor steps set)
    → (steps : List (Step ClaimTriple)) × AreSteps certificates steps × IsResultOfEach anchor steps set
    × ((at n : ℕ) (step : Step ClaimTriple) → at < length steps → get_or steps at step ≡ step → step.mode ≡ Refuse
    → (Lists step.claim.asn n → IsLeft (λ claims. claims.asn) (Holds anchor.asn) (take at steps) n)
    × (Lists step.claim.ipv4 n → IsLeft (λ claims. claims.ipv4) (Holds anchor.ipv4) (take at steps) n)
    × (Lists step.claim.ipv6 n → IsLeft (λ claims. claims.ipv6) (Holds anchor.ipv6) (take at steps) n))
accepted_on_path anchor set certificates (steps, are, each) = (
  steps,
  are,
  each,
  λ at n step lt is refuse. (
    inside_issuer (λ claims. claims.asn) anchor.asn set.asn steps at n step each.asn lt is refuse,
    inside_issuer (λ claims. claims.ipv4) anchor.ipv4 set.ipv4 steps at n step each.ipv4 lt is refuse,
    inside_issuer (λ claims. claims.ipv6) anchor.ipv6 set.ipv6 steps at n step each.ipv6 lt is refuse,
  ),
)

-- ---- certificates below an anchor

-- the certificate gets what it claims of the set that those before it leave; `to` is the number of those up to it
abbrev pub AcceptedBelow : Triple → List Extensions → ℕ → ℕ → Extensions → Type 0
AcceptedBelow root certificates at to certificate =
    (issuer : Triple) × (next : Triple) × IsVerifiedPath root (take at certificates) issuer
    × IsVerifiedPath root (take to certificates) next × GetsClaimed issuer certificate next

-- a verified certificate gets what it claims
abbrev AllGet : Type 0
AllGet =
    (issuer set : Triple) (certificate : Extensions) → IsVerified issuer certificate set
    → GetsClaimed issuer certificate set

accepted_at : AllGet → (root set : Triple) (certificates : List Extensions) → IsVerifiedPath root certificates set
    → (at : ℕ) (certificate : Extensions) → at < length certificates → get_or certificates at certificate ≡ certificate
    → AcceptedBelow root certificates at (suc at) certificate
accepted_at gets root set [] path at certificate lt is = absurd (omega (arith, lt))
accepted_at gets root set (first ∷ more) (next, verified, path) zero certificate lt is =
    subst (λ c. AcceptedBelow root (first ∷ more) 0 1 c) is
    (root, next, refl, (next, verified, refl), gets root next first verified)
accepted_at gets root set (first ∷ more) (next, verified, path) (suc at) certificate lt is =
    let (issuer, after, before, to, claimed) =
    accepted_at gets next set more path at certificate (omega (arith, lt)) is in
    (issuer, after, (next, verified, before), (next, verified, to), claimed)

one_more : (n : ℕ) → suc n ≡ n + 1
one_more n = omega arith

-- so it is below an anchor
pub accepted_below : AllGet → (anchor : Extensions) (certificates : List Extensions) (set : Triple)
    → IsLeftBelow anchor certificates set → (root : Triple) × IsAnchorSet anchor root
    × IsVerifiedPath root certificates set × ((at : ℕ) (certificate : Extensions) → at < length certificates
    → get_or certificates at certificate ≡ certificate → AcceptedBelow root certificates at (at + 1) certificate)
accepted_below gets anchor certificates set (root, is, path) = (
  root,
  is,
  path,
  λ at certificate lt same.
      subst (λ to. AcceptedBelow root certificates at to certificate) (one_more at)
      (accepted_at gets root set certificates path at certificate lt same),
)
