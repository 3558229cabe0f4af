-- Lemmas on the resources that a verified certificate gets from the set of its issuer.
use Rattle.std.proofs.Common.{ℕ, ◌≡◌, ◌⊎◌, arith, subst}
use Rattle.rpki_chain.proofs.RunLists.{Holds-decided}
use Rattle.rpki_chain.specs.Claims.{Claim}
use Rattle.rpki_chain.specs.Paths.{IsIssued, Lists}
use Rattle.rpki_chain.specs.Runs.{Holds, Runs}
use Rattle.rpki_chain.specs.declared.path.Overclaim.{Overclaim}
use Rattle.rpki_chain.specs.declared.path.Overclaim.TheVariants.{Refuse}
use Rattle.rpki_resources.specs.Triples.{Triple}
use Rattle.rpki_extensions.specs.Issued.{GetsClaimed, IsVerified}
use Rattle.rpki_extensions.specs.declared.extensions.Extensions.{Extensions}

-- a fact that is decided, and that doesn't fail, holds
holds_unless : {A : Type 0} → A ⊎ (A → ⊥) → ((A → ⊥) → ⊥) → A
holds_unless decided fails = grind (arith, decided, fails)

-- what is accepted in mode Refuse lists only numbers of the issuer
listed_inside : (issuer issued : Runs) (claim : Claim) (mode : Overclaim) → IsIssued (Holds issuer) claim mode issued
    → mode ≡ Refuse → (n : ℕ) → Lists claim n → Holds issuer n
listed_inside issuer issued claim mode h refuse n listed =
    let k : IsIssued (Holds issuer) claim Refuse issued =
    subst (λ m. IsIssued (Holds issuer) claim m issued) refuse h in
    holds_unless (Holds-decided issuer n) (λ outside. k.accepted n (listed, outside))

pub gets_claimed : (issuer set : Triple) (certificate : Extensions) → IsVerified issuer certificate set
    → GetsClaimed issuer certificate set
gets_claimed issuer set certificate (asn, v4, v6, claims, each) = (
  asn,
  v4,
  v6,
  claims,
  each.asn.runs.members,
  each.of_families.0.runs.members,
  each.of_families.1.runs.members,
  λ refuse n. (
    listed_inside issuer.asn set.asn asn certificate.mode each.asn refuse n,
    listed_inside issuer.ipv4 set.ipv4 v4 certificate.mode each.of_families.0 refuse n,
    listed_inside issuer.ipv6 set.ipv6 v6 certificate.mode each.of_families.1 refuse n,
  ),
)
