-- Lemmas on the resources that verified certificates get from the sets of their issuers.
use Rattle.std.proofs.Common.{ℕ, ◌<◌, ◌≡◌, List, [], ◌∷◌, arith, get_or, length, refl, subst, suc, take, zero}
use Rattle.rpki_resources.specs.Triples.{Triple}
use Rattle.rpki_extensions.proofs.ClaimedLemmas.{gets_claimed}
use Rattle.rpki_extensions.specs.Issued.{GetsClaimed}
use Rattle.rpki_extensions.specs.declared.encoding.Encoding.{Encoding}
use Rattle.rpki_extensions.specs.declared.extensions.Extensions.{Extensions}
use Rattle.pigyelund_c.specs.Certificates.{IsCertificate, IsCertificateAt}
use Rattle.pigyelund_c.specs.Paths.{IsLeftOnPath, IsPathOutcome}
use Rattle.pigyelund_c.specs.Sets.{IsSet}
use Rattle.pigyelund_c.specs.Verified.{IsOutcome}
use Rattle.pigyelund_c.specs.declared.certificate.Certificate.{Certificate}

pub outcome_claimed : (issuer_as issuer_ip : List ℕ) (present : ℕ) (cert_as cert_ip : List ℕ) (encoding mode : ℕ)
    (set : Triple) → IsOutcome issuer_as issuer_ip present cert_as cert_ip encoding mode set
    → (way : Encoding) × (issuer : Triple) × (certificate : Extensions) × IsSet way issuer_as issuer_ip issuer
    × IsCertificate present cert_as cert_ip way mode certificate × GetsClaimed issuer certificate set
outcome_claimed issuer_as issuer_ip present cert_as cert_ip encoding mode set (way, is, (certificate, made, left)) =
    let (issuer, listed, verified) = left in
    (way, issuer, certificate, listed, made, gets_claimed issuer set certificate verified)

-- each certificate of a path gets a part of what those before it leave
claimed_at : (run : List ℕ) (way : Encoding) (anchor set : Triple) (cs : List Certificate)
    → IsLeftOnPath run way anchor cs set → (at : ℕ) (c : Certificate) → at < length cs → get_or cs at c ≡ c
    → (issuer : Triple) × (next : Triple) × (certificate : Extensions) × IsLeftOnPath run way anchor (take at cs) issuer
    × IsCertificateAt run way c certificate × GetsClaimed issuer certificate next
claimed_at run way anchor set [] path at c lt is = absurd (omega (arith, lt))
claimed_at run way anchor set (first ∷ more) (next, step, path) zero c lt is =
    let (certificate, made, verified) = step in (
      anchor,
      next,
      certificate,
      refl,
      subst (λ x. IsCertificateAt run way x certificate) is made,
      gets_claimed anchor next certificate verified,
    )
claimed_at run way anchor set (first ∷ more) (next, step, path) (suc at) c lt is =
    let (issuer, after, certificate, before, made, gets) =
    claimed_at run way next set more path at c (omega (arith, lt)) is in
    (issuer, after, certificate, (next, step, before), made, gets)

pub path_claimed : (anchor_as anchor_ip run : List ℕ) (cs : List Certificate) (encoding : ℕ) (set : Triple)
    → IsPathOutcome anchor_as anchor_ip run cs encoding set
    → (way : Encoding) × (anchor : Triple) × IsSet way anchor_as anchor_ip anchor
    × IsLeftOnPath run way anchor cs set × ((at : ℕ) (c : Certificate) → at < length cs → get_or cs at c ≡ c
    → (issuer : Triple) × (next : Triple) × (certificate : Extensions) × IsLeftOnPath run way anchor (take at cs) issuer
    × IsCertificateAt run way c certificate × GetsClaimed issuer certificate next)
path_claimed anchor_as anchor_ip run cs encoding set (way, is, (anchor, listed, path)) =
    (way, anchor, listed, path, claimed_at run way anchor set cs path)
