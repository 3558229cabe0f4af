-- One certificate of a path after another, and the path of the extensions of all of them.
use Rattle.std.proofs.Common.{ℕ, ◌+◌, ◌<◌, List, [], ◌∷◌, ◌++◌, length, get_or, take, refl}
use Rattle.std.proofs.lemmas.List.{take_more}
use Rattle.std.specs.Prelude.{◌↔◌}
use Rattle.rpki_chain.specs.declared.path.Step.{Step}
use Rattle.rpki_resources.specs.Triples.{IsTriple, Triple}
use Rattle.rpki_extensions.proofs.VerifiedKinds.{AreRuns, result_of_each, verified_of_each}
use Rattle.rpki_extensions.specs.Kinds.{AreSteps, ClaimTriple, IsResultOfEach}
use Rattle.rpki_extensions.specs.declared.encoding.Encoding.{Encoding}
use Rattle.rpki_extensions.specs.Paths.{IsVerifiedPath}
use Rattle.rpki_extensions.specs.declared.extensions.Extensions.{Extensions}
use Rattle.pigyelund_c.specs.Paths.{AreCertificatesAt, IsCertificateStep, IsLeftOnPath}
use Rattle.pigyelund_c.specs.declared.certificate.Certificate.{Certificate}

-- one certificate more
append : (run : List ℕ) (encoding : Encoding) (before : List Certificate) (anchor issuer set : Triple) (c : Certificate)
    → IsLeftOnPath run encoding anchor before issuer → IsCertificateStep run encoding issuer c set
    → IsLeftOnPath run encoding anchor (before ++ c ∷ []) set
append run encoding [] anchor issuer set c same is = (set, rw (← same) is, refl)
append run encoding (first ∷ before) anchor issuer set c (next, one, path) is =
    (next, one, append run encoding before next issuer set c path is)

pub path-more : (run : List ℕ) (encoding : Encoding) (cs : List Certificate) (at : ℕ) (none : Certificate)
    (anchor issuer set : Triple) → at < length cs → IsLeftOnPath run encoding anchor (take at cs) issuer
    → IsCertificateStep run encoding issuer (get_or cs at none) set
    → IsLeftOnPath run encoding anchor (take (at + 1) cs) set
path-more run encoding cs at none anchor issuer set small path is =
    rw (take_more cs at none small) (append run encoding (take at cs) anchor issuer set (get_or cs at none) path is)

-- ---- the extensions of all certificates

module _ (run : List ℕ) (encoding : Encoding) where
  -- what the certificates leave is what a path of extensions leaves that they are
  extensions_of : (cs : List Certificate) (anchor set : Triple) → IsLeftOnPath run encoding anchor cs set
      → (certificates : List Extensions) × AreCertificatesAt run encoding cs certificates
      × IsVerifiedPath anchor certificates set
  extensions_of [] anchor set same = ([], tt, same)
  extensions_of (c ∷ cs) anchor set (next, (certificate, at, verified), path) =
      let rest = extensions_of cs next set path in
      (certificate ∷ rest.0, (at, rest.1), (next, verified, rest.2))

  certificates_of : (cs : List Certificate) (certificates : List Extensions) (anchor set : Triple)
      → AreCertificatesAt run encoding cs certificates → IsVerifiedPath anchor certificates set
      → IsLeftOnPath run encoding anchor cs set
  certificates_of [] [] anchor set are same = same
  certificates_of (c ∷ cs) (certificate ∷ certificates) anchor set are (next, verified, path) =
      (next, (certificate, are.0, verified), certificates_of cs certificates next set are.1 path)
  certificates_of [] (certificate ∷ certificates) anchor set are path = absurd are
  certificates_of (c ∷ cs) [] anchor set are path = absurd are

  pub path_of_extensions : (anchor set : Triple) (cs : List Certificate)
      → IsLeftOnPath run encoding anchor cs set
      ↔ ((certificates : List Extensions) × AreCertificatesAt run encoding cs certificates
      × IsVerifiedPath anchor certificates set)
  path_of_extensions anchor set cs =
      (extensions_of cs anchor set, λ h. certificates_of cs h.0 anchor set h.1 h.2)

  -- and of each kind it is what a path of claims leaves
  pub kinds_of_path : (anchor set : Triple) (cs : List Certificate) → IsTriple anchor
      → IsLeftOnPath run encoding anchor cs set
      ↔ ((certificates : List Extensions) × (steps : List (Step ClaimTriple))
      × AreCertificatesAt run encoding cs certificates × AreSteps certificates steps
      × IsResultOfEach anchor steps set)
  kinds_of_path anchor set cs is =
      let runs : AreRuns anchor =
      record { asn = is.asn.are_runs; ipv4 = is.ipv4.0.are_runs; ipv6 = is.ipv6.are_runs } in (
        λ path.
            let found = extensions_of cs anchor set path in
            let kinds = result_of_each found.0 anchor set runs found.2 in
            (found.0, kinds.0, found.1, kinds.1, kinds.2),
        λ (certificates, steps, are, own, left).
            certificates_of cs certificates anchor set are
            (verified_of_each certificates steps anchor set runs own left),
      )
