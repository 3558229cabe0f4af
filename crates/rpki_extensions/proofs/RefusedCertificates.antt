-- The first certificate of a path that is refused, one certificate after another.
use Rattle.rpki_extensions.proofs.Common.{List, [], arith, get_or, length, refl, take, ℕ, ◌<◌, ◌∷◌, ◌≡◌}
use Rattle.rpki_extensions.proofs.Common.{Triple, HasVerifyError, IsVerified, IsVerifiedPath, Extensions}
use Rattle.std.proofs.Common.{suc, zero}
use Rattle.rpki_extensions.specs.Paths.{IsFirstVerifyError}
use Rattle.rpki_extensions.specs.declared.error.VerifyError.{VerifyError}
use Rattle.rpki_extensions.specs.declared.error.VerifyPathError.{VerifyPathError}

module _ {A : Type 0} where
  -- the certificates below an index are verified, and the one at the index is refused for the reason
  abbrev pub IsRefusedAt : Triple → List Extensions → ℕ → VerifyError A → Type 0
  IsRefusedAt anchor [] at reason = ⊥
  IsRefusedAt anchor (certificate ∷ certificates) zero reason = HasVerifyError anchor certificate reason
  IsRefusedAt anchor (certificate ∷ certificates) (suc at) reason =
      (next : Triple) × IsVerified anchor certificate next × IsRefusedAt next certificates at reason

  -- the path up to an index, and the refusal there
  refused_from : (certificates : List Extensions) (at : ℕ) (certificate : Extensions) (anchor issuer : Triple)
      (reason : VerifyError A) → at < length certificates → get_or certificates at certificate ≡ certificate
      → IsVerifiedPath anchor (take at certificates) issuer → HasVerifyError issuer certificate reason
      → IsRefusedAt anchor certificates at reason
  refused_from [] at certificate anchor issuer reason small is path refused = absurd (omega (arith, small))
  refused_from (first ∷ certificates) zero certificate anchor issuer reason small is same refused =
      rw (is, ← same) refused
  refused_from (first ∷ certificates) (suc at) certificate anchor issuer reason small is (next, one, path) refused = (
    next,
    one,
    refused_from certificates at certificate next issuer reason (omega (arith, small)) is path refused,
  )

  -- the first refusal of a path
  pub refused_at : (anchor : Triple) (certificates : List Extensions) (refusal : VerifyPathError A)
      → IsFirstVerifyError anchor certificates refusal → IsRefusedAt anchor certificates refusal.step refusal.reason
  refused_at anchor certificates refusal (certificate, small, is, (issuer, path, refused)) =
      refused_from certificates refusal.step certificate anchor issuer refusal.reason small is path refused

  -- a certificate that is refused at an index is the first one
  pub refused_first : (certificates : List Extensions) (at : ℕ) (anchor : Triple) (reason : VerifyError A)
      → IsRefusedAt anchor certificates at reason
      → IsFirstVerifyError anchor certificates (record { step = at; reason = reason })
  refused_first [] at anchor reason refused = absurd refused
  refused_first (certificate ∷ certificates) zero anchor reason refused =
      (certificate, omega arith, refl, (anchor, refl, refused))
  refused_first (certificate ∷ certificates) (suc at) anchor reason (next, one, refused) =
      let (found, small, is, (issuer, path, refusal)) = refused_first certificates at next reason refused in
      (found, omega (arith, small), is, (issuer, (next, one, path), refusal))
