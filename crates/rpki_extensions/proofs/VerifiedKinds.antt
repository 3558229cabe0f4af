-- A path of certificates is a path of claims of each kind, and paths of claims are one of certificates.
use Rattle.rpki_extensions.proofs.Common.{List, [], arith, inr, refl, subst, take, ℕ, ◌+◌, ◌∷◌, ◌≡◌}
use Rattle.rpki_extensions.proofs.Common.{Claim, Holds, Triple, AreClaims, HasVerifyError, IsIssuedOfEach}
use Rattle.rpki_extensions.proofs.Common.{IsNotIssuedOfEach, IsVerified, IsVerifiedPath, Extensions}
use Rattle.std.proofs.Common.{inl, suc, zero}
use Rattle.rpki_chain.specs.Paths.{ExceedsAt}
use Rattle.rpki_chain.specs.Runs.{IsRunsOf}
use Rattle.rpki_chain.specs.declared.path.Overclaim.{Overclaim}
use Rattle.rpki_chain.specs.declared.path.Step.{Step}
use Rattle.rpki_resources.specs.Triples.{InEach}
use Rattle.rpki_extensions.proofs.DecidedRuns.{runs_of_left}
use Rattle.rpki_extensions.proofs.KindPaths.{accepted_first, accepted_more, accepted_rest, issued_first, issued_runs}
use Rattle.rpki_extensions.proofs.KindPaths.{none_leaves_root, none_refused, path_more, path_of_none, path_rest}
use Rattle.rpki_extensions.proofs.KindPaths.{refused_here, refused_in_path, refused_more, refused_rest}
use Rattle.rpki_extensions.proofs.RefusedCertificates.{IsRefusedAt, refused_at, refused_first}
use Rattle.rpki_extensions.specs.Kinds.{AreSteps, ClaimTriple, IsFirstOfEach, IsResultOfEach, NamesExcess}
use Rattle.rpki_extensions.specs.Paths.{IsFirstVerifyError}
use Rattle.rpki_extensions.specs.declared.error.VerifyError.{VerifyError}
use Rattle.rpki_extensions.specs.declared.error.VerifyError.TheVariants.{Absent, AsOctets, AddressOctets, Inherited}
use Rattle.rpki_extensions.specs.declared.error.VerifyError.TheVariants.{Asn, Ipv4, Ipv6}
use Rattle.rpki_extensions.specs.declared.error.VerifyPathError.{VerifyPathError}

-- the set of each kind is one of runs
abbrev pub AreRuns : Triple → Type 0
AreRuns set = InEach (λ kind. IsRunsOf (Holds (kind set)) (kind set))

-- so is the set that three claims leave
issued_are_runs : (issuer set : Triple) (asn v4 v6 : Claim) (mode : Overclaim)
    → IsIssuedOfEach issuer asn v4 v6 mode set → AreRuns set
issued_are_runs issuer set asn v4 v6 mode is = record {
  asn = issued_runs _ asn mode set.asn is.asn;
  ipv4 = issued_runs _ v4 mode set.ipv4 is.of_families.0;
  ipv6 = issued_runs _ v6 mode set.ipv6 is.of_families.1;
}

-- the claim of each kind
abbrev numbers : ClaimTriple → Claim
numbers claims = claims.asn

abbrev v4s : ClaimTriple → Claim
v4s claims = claims.ipv4

abbrev v6s : ClaimTriple → Claim
v6s claims = claims.ipv6

-- the step of a certificate
abbrev step_of : Claim → Claim → Claim → Overclaim → Step ClaimTriple
step_of asn v4 v6 mode = record { claim = record { asn = asn; ipv4 = v4; ipv6 = v6 }; mode = mode }

-- what the certificates leave
pub result_of_each : (certificates : List Extensions) (anchor set : Triple) → AreRuns anchor
    → IsVerifiedPath anchor certificates set
    → (steps : List (Step ClaimTriple)) × AreSteps certificates steps × IsResultOfEach anchor steps set
result_of_each [] anchor set runs same = (
  [],
  tt,
  rw same (record {
    asn = path_of_none numbers anchor.asn runs.asn;
    ipv4 = path_of_none v4s anchor.ipv4 runs.ipv4;
    ipv6 = path_of_none v6s anchor.ipv6 runs.ipv6;
  }),
)
result_of_each (certificate ∷ certificates) anchor set runs (next, (asn, v4, v6, are, is), path) =
    let mode = certificate.mode in
    let (steps, own, left) =
    result_of_each certificates next set (issued_are_runs anchor next asn v4 v6 mode is) path in
    let step = step_of asn v4 v6 mode in (
      step ∷ steps,
      (are, refl, own),
      record {
        asn = path_more numbers _ step next.asn is.asn steps set.asn left.asn;
        ipv4 = path_more v4s _ step next.ipv4 is.of_families.0 steps set.ipv4 left.ipv4;
        ipv6 = path_more v6s _ step next.ipv6 is.of_families.1 steps set.ipv6 left.ipv6;
      },
    )

-- the sets that the claims of a step leave, if none of them is refused
issued_of_each : (anchor : Triple) (step : Step ClaimTriple) (steps : List (Step ClaimTriple))
    → ((n : ℕ) → ExceedsAt numbers (Holds anchor.asn) (step ∷ steps) 0 n → ⊥)
    → ((n : ℕ) → ExceedsAt v4s (Holds anchor.ipv4) (step ∷ steps) 0 n → ⊥)
    → ((n : ℕ) → ExceedsAt v6s (Holds anchor.ipv6) (step ∷ steps) 0 n → ⊥)
    → (next : Triple) × IsIssuedOfEach anchor step.claim.asn step.claim.ipv4 step.claim.ipv6 step.mode next
issued_of_each anchor step steps first second third =
    let a = runs_of_left anchor.asn step.claim.asn in
    let b = runs_of_left anchor.ipv4 step.claim.ipv4 in
    let c = runs_of_left anchor.ipv6 step.claim.ipv6 in (
      record { asn = a.0; ipv4 = b.0; ipv6 = c.0 },
      record {
        asn = issued_first numbers _ step steps a.0 a.1 first;
        of_families =
            (issued_first v4s _ step steps b.0 b.1 second, issued_first v6s _ step steps c.0 c.1 third);
      },
    )

-- a certificate whose claims and mode are those of a step
verified_by : (anchor next : Triple) (certificate : Extensions) (step : Step ClaimTriple)
    → AreClaims certificate step.claim.asn step.claim.ipv4 step.claim.ipv6 → step.mode ≡ certificate.mode
    → IsIssuedOfEach anchor step.claim.asn step.claim.ipv4 step.claim.ipv6 step.mode next
    → IsVerified anchor certificate next
verified_by anchor next certificate step are mode is = (
  step.claim.asn,
  step.claim.ipv4,
  step.claim.ipv6,
  are,
  subst (λ m. IsIssuedOfEach anchor step.claim.asn step.claim.ipv4 step.claim.ipv6 m next) mode is,
)

-- what the paths of claims leave is what the certificates leave
pub verified_of_each : (certificates : List Extensions) (steps : List (Step ClaimTriple)) (anchor set : Triple)
    → AreRuns anchor → AreSteps certificates steps → IsResultOfEach anchor steps set
    → IsVerifiedPath anchor certificates set
verified_of_each [] [] anchor set runs own left = λ i. record {
  asn = none_leaves_root numbers anchor.asn set.asn runs.asn left.asn i;
  ipv4 = none_leaves_root v4s anchor.ipv4 set.ipv4 runs.ipv4 left.ipv4 i;
  ipv6 = none_leaves_root v6s anchor.ipv6 set.ipv6 runs.ipv6 left.ipv6 i;
}
verified_of_each [] (step ∷ steps) anchor set runs own left = absurd own
verified_of_each (certificate ∷ certificates) [] anchor set runs own left = absurd own
verified_of_each (certificate ∷ certificates) (step ∷ steps) anchor set runs (are, mode, own) left =
    let (next, is) =
    issued_of_each anchor step steps (left.asn.accepted 0) (left.ipv4.accepted 0) (left.ipv6.accepted 0) in
    let rest : IsResultOfEach next steps set = record {
      asn = path_rest numbers _ step next.asn is.asn steps set.asn left.asn;
      ipv4 = path_rest v4s _ step next.ipv4 is.of_families.0 steps set.ipv4 left.ipv4;
      ipv6 = path_rest v6s _ step next.ipv6 is.of_families.1 steps set.ipv6 left.ipv6;
    } in (
      next,
      verified_by anchor next certificate step are mode is,
      verified_of_each certificates steps next set
          (issued_are_runs anchor next step.claim.asn step.claim.ipv4 step.claim.ipv6 step.mode is) own rest,
    )

-- ---- refused

-- the index after another
next_index : (n : ℕ) → n + 1 ≡ suc n
next_index n = omega arith

module _ {A : Type 0} where
  -- the first certificate is refused
  first_here : (anchor : Triple) (asn v4 v6 : Claim) (mode : Overclaim) (reason : VerifyError A)
      → IsNotIssuedOfEach anchor asn v4 v6 mode reason
      → IsFirstOfEach anchor (step_of asn v4 v6 mode ∷ []) 0 reason
  first_here anchor asn v4 v6 mode (Asn excess) (inl is) = (
    refused_here numbers _ (step_of asn v4 v6 mode) [] excess is,
    λ k n below e. omega (arith, below),
    λ k n below e. omega (arith, below),
  )
  first_here anchor asn v4 v6 mode (Asn excess) (inr (issued, inl is)) = absurd is
  first_here anchor asn v4 v6 mode (Asn excess) (inr (issued, inr (more, is))) = absurd is
  first_here anchor asn v4 v6 mode (Ipv4 excess) (inl is) = absurd is
  first_here anchor asn v4 v6 mode (Ipv4 excess) (inr ((a, issued), inl is)) = (
    accepted_first numbers _ (step_of asn v4 v6 mode) a issued [],
    refused_here v4s _ (step_of asn v4 v6 mode) [] excess is,
    λ k n below e. omega (arith, below),
  )
  first_here anchor asn v4 v6 mode (Ipv4 excess) (inr (issued, inr (more, is))) = absurd is
  first_here anchor asn v4 v6 mode (Ipv6 excess) (inl is) = absurd is
  first_here anchor asn v4 v6 mode (Ipv6 excess) (inr (issued, inl is)) = absurd is
  first_here anchor asn v4 v6 mode (Ipv6 excess) (inr ((a, issued), inr ((b, more), is))) = (
    accepted_first numbers _ (step_of asn v4 v6 mode) a issued [],
    accepted_first v4s _ (step_of asn v4 v6 mode) b more [],
    refused_here v6s _ (step_of asn v4 v6 mode) [] excess is,
  )
  first_here anchor asn v4 v6 mode Absent (inl is) = absurd is
  first_here anchor asn v4 v6 mode Absent (inr (issued, inl is)) = absurd is
  first_here anchor asn v4 v6 mode Absent (inr (issued, inr (more, is))) = absurd is
  first_here anchor asn v4 v6 mode (AsOctets fault) (inl is) = absurd is
  first_here anchor asn v4 v6 mode (AsOctets fault) (inr (issued, inl is)) = absurd is
  first_here anchor asn v4 v6 mode (AsOctets fault) (inr (issued, inr (more, is))) = absurd is
  first_here anchor asn v4 v6 mode (AddressOctets fault) (inl is) = absurd is
  first_here anchor asn v4 v6 mode (AddressOctets fault) (inr (issued, inl is)) = absurd is
  first_here anchor asn v4 v6 mode (AddressOctets fault) (inr (issued, inr (more, is))) = absurd is
  first_here anchor asn v4 v6 mode Inherited (inl is) = absurd is
  first_here anchor asn v4 v6 mode Inherited (inr (issued, inl is)) = absurd is
  first_here anchor asn v4 v6 mode Inherited (inr (issued, inr (more, is))) = absurd is

  -- one certificate more is verified before the refused one
  first_more : (anchor next : Triple) (asn v4 v6 : Claim) (mode : Overclaim) (steps : List (Step ClaimTriple)) (at : ℕ)
      (reason : VerifyError A) → IsIssuedOfEach anchor asn v4 v6 mode next → IsFirstOfEach next steps at reason
      → IsFirstOfEach anchor (step_of asn v4 v6 mode ∷ steps) (suc at) reason
  first_more anchor next asn v4 v6 mode steps at (Asn excess) is (first, second, third) =
      let step = step_of asn v4 v6 mode in (
        refused_more numbers _ step next.asn is.asn steps at excess first,
        accepted_more v4s _ step next.ipv4 is.of_families.0 steps at (suc at) (omega arith) second,
        accepted_more v6s _ step next.ipv6 is.of_families.1 steps at (suc at) (omega arith) third,
      )
  first_more anchor next asn v4 v6 mode steps at (Ipv4 excess) is (first, second, third) =
      let step = step_of asn v4 v6 mode in (
        accepted_more numbers _ step next.asn is.asn steps (at + 1) (suc at + 1) (omega arith) first,
        refused_more v4s _ step next.ipv4 is.of_families.0 steps at excess second,
        accepted_more v6s _ step next.ipv6 is.of_families.1 steps at (suc at) (omega arith) third,
      )
  first_more anchor next asn v4 v6 mode steps at (Ipv6 excess) is (first, second, third) =
      let step = step_of asn v4 v6 mode in (
        accepted_more numbers _ step next.asn is.asn steps (at + 1) (suc at + 1) (omega arith) first,
        accepted_more v4s _ step next.ipv4 is.of_families.0 steps (at + 1) (suc at + 1) (omega arith) second,
        refused_more v6s _ step next.ipv6 is.of_families.1 steps at excess third,
      )
  first_more anchor next asn v4 v6 mode steps at Absent is first = absurd first
  first_more anchor next asn v4 v6 mode steps at (AsOctets fault) is first = absurd first
  first_more anchor next asn v4 v6 mode steps at (AddressOctets fault) is first = absurd first
  first_more anchor next asn v4 v6 mode steps at Inherited is first = absurd first

  -- a reason that names overclaimed resources is not that there are no claims
  refused_claims : (issuer : Triple) (certificate : Extensions) (reason : VerifyError A) → NamesExcess reason
      → HasVerifyError issuer certificate reason
      → (asn : Claim) × (v4 : Claim) × (v6 : Claim) × AreClaims certificate asn v4 v6
      × IsNotIssuedOfEach issuer asn v4 v6 certificate.mode reason
  refused_claims issuer certificate reason names (inr refused) = refused
  refused_claims issuer certificate (Asn excess) names (inl none) = absurd none
  refused_claims issuer certificate (Ipv4 excess) names (inl none) = absurd none
  refused_claims issuer certificate (Ipv6 excess) names (inl none) = absurd none
  refused_claims issuer certificate Absent names (inl none) = absurd names
  refused_claims issuer certificate (AsOctets fault) names (inl none) = absurd names
  refused_claims issuer certificate (AddressOctets fault) names (inl none) = absurd names
  refused_claims issuer certificate Inherited names (inl none) = absurd names

  -- the certificate at an index is refused
  first_at : (certificates : List Extensions) (at : ℕ) (anchor : Triple) (reason : VerifyError A) → NamesExcess reason
      → IsRefusedAt anchor certificates at reason
      → (steps : List (Step ClaimTriple)) × AreSteps (take (suc at) certificates) steps
      × IsFirstOfEach anchor steps at reason
  first_at [] at anchor reason names refused = absurd refused
  first_at (certificate ∷ certificates) zero anchor reason names refused =
      let (asn, v4, v6, are, is) = refused_claims anchor certificate reason names refused in (
        step_of asn v4 v6 certificate.mode ∷ [],
        (are, refl, tt),
        first_here anchor asn v4 v6 certificate.mode reason is,
      )
  first_at (certificate ∷ certificates) (suc at) anchor reason names (next, (asn, v4, v6, are, is), refused) =
      let (steps, own, first) = first_at certificates at next reason names refused in (
        step_of asn v4 v6 certificate.mode ∷ steps,
        (are, refl, own),
        first_more anchor next asn v4 v6 certificate.mode steps at reason is first,
      )

  -- the first certificate that is refused
  pub first_of_each : (anchor : Triple) (certificates : List Extensions) (refusal : VerifyPathError A)
      → NamesExcess refusal.reason → IsFirstVerifyError anchor certificates refusal
      → (steps : List (Step ClaimTriple)) × AreSteps (take (refusal.step + 1) certificates) steps
      × IsFirstOfEach anchor steps refusal.step refusal.reason
  first_of_each anchor certificates refusal names is =
      rw (next_index refusal.step)
      (first_at certificates refusal.step anchor refusal.reason names (refused_at anchor certificates refusal is))

  -- the first step is refused
  refused_now : (anchor : Triple) (step : Step ClaimTriple) (steps : List (Step ClaimTriple)) (reason : VerifyError A)
      → IsFirstOfEach anchor (step ∷ steps) 0 reason
      → IsNotIssuedOfEach anchor step.claim.asn step.claim.ipv4 step.claim.ipv6 step.mode reason
  refused_now anchor step steps (Asn excess) (first, second, third) =
      inl (refused_in_path numbers _ step steps excess first)
  refused_now anchor step steps (Ipv4 excess) (first, second, third) =
      let a = runs_of_left anchor.asn step.claim.asn in
      inr (
        (a.0, issued_first numbers _ step steps a.0 a.1 (λ n. first 0 n (omega arith))),
        inl (refused_in_path v4s _ step steps excess second),
      )
  refused_now anchor step steps (Ipv6 excess) (first, second, third) =
      let a = runs_of_left anchor.asn step.claim.asn in
      let b = runs_of_left anchor.ipv4 step.claim.ipv4 in
      inr (
        (a.0, issued_first numbers _ step steps a.0 a.1 (λ n. first 0 n (omega arith))),
        inr (
          (b.0, issued_first v4s _ step steps b.0 b.1 (λ n. second 0 n (omega arith))),
          refused_in_path v6s _ step steps excess third,
        ),
      )
  refused_now anchor step steps Absent first = absurd first
  refused_now anchor step steps (AsOctets fault) first = absurd first
  refused_now anchor step steps (AddressOctets fault) first = absurd first
  refused_now anchor step steps Inherited first = absurd first

  -- a later step is refused, so the first one is not
  accepted_now : (anchor : Triple) (step : Step ClaimTriple) (steps : List (Step ClaimTriple)) (at : ℕ)
      (reason : VerifyError A) → IsFirstOfEach anchor (step ∷ steps) (suc at) reason
      → (next : Triple) × IsIssuedOfEach anchor step.claim.asn step.claim.ipv4 step.claim.ipv6 step.mode next
  accepted_now anchor step steps at (Asn excess) (first, second, third) =
      issued_of_each anchor step steps (λ n. first.first 0 n (omega arith)) (λ n. second 0 n (omega arith))
      (λ n. third 0 n (omega arith))
  accepted_now anchor step steps at (Ipv4 excess) (first, second, third) =
      issued_of_each anchor step steps (λ n. first 0 n (omega arith)) (λ n. second.first 0 n (omega arith))
      (λ n. third 0 n (omega arith))
  accepted_now anchor step steps at (Ipv6 excess) (first, second, third) =
      issued_of_each anchor step steps (λ n. first 0 n (omega arith)) (λ n. second 0 n (omega arith))
      (λ n. third.first 0 n (omega arith))
  accepted_now anchor step steps at Absent first = absurd first
  accepted_now anchor step steps at (AsOctets fault) first = absurd first
  accepted_now anchor step steps at (AddressOctets fault) first = absurd first
  accepted_now anchor step steps at Inherited first = absurd first

  -- without the first step
  first_rest : (anchor next : Triple) (step : Step ClaimTriple) (steps : List (Step ClaimTriple)) (at : ℕ)
      (reason : VerifyError A)
      → IsIssuedOfEach anchor step.claim.asn step.claim.ipv4 step.claim.ipv6 step.mode next
      → IsFirstOfEach anchor (step ∷ steps) (suc at) reason → IsFirstOfEach next steps at reason
  first_rest anchor next step steps at (Asn excess) is (first, second, third) = (
    refused_rest numbers _ step next.asn is.asn steps at excess first,
    accepted_rest v4s _ step next.ipv4 is.of_families.0 steps at (suc at) (omega arith) second,
    accepted_rest v6s _ step next.ipv6 is.of_families.1 steps at (suc at) (omega arith) third,
  )
  first_rest anchor next step steps at (Ipv4 excess) is (first, second, third) = (
    accepted_rest numbers _ step next.asn is.asn steps (at + 1) (suc at + 1) (omega arith) first,
    refused_rest v4s _ step next.ipv4 is.of_families.0 steps at excess second,
    accepted_rest v6s _ step next.ipv6 is.of_families.1 steps at (suc at) (omega arith) third,
  )
  first_rest anchor next step steps at (Ipv6 excess) is (first, second, third) = (
    accepted_rest numbers _ step next.asn is.asn steps (at + 1) (suc at + 1) (omega arith) first,
    accepted_rest v4s _ step next.ipv4 is.of_families.0 steps (at + 1) (suc at + 1) (omega arith) second,
    refused_rest v6s _ step next.ipv6 is.of_families.1 steps at excess third,
  )
  first_rest anchor next step steps at Absent is first = absurd first
  first_rest anchor next step steps at (AsOctets fault) is first = absurd first
  first_rest anchor next step steps at (AddressOctets fault) is first = absurd first
  first_rest anchor next step steps at Inherited is first = absurd first

  -- no step is refused without steps
  no_step : (anchor : Triple) (at : ℕ) (reason : VerifyError A) → IsFirstOfEach anchor [] at reason → ⊥
  no_step anchor at (Asn excess) first = none_refused numbers _ at excess first.0
  no_step anchor at (Ipv4 excess) first = none_refused v4s _ at excess first.1
  no_step anchor at (Ipv6 excess) first = none_refused v6s _ at excess first.2
  no_step anchor at Absent first = first
  no_step anchor at (AsOctets fault) first = first
  no_step anchor at (AddressOctets fault) first = first
  no_step anchor at Inherited first = first

  -- the certificate of the refused step is refused
  refused_of_each : (certificates : List Extensions) (at : ℕ) (steps : List (Step ClaimTriple)) (anchor : Triple)
      (reason : VerifyError A) → AreSteps (take (suc at) certificates) steps → IsFirstOfEach anchor steps at reason
      → IsRefusedAt anchor certificates at reason
  refused_of_each [] at [] anchor reason own first = no_step anchor at reason first
  refused_of_each [] at (step ∷ steps) anchor reason own first = own
  refused_of_each (certificate ∷ certificates) zero [] anchor reason own first = absurd own
  refused_of_each (certificate ∷ certificates) zero (step ∷ steps) anchor reason (are, mode, own) first =
      inr (
        step.claim.asn,
        step.claim.ipv4,
        step.claim.ipv6,
        are,
        subst (λ m. IsNotIssuedOfEach anchor step.claim.asn step.claim.ipv4 step.claim.ipv6 m reason) mode
            (refused_now anchor step steps reason first),
      )
  refused_of_each (certificate ∷ certificates) (suc at) [] anchor reason own first = absurd own
  refused_of_each (certificate ∷ certificates) (suc at) (step ∷ steps) anchor reason (are, mode, own) first =
      let (next, is) = accepted_now anchor step steps at reason first in (
        next,
        verified_by anchor next certificate step are mode is,
        refused_of_each certificates at steps next reason own (first_rest anchor next step steps at reason is first),
      )

  -- the first refusal on the paths of claims is that of the path of certificates
  pub refused_by_each : (anchor : Triple) (certificates : List Extensions) (refusal : VerifyPathError A)
      (steps : List (Step ClaimTriple)) → AreSteps (take (refusal.step + 1) certificates) steps
      → IsFirstOfEach anchor steps refusal.step refusal.reason → IsFirstVerifyError anchor certificates refusal
  refused_by_each anchor certificates refusal steps own first =
      refused_first certificates refusal.step anchor refusal.reason
      (refused_of_each certificates refusal.step steps anchor refusal.reason
      (subst (λ n. AreSteps (take n certificates) steps) (next_index refusal.step) own) first)
