-- Trust anchors, certificates and paths have at most one set or one reason why they have none.
use Rattle.rpki_extensions.proofs.Common.{List, [], ap, inr, refl, sym, ℕ, ◌∷◌, ◌∙◌, ◌≡◌, Claim, Holds, Runs}
use Rattle.rpki_extensions.proofs.Common.{Triple, IsIssuedOfEach, IsNotIssuedOfEach, HasVerifyError, IsVerified}
use Rattle.rpki_extensions.proofs.Common.{IsOneInherited, IsVerifiedPath, Extensions}
use Rattle.std.proofs.Common.{inl, suc, zero, ◌⊎◌}
use Rattle.std.proofs.lemmas.List.Elements.{All-head, All-tail}
use Rattle.std.specs.List.{All}
use Rattle.rpki_chain.specs.Paths.{IsExcess, IsIssued}
use Rattle.rpki_chain.specs.declared.choice.ResourcesChoice.TheVariants.{Missing, Inherit, Blocks}
use Rattle.rpki_chain.specs.declared.path.Overclaim.{Overclaim}
use Rattle.rpki_resources.specs.Triples.{AreListed, ListsRuns}
use Rattle.rpki_extensions.proofs.OutcomeLemmas.{AtMostOne, and_then, as_errors, one_issued, or_else, outcome_by}
use Rattle.rpki_extensions.proofs.ReadingOutcomes.{AreTheClaims, one_claims}
use Rattle.rpki_extensions.proofs.RefusedCertificates.{IsRefusedAt, refused_at}
use Rattle.rpki_extensions.specs.Anchors.{InheritsSome, IsAnchorSet, IsNoAnchor}
use Rattle.rpki_extensions.specs.Below.{IsLeftBelow, IsVerifyBelowError}
use Rattle.rpki_extensions.specs.Claims.{AreNoClaims}
use Rattle.rpki_extensions.specs.Issued.{IsAsExcess, IsV4Excess, IsV6Excess}
use Rattle.rpki_extensions.specs.Kinds.{ClaimTriple}
use Rattle.rpki_extensions.specs.Outcomes.{HasFewOctets, OneOutcome}
use Rattle.rpki_extensions.specs.Paths.{IsFirstVerifyError}
use Rattle.rpki_extensions.specs.declared.error.VerifyBelowError.{VerifyBelowError}
use Rattle.rpki_extensions.specs.declared.error.VerifyBelowError.TheVariants.{Anchor, Certificate}
use Rattle.rpki_extensions.specs.declared.error.VerifyError.{VerifyError}
use Rattle.rpki_extensions.specs.declared.error.VerifyError.TheVariants.{Inherited}
use Rattle.rpki_extensions.specs.declared.error.VerifyError.TheVariants.{Asn, Ipv4, Ipv6}
use Rattle.rpki_extensions.specs.declared.error.VerifyPathError.{VerifyPathError}

-- the three claims of a certificate as one value
abbrev three : Claim → Claim → Claim → ClaimTriple
three asn v4 v6 = record { asn = asn; ipv4 = v4; ipv6 = v6 }

-- ---- a trust anchor

-- a claim lists at most one set
one_listed : (claim : Claim) → AtMostOne (ListsRuns claim)
one_listed Missing a b h k = h ∙ sym k
one_listed Inherit a b h k = absurd h
one_listed (Blocks set) a b h k = h ∙ sym k

-- an inherited claim lists none
lists_none : (claim : Claim) (set : Runs) → ListsRuns claim set → claim ≡ Inherit → ⊥
lists_none claim set h inherits = rw inherits at h

module _ {A : Type 0} where
  -- the claims of a trust anchor list a set, or one is inherited
  pub one_list : (claims : ClaimTriple)
      → OneOutcome (AreListed claims.asn claims.ipv4 claims.ipv6)
      (λ (reason : VerifyError A). (reason ≡ Inherited) × IsOneInherited claims.asn claims.ipv4 claims.ipv6)
  one_list claims = record {
    one_value = λ a b h k. λ i. record {
      asn = one_listed claims.asn a.asn b.asn h.asn k.asn i;
      ipv4 = one_listed claims.ipv4 a.ipv4 b.ipv4 h.ipv4 k.ipv4 i;
      ipv6 = one_listed claims.ipv6 a.ipv6 b.ipv6 h.ipv6 k.ipv6 i;
    };
    one_refusal = λ d e h k. h.0 ∙ sym k.0;
    apart = λ a e h k. elim (k.1) [
      | inl asn ↦ lists_none claims.asn a.asn h.asn asn
      | inr (inl v4) ↦ lists_none claims.ipv4 a.ipv4 h.ipv4 v4
      | inr (inr v6) ↦ lists_none claims.ipv6 a.ipv6 h.ipv6 v6
    ];
  }

  -- a reason that names inherited resources, with the claims as one value
  inherits_some : (certificate : Extensions) (reason : VerifyError A) → InheritsSome certificate reason
      → (claims : ClaimTriple) × AreTheClaims certificate claims
      × ((reason ≡ Inherited) × IsOneInherited claims.asn claims.ipv4 claims.ipv6)
  inherits_some certificate Inherited (asn, v4, v6, are, one) = (three asn v4 v6, are, (refl, one))
  inherits_some certificate reason h = absurd h

  -- any reason of a trust anchor, with the claims as one value
  no_anchor : (certificate : Extensions) (reason : VerifyError A) → IsNoAnchor certificate reason
      → AreNoClaims certificate reason
      ⊎ ((claims : ClaimTriple) × AreTheClaims certificate claims
      × ((reason ≡ Inherited) × IsOneInherited claims.asn claims.ipv4 claims.ipv6))
  no_anchor certificate reason (inl none) = inl none
  no_anchor certificate reason (inr some) = inr (inherits_some certificate reason some)

  -- a trust anchor has one set or one reason
  pub one_anchor : (certificate : Extensions) → HasFewOctets certificate
      → OneOutcome (IsAnchorSet certificate) (IsNoAnchor {A = A} certificate)
  one_anchor certificate few =
      outcome_by (and_then (one_claims certificate few) (λ claims are. one_list claims))
      (λ set (asn, v4, v6, are, listed). (three asn v4 v6, are, listed)) (no_anchor certificate)

  -- ---- one certificate

  -- the overclaimed resources of a kind are the field of the reason
  as_excess : (issuer : Runs) (claim : Claim) (mode : Overclaim) (reason : VerifyError A)
      → IsAsExcess issuer claim mode reason
      → (excess : Runs) × (reason ≡ Asn excess) × IsExcess (Holds issuer) claim mode excess
  as_excess issuer claim mode (Asn excess) h = (excess, refl, h)
  as_excess issuer claim mode reason h = absurd h

  v4_excess : (issuer : Runs) (claim : Claim) (mode : Overclaim) (reason : VerifyError A)
      → IsV4Excess issuer claim mode reason
      → (excess : Runs) × (reason ≡ Ipv4 excess) × IsExcess (Holds issuer) claim mode excess
  v4_excess issuer claim mode (Ipv4 excess) h = (excess, refl, h)
  v4_excess issuer claim mode reason h = absurd h

  v6_excess : (issuer : Runs) (claim : Claim) (mode : Overclaim) (reason : VerifyError A)
      → IsV6Excess issuer claim mode reason
      → (excess : Runs) × (reason ≡ Ipv6 excess) × IsExcess (Holds issuer) claim mode excess
  v6_excess issuer claim mode (Ipv6 excess) h = (excess, refl, h)
  v6_excess issuer claim mode reason h = absurd h

  module _ (issuer : Triple) (claims : ClaimTriple) (mode : Overclaim) where
    numbers : OneOutcome (IsIssued (Holds issuer.asn) claims.asn mode) (IsAsExcess {A = A} issuer.asn claims.asn mode)
    numbers = as_errors (λ x. Asn x) (one_issued _ claims.asn mode) (as_excess issuer.asn claims.asn mode)

    v4 : OneOutcome (IsIssued (Holds issuer.ipv4) claims.ipv4 mode) (IsV4Excess {A = A} issuer.ipv4 claims.ipv4 mode)
    v4 = as_errors (λ x. Ipv4 x) (one_issued _ claims.ipv4 mode) (v4_excess issuer.ipv4 claims.ipv4 mode)

    v6 : OneOutcome (IsIssued (Holds issuer.ipv6) claims.ipv6 mode) (IsV6Excess {A = A} issuer.ipv6 claims.ipv6 mode)
    v6 = as_errors (λ x. Ipv6 x) (one_issued _ claims.ipv6 mode) (v6_excess issuer.ipv6 claims.ipv6 mode)

    -- three claims leave one set of each kind, or one kind is refused for one reason
    one_issued_of_each : OneOutcome (IsIssuedOfEach issuer claims.asn claims.ipv4 claims.ipv6 mode)
        (IsNotIssuedOfEach {A = A} issuer claims.asn claims.ipv4 claims.ipv6 mode)
    one_issued_of_each = record {
      one_value = λ a b h k. λ i. record {
        asn = numbers.one_value a.asn b.asn h.asn k.asn i;
        ipv4 = v4.one_value a.ipv4 b.ipv4 h.of_families.0 k.of_families.0 i;
        ipv6 = v6.one_value a.ipv6 b.ipv6 h.of_families.1 k.of_families.1 i;
      };
      one_refusal = or_else numbers.one_refusal
          (or_else v4.one_refusal v6.one_refusal (λ e h x. v4.apart x.0 e x.1 h)) (λ e h x. numbers.apart x.0 e x.1 h);
      apart = λ a e h k. elim k [
        | inl is ↦ numbers.apart a.asn e h.asn is
        | inr (x, inl is) ↦ v4.apart a.ipv4 e h.of_families.0 is
        | inr (x, inr (y, is)) ↦ v6.apart a.ipv6 e h.of_families.1 is
      ];
    }

  -- any reason of a certificate, with the claims as one value
  has_error : (issuer : Triple) (certificate : Extensions) (reason : VerifyError A)
      → HasVerifyError issuer certificate reason
      → AreNoClaims certificate reason
      ⊎ ((claims : ClaimTriple) × AreTheClaims certificate claims
      × IsNotIssuedOfEach issuer claims.asn claims.ipv4 claims.ipv6 certificate.mode reason)
  has_error issuer certificate reason (inl none) = inl none
  has_error issuer certificate reason (inr (asn, v4, v6, are, is)) = inr (three asn v4 v6, are, is)

  -- a certificate has one set or one reason
  pub one_verified : (issuer : Triple) (certificate : Extensions) → HasFewOctets certificate
      → OneOutcome (IsVerified issuer certificate) (HasVerifyError {A = A} issuer certificate)
  one_verified issuer certificate few =
      outcome_by
      (and_then (one_claims certificate few) (λ claims are. one_issued_of_each issuer claims certificate.mode))
      (λ set (asn, v4, v6, are, is). (three asn v4 v6, are, is)) (has_error issuer certificate)

-- ---- a path

-- certificates leave at most one set
one_left : (certificates : List Extensions) → All HasFewOctets certificates → (anchor : Triple)
    → AtMostOne (IsVerifiedPath anchor certificates)
one_left [] few anchor a b h k = h ∙ sym k
one_left (certificate ∷ certificates) few anchor a b (next, one, h) (other, also, k) =
    let first = one_verified {A = Unit {0}} anchor certificate (All-head HasFewOctets certificate certificates few) in
    one_left certificates (All-tail HasFewOctets certificate certificates few) next a b h
    (rw (first.one_value next other one also) k)

module _ {A : Type 0} where
  -- at most one certificate is the first that is refused, for one reason
  one_refused : (certificates : List Extensions) → All HasFewOctets certificates → (anchor : Triple) (at to : ℕ)
      (d e : VerifyError A) → IsRefusedAt anchor certificates at d → IsRefusedAt anchor certificates to e
      → (at ≡ to) × (d ≡ e)
  one_refused [] few anchor at to d e h k = absurd h
  one_refused (certificate ∷ certificates) few anchor zero zero d e h k =
      let first = one_verified {A = A} anchor certificate (All-head HasFewOctets certificate certificates few) in
      (refl, first.one_refusal d e h k)
  one_refused (certificate ∷ certificates) few anchor zero (suc to) d e h (next, one, k) =
      let first = one_verified {A = A} anchor certificate (All-head HasFewOctets certificate certificates few) in
      absurd (first.apart next d one h)
  one_refused (certificate ∷ certificates) few anchor (suc at) zero d e (next, one, h) k =
      let first = one_verified {A = A} anchor certificate (All-head HasFewOctets certificate certificates few) in
      absurd (first.apart next e one k)
  one_refused (certificate ∷ certificates) few anchor (suc at) (suc to) d e (next, one, h) (other, also, k) =
      let first = one_verified {A = A} anchor certificate (All-head HasFewOctets certificate certificates few) in
      let same =
      one_refused certificates (All-tail HasFewOctets certificate certificates few) next at to d e h
      (rw (first.one_value next other one also) k) in
      (ap suc same.0, same.1)

  -- a path that leaves a set has no refused certificate
  path_apart : (certificates : List Extensions) → All HasFewOctets certificates → (anchor set : Triple) (at : ℕ)
      (e : VerifyError A) → IsVerifiedPath anchor certificates set → IsRefusedAt anchor certificates at e → ⊥
  path_apart [] few anchor set at e h k = k
  path_apart (certificate ∷ certificates) few anchor set zero e (next, one, h) k =
      let first = one_verified {A = A} anchor certificate (All-head HasFewOctets certificate certificates few) in
      first.apart next e one k
  path_apart (certificate ∷ certificates) few anchor set (suc at) e (next, one, h) (other, also, k) =
      let first = one_verified {A = A} anchor certificate (All-head HasFewOctets certificate certificates few) in
      path_apart certificates (All-tail HasFewOctets certificate certificates few) next set at e h
      (rw (first.one_value next other one also) k)

  -- a path leaves one set or has one first refusal
  pub one_verified_path : (anchor : Triple) (certificates : List Extensions) → All HasFewOctets certificates
      → OneOutcome (IsVerifiedPath anchor certificates) (IsFirstVerifyError {A = A} anchor certificates)
  one_verified_path anchor certificates few = record {
    one_value = one_left certificates few anchor;
    one_refusal = λ d e h k.
        let same =
        one_refused certificates few anchor d.step e.step d.reason e.reason (refused_at anchor certificates d h)
        (refused_at anchor certificates e k) in
        λ i. record { step = same.0 i; reason = same.1 i };
    apart = λ a e h k.
        path_apart certificates few anchor a e.step e.reason h (refused_at anchor certificates e k);
  }

  -- ---- from the anchor's extensions

  module _ (anchor : Extensions) (certificates : List Extensions) (own : HasFewOctets anchor)
      (few : All HasFewOctets certificates) where
    root : OneOutcome (IsAnchorSet anchor) (IsNoAnchor {A = A} anchor)
    root = one_anchor anchor own

    -- two errors are equal
    one_reason : (d e : VerifyBelowError A) → IsVerifyBelowError anchor certificates d
        → IsVerifyBelowError anchor certificates e → d ≡ e
    one_reason (Anchor d) (Anchor e) h k = ap (λ (x : VerifyError A). Anchor x) (root.one_refusal d e h k)
    one_reason (Anchor d) (Certificate e) h (set, is, k) = absurd (root.apart set d is h)
    one_reason (Certificate d) (Anchor e) (set, is, h) k = absurd (root.apart set e is k)
    one_reason (Certificate d) (Certificate e) (set, is, h) (other, also, k) =
        ap (λ (x : VerifyPathError A). Certificate x)
        ((one_verified_path set certificates few).one_refusal d e h (rw (root.one_value set other is also) k))

    -- a set and an error exclude each other
    below_apart : (a : Triple) (e : VerifyBelowError A) → IsLeftBelow anchor certificates a
        → IsVerifyBelowError anchor certificates e → ⊥
    below_apart a (Anchor e) (set, is, h) k = root.apart set e is k
    below_apart a (Certificate e) (set, is, h) (other, also, k) =
        (one_verified_path set certificates few).apart a e h (rw (root.one_value set other is also) k)

    -- a path below the anchor's extensions leaves one set or has one error
    pub one_below : OneOutcome (IsLeftBelow anchor certificates) (IsVerifyBelowError {A = A} anchor certificates)
    one_below = record {
      one_value = λ a b (set, is, h) (other, also, k).
          (one_verified_path set certificates few).one_value a b h (rw (root.one_value set other is also) k);
      one_refusal = one_reason;
      apart = below_apart;
    }
