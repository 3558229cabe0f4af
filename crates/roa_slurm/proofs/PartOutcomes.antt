-- The members of an item of a SLURM file say one thing, or have one fault.
use Rattle.std.proofs.Common.{List, None, Option, Some, ap, arith, inl, inr, refl, sym, ℕ, ◌∙◌, ◌≡◌}
use Rattle.std.proofs.Common.{◌⊎◌}
use Rattle.rpki_base.proofs.AsnLemmas.{IsAsnText-one}
use Rattle.rpki_base.specs.declared.asn.ParseAsnError.{ParseAsnError}
use Rattle.rpki_prefix.proofs.PrefixTextLemmas.{HasPrefixTextFault-one, IsPrefixText-no_fault, IsPrefixText-one}
use Rattle.rpki_prefix.proofs.PrefixTextLemmas.{number_apart, same_number_fault}
use Rattle.rpki_text.proofs.NumberTexts.{IsNumberText-one}
use Rattle.roa_vrps.proofs.MemberLemmas.{wrong_one}
use Rattle.roa_vrps.proofs.RowLemmas.{max_error_one}
use Rattle.json.specs.Json.{Json, Members, number, string}
use Rattle.roa_slurm.proofs.Common.{FamilyPrefix, HasValue, IsString, Lacks, GivesAsn, HasAsnMemberFault, HasLongest}
use Rattle.roa_slurm.proofs.Common.{HasLongestFault, HasOptionalFault, HasOptionalText, GivesPrefix}
use Rattle.roa_slurm.proofs.Common.{HasPrefixMemberFault, HasRequiredText, HasRequiredTextFault, IsMissing}
use Rattle.roa_slurm.proofs.Common.{SlurmItemFault, SlurmMember}
use Rattle.roa_vrps.proofs.Outcomes.{IsExact}
use Rattle.roa_slurm.proofs.OutcomeLemmas.{exact_some}
use Rattle.roa_slurm.specs.Objects.{IsNumber}
use Rattle.roa_slurm.specs.Parts.{HasMaxLengthFault}
use Rattle.roa_slurm.specs.declared.member.SlurmMember.TheVariants.{Asn, MaxPrefixLength, Prefix}

module _ (part : SlurmMember) (members : Members) where
  -- a member of a kind, or none, has no fault
  lacking_apart : (IsKind : Json → Type 0) (f : SlurmItemFault) → Lacks part members
      → HasOptionalFault part IsKind members f → ⊥
  lacking_apart IsKind f lacks (wrong, some, is, _) = grind (arith)

  value_apart : (IsKind : Json → Type 0) (f : SlurmItemFault) (value : Json) → HasValue part members value
      → IsKind value → HasOptionalFault part IsKind members f → ⊥
  value_apart IsKind f value has kind h = grind (arith)

  optional_fault_one : (IsKind : Json → Type 0) (d e : SlurmItemFault) → HasOptionalFault part IsKind members d
      → HasOptionalFault part IsKind members e → d ≡ e
  optional_fault_one IsKind d e h k = grind (arith, wrong_one)

  pub optional_apart : (f : SlurmItemFault) → HasOptionalText part members
      → HasOptionalFault part IsString members f → ⊥
  optional_apart f h wrong = grind (arith)

  pub text_fault_one : (d e : SlurmItemFault) → HasOptionalFault part IsString members d
      → HasOptionalFault part IsString members e → d ≡ e
  text_fault_one d e h k = optional_fault_one IsString d e h k

  pub required_apart : (f : SlurmItemFault) → HasRequiredText part members → HasRequiredTextFault part members f → ⊥
  required_apart f h wrong = grind (arith)

  pub required_fault_one : (d e : SlurmItemFault) → HasRequiredTextFault part members d
      → HasRequiredTextFault part members e → d ≡ e
  required_fault_one d e h k = grind (arith, wrong_one)

  -- a member has one text
  same_string : (s t : List ℕ) → HasValue part members (string s) → HasValue part members (string t) → s ≡ t
  same_string s t h k = cc

  same_number : (s t : List ℕ) → HasValue part members (number s) → HasValue part members (number t) → s ≡ t
  same_number s t h k = cc

  lacks_no_value : (value : Json) → Lacks part members → HasValue part members value → ⊥
  lacks_no_value value h k = cc (sym h ∙ k)

-- there is only one error of an AS number
asn_error_one : (a b : ParseAsnError) → a ≡ b
asn_error_one a b = search (arith)

module _ (members : Members) where
  -- ---- the prefix

  pub prefix_one : (a b : Option FamilyPrefix) → GivesPrefix members a → GivesPrefix members b → a ≡ b
  prefix_one None None h k = refl
  prefix_one None (Some q) h (t, has, _) = absurd (lacks_no_value Prefix members (string t) h has)
  prefix_one (Some p) None (s, has, _) k = absurd (lacks_no_value Prefix members (string s) k has)
  prefix_one (Some p) (Some q) (s, has, is) (t, haz, iz) =
      ap Some (IsPrefixText-one t p q (rw (same_string Prefix members s t has haz) at is) iz)

  pub prefix_apart : (a : Option FamilyPrefix) (f : SlurmItemFault) → GivesPrefix members a
      → HasPrefixMemberFault members f → ⊥
  prefix_apart None f h (inl wrong) = lacking_apart Prefix members IsString f h wrong
  prefix_apart None f h (inr (t, has, _, _, _)) = lacks_no_value Prefix members (string t) h has
  prefix_apart (Some p) f (s, has, is) (inl wrong) =
      value_apart Prefix members IsString f (string s) has (s, refl) wrong
  prefix_apart (Some p) f (s, has, is) (inr (t, haz, wrong, fails, _)) =
      IsPrefixText-no_fault t p wrong (rw (same_string Prefix members s t has haz) at is) fails

  pub prefix_fault_one : (d e : SlurmItemFault) → HasPrefixMemberFault members d → HasPrefixMemberFault members e
      → d ≡ e
  prefix_fault_one d e (inl h) (inl k) = optional_fault_one Prefix members IsString d e h k
  prefix_fault_one d e (inl h) (inr (t, has, _, _, _)) =
      absurd (value_apart Prefix members IsString d (string t) has (t, refl) h)
  prefix_fault_one d e (inr (s, has, _, _, _)) (inl k) =
      absurd (value_apart Prefix members IsString e (string s) has (s, refl) k)
  prefix_fault_one d e (inr (s, has, f, fails, same)) (inr (t, haz, g, failz, equal)) =
      let fault = HasPrefixTextFault-one t f g (rw (same_string Prefix members s t has haz) at fails) failz in
      rw (same, equal, fault) refl

  -- ---- the AS number

  pub asn_one : (a b : Option ℕ) → GivesAsn members a → GivesAsn members b → a ≡ b
  asn_one None None h k = refl
  asn_one None (Some n) h (t, has, _) = absurd (lacks_no_value Asn members (number t) h has)
  asn_one (Some m) None (s, has, _) k = absurd (lacks_no_value Asn members (number s) k has)
  asn_one (Some m) (Some n) (s, has, is) (t, haz, iz) =
      ap Some (IsAsnText-one t m n (rw (same_number Asn members s t has haz) at is) iz)

  pub asn_apart : (a : Option ℕ) (f : SlurmItemFault) → GivesAsn members a → HasAsnMemberFault members f → ⊥
  asn_apart None f h (inl wrong) = lacking_apart Asn members IsNumber f h wrong
  asn_apart None f h (inr (t, has, _, _, _)) = lacks_no_value Asn members (number t) h has
  asn_apart (Some n) f (s, has, is) (inl wrong) = value_apart Asn members IsNumber f (number s) has (s, refl) wrong
  asn_apart (Some n) f (s, has, is) (inr (t, haz, none, _, _)) =
      none n (rw (same_number Asn members s t has haz) at is)

  pub asn_fault_one : (d e : SlurmItemFault) → HasAsnMemberFault members d → HasAsnMemberFault members e → d ≡ e
  asn_fault_one d e h k = grind (arith, asn_error_one, optional_fault_one)

  -- ---- a required one

  pub prefix_exact : IsExact (GivesPrefix members) (HasPrefixMemberFault members)
  prefix_exact = record { one = prefix_one; apart = prefix_apart; fault_one = prefix_fault_one }

  pub asn_exact : IsExact (GivesAsn members) (HasAsnMemberFault members)
  asn_exact = record { one = asn_one; apart = asn_apart; fault_one = asn_fault_one }

  pub need_prefix : IsExact (λ (p : FamilyPrefix). GivesPrefix members (Some p))
      (λ f. HasPrefixMemberFault members f ⊎ IsMissing Prefix members f)
  need_prefix = exact_some prefix_exact (λ f lacks. lacks.0) (λ d e h k. h.1 ∙ sym k.1)

  pub need_asn : IsExact (λ (n : ℕ). GivesAsn members (Some n))
      (λ f. HasAsnMemberFault members f ⊎ IsMissing Asn members f)
  need_asn = exact_some asn_exact (λ f lacks. lacks.0) (λ d e h k. h.1 ∙ sym k.1)

  -- ---- the maximum length

  module _ (prefix : FamilyPrefix) where
    pub longest_one : (m n : ℕ) → HasLongest members prefix m → HasLongest members prefix n → m ≡ n
    longest_one m n h k = grind (arith, IsNumberText-one)

    pub longest_apart : (n : ℕ) (f : SlurmItemFault) → HasLongest members prefix n → HasLongestFault members prefix f
        → ⊥
    longest_apart n f h wrong = grind (arith, IsNumberText-one, number_apart)

    length_fault_one : (text : List ℕ) (d e : SlurmItemFault) → HasMaxLengthFault prefix text d
        → HasMaxLengthFault prefix text e → d ≡ e
    length_fault_one text d e h k = grind (arith, IsNumberText-one, max_error_one, number_apart, same_number_fault)

    pub longest_fault_one : (d e : SlurmItemFault) → HasLongestFault members prefix d
        → HasLongestFault members prefix e → d ≡ e
    longest_fault_one d e (inl h) (inl k) = optional_fault_one MaxPrefixLength members IsNumber d e h k
    longest_fault_one d e (inl h) (inr (t, has, _)) =
        absurd (value_apart MaxPrefixLength members IsNumber d (number t) has (t, refl) h)
    longest_fault_one d e (inr (s, has, _)) (inl k) =
        absurd (value_apart MaxPrefixLength members IsNumber e (number s) has (s, refl) k)
    longest_fault_one d e (inr (s, has, h)) (inr (t, haz, k)) =
        length_fault_one t d e (rw (same_number MaxPrefixLength members s t has haz) at h) k

    pub longest_exact : IsExact (HasLongest members prefix) (HasLongestFault members prefix)
    longest_exact = record { one = longest_one; apart = longest_apart; fault_one = longest_fault_one }
