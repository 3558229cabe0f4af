-- The first fault of the members of an item.
use Rattle.roa_slurm.proofs.Common.{List, MatchOption, None, Option, Some, inl, inr, ℕ, ◌⊎◌, Bor, Members, string}
use Rattle.roa_slurm.proofs.Common.{FamilyPrefix, HaveAssertionFault, HaveKeyFault, HaveKeyFilterFault, HasValue}
use Rattle.roa_slurm.proofs.Common.{IsString, Lacks, GivesAsn, HasAsnMemberFault, HasLongest, HasLongestFault}
use Rattle.roa_slurm.proofs.Common.{HasOptionalFault, HasOptionalText, GivesPrefix}
use Rattle.roa_slurm.proofs.Common.{HasRequiredTextFault, IsMissing, SlurmItemFault, SlurmMember, Asn, Comment}
use Rattle.roa_slurm.proofs.Common.{Ski}

-- a text that is there or not is an optional one
pub optional_has : (part : SlurmMember) (members : Members) (found : Option (Bor (List ℕ)))
    → MatchOption found (Lacks part members) (λ text. HasValue part members (string text.now))
    → HasOptionalText part members
optional_has part ms None lacks = inl lacks
optional_has part ms (Some text) has = inr (text.now, has)

module _ (members : Members) (fault : SlurmItemFault) where
  -- ---- of an added VRP: of the AS number, the maximum length, the comment

  pub assertion_asn : (prefix : FamilyPrefix) → GivesPrefix members (Some prefix)
      → HasAsnMemberFault members fault ⊎ IsMissing Asn members fault → HaveAssertionFault members fault
  assertion_asn prefix has wrong = inr ((prefix, has), inl wrong)

  pub assertion_longest : (prefix : FamilyPrefix) (asn : ℕ) → GivesPrefix members (Some prefix)
      → GivesAsn members (Some asn) → HasLongestFault members prefix fault → HaveAssertionFault members fault
  assertion_longest prefix asn has is wrong = inr ((prefix, has), inr ((asn, is), (prefix, has, inl wrong)))

  pub assertion_comment : (prefix : FamilyPrefix) (asn len : ℕ) → GivesPrefix members (Some prefix)
      → GivesAsn members (Some asn) → HasLongest members prefix len
      → HasOptionalFault Comment IsString members fault → HaveAssertionFault members fault
  assertion_comment prefix asn len has is allows wrong =
      inr ((prefix, has), inr ((asn, is), (prefix, has, inr ((len, allows), wrong))))

  -- ---- of a filter of router keys: of the identifier, the comment

  pub key_filter_comment : (asn : Option ℕ) → GivesAsn members asn → HasOptionalText Ski members
      → HasOptionalFault Comment IsString members fault → HaveKeyFilterFault members fault
  key_filter_comment asn is identifier wrong = inr ((asn, is), inr (identifier, inl wrong))

  -- ---- of an added router key: of the identifier, the key, the comment

  pub key_identifier : (asn : ℕ) → GivesAsn members (Some asn) → HasRequiredTextFault Ski members fault
      → HaveKeyFault members fault
  key_identifier asn is wrong = inr ((asn, is), inl wrong)
