-- The items of the four lists of a SLURM file (RFC 8416, 3.3 and 3.4), and their faults.
use Rattle.std.specs.Prelude.{◌≡◌, ◌≢◌, ◌⊎◌, ℕ, Option, Some, None}
use Rattle.json.specs.Json.{Json, Members, object}
use Rattle.rpki_prefix.specs.MaxLen.{MaxLenValue}
use Rattle.rpki_prefix.specs.Values.{FamilyPrefix}
use Rattle.roa_slurm.specs.Objects.{HasUnknown, IsString, KnowsAll, Lacks}
use Rattle.roa_slurm.specs.Parts.{GivesAsn, HasAsnMemberFault, HasLongest, HasLongestFault, HasOptionalFault}
use Rattle.roa_slurm.specs.Parts.{HasOptionalText, GivesPrefix, HasPrefixMemberFault, HasRequiredText}
use Rattle.roa_slurm.specs.Parts.{HasRequiredTextFault, IsMissing}
use Rattle.roa_slurm.specs.Steps.{FaultThen}
use Rattle.roa_slurm.specs.declared.bgpsec.KeyAssertion.{KeyAssertion}
use Rattle.roa_slurm.specs.declared.bgpsec.KeyFilter.{KeyFilter}
use Rattle.roa_slurm.specs.declared.fault.SlurmItemFault.{SlurmItemFault}
use Rattle.roa_slurm.specs.declared.fault.SlurmItemFault.TheVariants.{NoCriterion, NotObject, Unknown}
use Rattle.roa_slurm.specs.declared.filter.PrefixFilter.{PrefixFilter}
use Rattle.roa_slurm.specs.declared.filter.PrefixFilter.TheVariants.{ByAsn, ByBoth, ByPrefix}
use Rattle.roa_slurm.specs.declared.member.SlurmMember.TheVariants.{Asn, Comment, Prefix, RouterPublicKey, Ski}
use Rattle.roa_slurm.specs.declared.object.SlurmObject.{SlurmObject}
use Rattle.roa_slurm.specs.declared.object.SlurmObject.TheVariants.{BgpsecAssertionItem, BgpsecFilterItem}
use Rattle.roa_slurm.specs.declared.object.SlurmObject.TheVariants.{PrefixAssertionItem, PrefixFilterItem}

-- the item is an object of these members, and the RFC defines each of them for such an object
abbrev pub IsItemOf : SlurmObject → Json → Members → Type 0
IsItemOf whole value members = (value ≡ object members) × KnowsAll whole members

-- the item is no object, or has a member that the RFC doesn't define for it
abbrev pub HasShapeFault : SlurmObject → Json → SlurmItemFault → Type 0
HasShapeFault whole value fault =
    (((members : Members) → value ≢ object members) × (fault ≡ NotObject))
    ⊎ ((members : Members) × (value ≡ object members) × (number : ℕ) × HasUnknown whole 1 members number
    × (fault ≡ Unknown number))

-- the fault of an item: of its shape, or of its members
abbrev pub HasEntryFault : SlurmObject → (Members → SlurmItemFault → Type 0) → Json → SlurmItemFault → Type 0
HasEntryFault whole Fail value fault =
    HasShapeFault whole value fault ⊎ ((members : Members) × IsItemOf whole value members × Fail members fault)

-- the filter of a prefix, of an AS number, or of both
abbrev pub IsFilterBy : Option FamilyPrefix → Option ℕ → PrefixFilter → Type 0
IsFilterBy None None filter = ⊥
IsFilterBy (Some prefix) None filter = filter ≡ ByPrefix prefix
IsFilterBy None (Some asn) filter = filter ≡ ByAsn asn
IsFilterBy (Some prefix) (Some asn) filter = filter ≡ ByBoth prefix asn

-- the members of a filter of VRPs: a prefix or an AS number or both, and at most one comment (RFC 8416, 3.3.1)
abbrev pub AreFilter : Members → PrefixFilter → Type 0
AreFilter members filter =
    (prefix : Option FamilyPrefix) × GivesPrefix members prefix × (asn : Option ℕ) × GivesAsn members asn
    × HasOptionalText Comment members × IsFilterBy prefix asn filter

-- their fault: of the prefix, of the AS number, of the comment, or that there is neither a prefix nor an AS number
abbrev pub HaveFilterFault : Members → SlurmItemFault → Type 0
HaveFilterFault members =
    FaultThen (HasPrefixMemberFault members) ((prefix : Option FamilyPrefix) × GivesPrefix members prefix)
    (FaultThen (HasAsnMemberFault members) ((asn : Option ℕ) × GivesAsn members asn)
    (FaultThen (HasOptionalFault Comment IsString members) (HasOptionalText Comment members)
    (λ fault. Lacks Prefix members × Lacks Asn members × (fault ≡ NoCriterion))))

-- an item of `prefixFilters` (RFC 8416, 3.3.1)
abbrev pub IsPrefixFilter : Json → PrefixFilter → Type 0
IsPrefixFilter value filter = (members : Members) × IsItemOf PrefixFilterItem value members × AreFilter members filter

abbrev pub HasPrefixFilterFault : Json → SlurmItemFault → Type 0
HasPrefixFilterFault = HasEntryFault PrefixFilterItem HaveFilterFault

-- the members of an added VRP: a prefix, an AS number, at most one maximum length and at most one comment (RFC 8416,
-- 3.4.1)
pub record AreAssertion (members : Members) (vrp : MaxLenValue × ℕ) : Type 0 where
  pub prefix : GivesPrefix members (Some (vrp.0.prefix))
  pub asn : GivesAsn members (Some (vrp.1))
  pub longest : ℕ
  pub allows : HasLongest members vrp.0.prefix longest
  pub max_len : vrp.0.max_len ≡ Some longest
  pub comment : HasOptionalText Comment members

-- their fault: of the prefix, of the AS number, of the maximum length, or of the comment
abbrev pub HaveAssertionFault : Members → SlurmItemFault → Type 0
HaveAssertionFault members fault =
    FaultThen (λ f. HasPrefixMemberFault members f ⊎ IsMissing Prefix members f)
    ((prefix : FamilyPrefix) × GivesPrefix members (Some prefix))
    (FaultThen (λ f. HasAsnMemberFault members f ⊎ IsMissing Asn members f) ((asn : ℕ) × GivesAsn members (Some asn))
    (λ fault. (prefix : FamilyPrefix) × GivesPrefix members (Some prefix)
    × FaultThen (HasLongestFault members prefix) ((len : ℕ) × HasLongest members prefix len)
    (HasOptionalFault Comment IsString members) fault)) fault

-- an item of `prefixAssertions` (RFC 8416, 3.4.1)
abbrev pub IsPrefixAssertion : Json → MaxLenValue × ℕ → Type 0
IsPrefixAssertion value vrp =
    (members : Members) × IsItemOf PrefixAssertionItem value members × AreAssertion members vrp

abbrev pub HasPrefixAssertionFault : Json → SlurmItemFault → Type 0
HasPrefixAssertionFault = HasEntryFault PrefixAssertionItem HaveAssertionFault

-- The members of a filter of router keys: an AS number or an identifier or both, and at most one comment (RFC 8416,
-- 3.3.2). An identifier is any string.
pub record AreKeyFilter (members : Members) : Type 0 where
  pub asn : Option ℕ
  pub has_asn : GivesAsn members asn
  pub identifier : HasOptionalText Ski members
  pub comment : HasOptionalText Comment members
  pub some : (¬ Lacks Asn members) ⊎ (¬ Lacks Ski members)

abbrev pub HaveKeyFilterFault : Members → SlurmItemFault → Type 0
HaveKeyFilterFault members =
    FaultThen (HasAsnMemberFault members) ((asn : Option ℕ) × GivesAsn members asn)
    (FaultThen (HasOptionalFault Ski IsString members) (HasOptionalText Ski members)
    (FaultThen (HasOptionalFault Comment IsString members) (HasOptionalText Comment members)
    (λ fault. Lacks Asn members × Lacks Ski members × (fault ≡ NoCriterion))))

-- an item of `bgpsecFilters` (RFC 8416, 3.3.2)
abbrev pub IsKeyFilter : Json → KeyFilter → Type 0
IsKeyFilter value key = (members : Members) × IsItemOf BgpsecFilterItem value members × AreKeyFilter members

abbrev pub HasKeyFilterFault : Json → SlurmItemFault → Type 0
HasKeyFilterFault = HasEntryFault BgpsecFilterItem HaveKeyFilterFault

-- The members of an added router key: an AS number, an identifier and a key, and at most one comment (RFC 8416, 3.4.2).
-- An identifier and a key are any strings.
pub record AreKey (members : Members) : Type 0 where
  pub asn : ℕ
  pub has_asn : GivesAsn members (Some asn)
  pub identifier : HasRequiredText Ski members
  pub key : HasRequiredText RouterPublicKey members
  pub comment : HasOptionalText Comment members

abbrev pub HaveKeyFault : Members → SlurmItemFault → Type 0
HaveKeyFault members =
    FaultThen (λ f. HasAsnMemberFault members f ⊎ IsMissing Asn members f) ((asn : ℕ) × GivesAsn members (Some asn))
    (FaultThen (HasRequiredTextFault Ski members) (HasRequiredText Ski members)
    (FaultThen (HasRequiredTextFault RouterPublicKey members) (HasRequiredText RouterPublicKey members)
    (HasOptionalFault Comment IsString members)))

-- an item of `bgpsecAssertions` (RFC 8416, 3.4.2)
abbrev pub IsKeyAssertion : Json → KeyAssertion → Type 0
IsKeyAssertion value key = (members : Members) × IsItemOf BgpsecAssertionItem value members × AreKey members

abbrev pub HasKeyAssertionFault : Json → SlurmItemFault → Type 0
HasKeyAssertionFault = HasEntryFault BgpsecAssertionItem HaveKeyFault
