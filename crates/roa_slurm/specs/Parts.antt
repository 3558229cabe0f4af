-- What the members of an item of a SLURM file say (RFC 8416, 3.3 and 3.4).
use Rattle.std.specs.Prelude.{◌≡◌, ◌≢◌, ◌⊎◌, ℕ, ◌-◌, ◌^◌, List, Option, Some, None}
use Rattle.json.specs.Json.{Members, number, string}
use Rattle.rpki_base.specs.AsnText.{IsAsnText}
use Rattle.rpki_base.specs.declared.asn.ParseAsnError.{ParseAsnError}
use Rattle.rpki_prefix.specs.MaxLen.{HasMaxLenError, IsMaxLenOf}
use Rattle.rpki_prefix.specs.PrefixText.{HasPrefixTextFault, IsPrefixText}
use Rattle.rpki_prefix.specs.Values.{FamilyPrefix}
use Rattle.rpki_prefix.specs.declared.error.MaxLenError.{MaxLenError}
use Rattle.rpki_prefix.specs.declared.error.ParsePrefixError.{ParsePrefixError}
use Rattle.rpki_text.specs.Numbers.{HasNumberFault, IsNumberText}
use Rattle.rpki_text.specs.declared.number.ParseIntError.{ParseIntError}
use Rattle.roa_vrps.specs.declared.fault.MemberFault.{MemberFault}
use Rattle.roa_vrps.specs.declared.fault.MemberFault.TheVariants.{Missing}
use Rattle.roa_slurm.specs.declared.fault.SlurmItemFault.{SlurmItemFault}
use Rattle.roa_slurm.specs.declared.fault.SlurmItemFault.TheVariants.{InvalidAsn, InvalidPrefix, MaxLen, MaxLenFormat}
use Rattle.roa_slurm.specs.declared.fault.SlurmItemFault.TheVariants.{Member}
use Rattle.roa_slurm.specs.declared.member.SlurmMember.{SlurmMember}
use Rattle.roa_slurm.specs.declared.member.SlurmMember.TheVariants.{Asn, MaxPrefixLength, Prefix}
use Rattle.roa_slurm.specs.Objects.{HasValue, IsNumber, IsString, IsWrongMember, Lacks}
use Rattle.json.specs.Json.{Json}

-- the fault of an optional member of a kind: it is repeated, or of another kind
abbrev pub HasOptionalFault : SlurmMember → (Json → Type 0) → Members → SlurmItemFault → Type 0
HasOptionalFault part IsKind members fault =
    (wrong : MemberFault) × (wrong ≢ Missing) × IsWrongMember part IsKind members wrong × (fault ≡ Member part wrong)

-- the optional member is required, and missing
abbrev pub IsMissing : SlurmMember → Members → SlurmItemFault → Type 0
IsMissing part members fault = Lacks part members × (fault ≡ Member part Missing)

-- the object has no such member, or exactly one, a string
abbrev pub HasOptionalText : SlurmMember → Members → Type 0
HasOptionalText part members = Lacks part members ⊎ ((text : List ℕ) × HasValue part members (string text))

-- the object has exactly one such member, a string
abbrev pub HasRequiredText : SlurmMember → Members → Type 0
HasRequiredText part members = (text : List ℕ) × HasValue part members (string text)

-- the fault of a required string
abbrev pub HasRequiredTextFault : SlurmMember → Members → SlurmItemFault → Type 0
HasRequiredTextFault part members fault =
    (wrong : MemberFault) × IsWrongMember part IsString members wrong × (fault ≡ Member part wrong)

-- the prefix of an object, a string in the notation of RFC 4632, 3.1, or RFC 4291, 2.3; or None if it has none
abbrev pub GivesPrefix : Members → Option FamilyPrefix → Type 0
GivesPrefix members None = Lacks Prefix members
GivesPrefix members (Some prefix) = (text : List ℕ) × HasValue Prefix members (string text) × IsPrefixText text prefix

-- the fault of the prefix of an object: of the member, or of its text
abbrev pub HasPrefixMemberFault : Members → SlurmItemFault → Type 0
HasPrefixMemberFault members fault =
    HasOptionalFault Prefix IsString members fault
    ⊎ ((text : List ℕ) × HasValue Prefix members (string text) × (wrong : ParsePrefixError)
    × HasPrefixTextFault text wrong
    × (fault ≡ InvalidPrefix wrong))

-- the AS number of an object, a number of 32 bits, or None if it has none
abbrev pub GivesAsn : Members → Option ℕ → Type 0
GivesAsn members None = Lacks Asn members
GivesAsn members (Some asn) = (text : List ℕ) × HasValue Asn members (number text) × IsAsnText text asn

-- the fault of the AS number of an object: of the member, or of its number
abbrev pub HasAsnMemberFault : Members → SlurmItemFault → Type 0
HasAsnMemberFault members fault =
    HasOptionalFault Asn IsNumber members fault
    ⊎ ((text : List ℕ) × HasValue Asn members (number text) × ((n : ℕ) → ¬ IsAsnText text n)
    × (wrong : ParseAsnError) × (fault ≡ InvalidAsn wrong))

-- the length of the longest route that the object allows to its prefix: its maximum length, or the prefix length if it
-- has none
abbrev pub HasLongest : Members → FamilyPrefix → ℕ → Type 0
HasLongest members prefix len =
    (Lacks MaxPrefixLength members × (len ≡ prefix.len))
    ⊎ ((text : List ℕ) × HasValue MaxPrefixLength members (number text) × IsNumberText (2 ^ 8 - 1) text len
    × IsMaxLenOf prefix (Some len))

-- the fault of a number as a maximum length of the prefix: of the number, or of it as a length
abbrev pub HasMaxLengthFault : FamilyPrefix → List ℕ → SlurmItemFault → Type 0
HasMaxLengthFault prefix text fault =
    ((wrong : ParseIntError) × HasNumberFault (2 ^ 8 - 1) text wrong × (fault ≡ MaxLenFormat wrong))
    ⊎ ((len : ℕ) × IsNumberText (2 ^ 8 - 1) text len × (wrong : MaxLenError) × HasMaxLenError prefix (Some len) wrong
    × (fault ≡ MaxLen wrong))

-- the fault of the maximum length of an object: of the member, or of its number
abbrev pub HasLongestFault : Members → FamilyPrefix → SlurmItemFault → Type 0
HasLongestFault members prefix fault =
    HasOptionalFault MaxPrefixLength IsNumber members fault
    ⊎ ((text : List ℕ) × HasValue MaxPrefixLength members (number text) × HasMaxLengthFault prefix text fault)
