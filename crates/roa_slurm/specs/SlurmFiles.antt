-- SLURM files (RFC 8416, 3), and their faults. RFC 8416, 3.1: each deviation from the RFC is an error, and so is a
-- member that it doesn't define.
use Rattle.std.specs.Prelude.{◌≡◌, ◌≢◌, ◌⊎◌, ℕ, List, codes}
use Rattle.std.specs.Str.{IsUtf8}
use Rattle.json.specs.Json.{Json, Members, number, object}
use Rattle.rpki_prefix.specs.MaxLen.{MaxLenValue}
use Rattle.roa_vrps.specs.JsonFiles.{IsJsonObject}
use Rattle.roa_vrps.specs.Marks.{IsUnmarked}
use Rattle.roa_vrps.specs.declared.fault.MemberFault.{MemberFault}
use Rattle.roa_slurm.specs.Entries.{HasKeyAssertionFault, HasKeyFilterFault, HasPrefixAssertionFault}
use Rattle.roa_slurm.specs.Entries.{HasPrefixFilterFault, IsKeyAssertion, IsKeyFilter, IsPrefixAssertion}
use Rattle.roa_slurm.specs.Entries.{IsPrefixFilter}
use Rattle.roa_slurm.specs.Lists.{HasList, HasListFault}
use Rattle.roa_slurm.specs.Objects.{HasUnknown, HasValue, IsNumber, IsObject, IsWrongMember, KnowsAll}
use Rattle.roa_slurm.specs.Steps.{FaultThen}
use Rattle.roa_slurm.specs.declared.fault.SlurmFault.{SlurmFault}
use Rattle.roa_slurm.specs.declared.fault.SlurmFault.TheVariants.{Member, NotObject, Unknown, UnknownIn, Version}
use Rattle.roa_slurm.specs.declared.filter.PrefixFilter.{PrefixFilter}
use Rattle.roa_slurm.specs.declared.member.SlurmMember.{SlurmMember}
use Rattle.roa_slurm.specs.declared.member.SlurmMember.TheVariants.{BgpsecAssertions, BgpsecFilters}
use Rattle.roa_slurm.specs.declared.member.SlurmMember.TheVariants.{LocallyAddedAssertions, PrefixAssertions}
use Rattle.roa_slurm.specs.declared.member.SlurmMember.TheVariants.{PrefixFilters, SlurmVersion}
use Rattle.roa_slurm.specs.declared.member.SlurmMember.TheVariants.{ValidationOutputFilters}
use Rattle.roa_slurm.specs.declared.object.SlurmObject.{SlurmObject}
use Rattle.roa_slurm.specs.declared.object.SlurmObject.TheVariants.{Assertions, File, Filters}
use Rattle.roa_slurm.specs.declared.slurm.Slurm.{Slurm}

-- the version is the number 1 (RFC 8416, 3.2)
abbrev pub HasVersion : Members → Type 0
HasVersion members = HasValue SlurmVersion members (number (codes "1"))

-- the version is missing, repeated or no number, or it is another number
abbrev pub HasVersionFault : Members → SlurmFault → Type 0
HasVersionFault members fault =
    ((wrong : MemberFault) × IsWrongMember SlurmVersion IsNumber members wrong × (fault ≡ Member SlurmVersion wrong))
    ⊎ ((text : List ℕ) × HasValue SlurmVersion members (number text) × (text ≢ codes "1") × (fault ≡ Version))

-- the object has exactly one such member, an object of these members, and the RFC defines each of them for it
abbrev pub HasPart : SlurmMember → SlurmObject → Members → Members → Type 0
HasPart part whole members inner = HasValue part members (object inner) × KnowsAll whole inner

-- the fault of such a member: it is missing, repeated or no object, or has a member that the RFC doesn't define for it
abbrev pub HasPartFault : SlurmMember → SlurmObject → Members → SlurmFault → Type 0
HasPartFault part whole members fault =
    ((wrong : MemberFault) × IsWrongMember part IsObject members wrong × (fault ≡ Member part wrong))
    ⊎ ((inner : Members) × HasValue part members (object inner) × (unknown : ℕ) × HasUnknown whole 1 inner unknown
    × (fault ≡ UnknownIn part unknown))

-- the first list of a part has these values, and the second list has some
abbrev pub HasLists : {X Y : Type 0} → (Json → X → Type 0) → (Json → Y → Type 0) → SlurmMember → SlurmMember → Members
    → List X → Type 0
HasLists {X} {Y} Is Others first second inner xs =
    HasList Is first inner xs × ((ys : List Y) × HasList Others second inner ys)

-- the filters of a file, and filters of router keys (RFC 8416, 3.3)
abbrev pub HasFilters : Members → List PrefixFilter → Type 0
HasFilters members filters =
    (inner : Members) × HasPart ValidationOutputFilters Filters members inner
    × HasLists IsPrefixFilter IsKeyFilter PrefixFilters BgpsecFilters inner filters

abbrev pub HasFiltersFault : Members → SlurmFault → Type 0
HasFiltersFault members fault =
    HasPartFault ValidationOutputFilters Filters members fault
    ⊎ ((inner : Members) × HasPart ValidationOutputFilters Filters members inner
    × FaultThen (HasListFault IsPrefixFilter HasPrefixFilterFault PrefixFilters inner)
    ((filters : List PrefixFilter) × HasList IsPrefixFilter PrefixFilters inner filters)
    (HasListFault IsKeyFilter HasKeyFilterFault BgpsecFilters inner) fault)

-- the VRPs that a file adds, and router keys (RFC 8416, 3.4)
abbrev pub HasAssertions : Members → List (MaxLenValue × ℕ) → Type 0
HasAssertions members assertions =
    (inner : Members) × HasPart LocallyAddedAssertions Assertions members inner
    × HasLists IsPrefixAssertion IsKeyAssertion PrefixAssertions BgpsecAssertions inner assertions

abbrev pub HasAssertionsFault : Members → SlurmFault → Type 0
HasAssertionsFault members fault =
    HasPartFault LocallyAddedAssertions Assertions members fault
    ⊎ ((inner : Members) × HasPart LocallyAddedAssertions Assertions members inner
    × FaultThen (HasListFault IsPrefixAssertion HasPrefixAssertionFault PrefixAssertions inner)
    ((assertions : List (MaxLenValue × ℕ)) × HasList IsPrefixAssertion PrefixAssertions inner assertions)
    (HasListFault IsKeyAssertion HasKeyAssertionFault BgpsecAssertions inner) fault)

-- what a SLURM file says: the filters of VRPs, and the VRPs that it adds
pub record SlurmValue : Type 0 where
  pub filters : List PrefixFilter
  pub assertions : List (MaxLenValue × ℕ)

-- the model of a `Slurm`
abbrev pub slurm_value : {A : Type 0} → Slurm A → SlurmValue
slurm_value slurm = record { filters = slurm.filters.items; assertions = slurm.assertions.items }

-- the members of the file's object: the version, the filters and the assertions (RFC 8416, 3.2)
pub record AreSlurm (members : Members) (slurm : SlurmValue) : Type 0 where
  pub known : KnowsAll File members
  pub version : HasVersion members
  pub filters : HasFilters members slurm.filters
  pub assertions : HasAssertions members slurm.assertions

-- their first fault: of a name, of the version, of the filters, or of the assertions
abbrev pub HaveSlurmFault : Members → SlurmFault → Type 0
HaveSlurmFault members =
    FaultThen (λ fault. (unknown : ℕ) × HasUnknown File 1 members unknown × (fault ≡ Unknown unknown))
    (KnowsAll File members)
    (FaultThen (HasVersionFault members) (HasVersion members)
    (FaultThen (HasFiltersFault members) ((filters : List PrefixFilter) × HasFilters members filters)
    (HasAssertionsFault members)))

-- the text is a JSON object that says this
abbrev pub IsSlurmText : List ℕ → SlurmValue → Type 0
IsSlurmText text slurm = (members : Members) × IsJsonObject text members × AreSlurm members slurm

-- the text is no JSON object, or its members have this fault
abbrev pub HasSlurmTextFault : List ℕ → SlurmFault → Type 0
HasSlurmTextFault text fault =
    (((members : Members) → ¬ IsJsonObject text members) × (fault ≡ NotObject))
    ⊎ ((members : Members) × IsJsonObject text members × HaveSlurmFault members fault)

-- the text of the file, without a byte order mark at its beginning, says this
abbrev pub IsSlurmFile : List ℕ → SlurmValue → Type 0
IsSlurmFile file slurm = (text : List ℕ) × IsUnmarked file text × IsSlurmText text slurm

-- the text of the file is UTF-8, so that memory may be requested for it
abbrev pub MayWantMemory : List ℕ → Type 0
MayWantMemory file = (text : List ℕ) × IsUnmarked file text × IsUtf8 text

-- the fault of the text of the file
abbrev pub HasSlurmFault : List ℕ → SlurmFault → Type 0
HasSlurmFault file fault = (text : List ℕ) × IsUnmarked file text × HasSlurmTextFault text fault
