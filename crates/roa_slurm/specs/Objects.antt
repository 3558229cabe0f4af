-- The members of the objects of a SLURM file (RFC 8416, 3.1 to 3.4).
use Rattle.std.specs.Prelude.{◌≡◌, ◌⊎◌, ℕ, ◌+◌, List, [], ◌∷◌, codes}
use Rattle.json.specs.Json.{Json, number, string, array, object, Items, Members, no_members, member}
use Rattle.roa_vrps.specs.Members.{values_in, AreWrong}
use Rattle.roa_vrps.specs.declared.fault.MemberFault.{MemberFault}
use Rattle.roa_slurm.specs.declared.member.SlurmMember.{SlurmMember}
use Rattle.roa_slurm.specs.declared.member.SlurmMember.TheVariants.{SlurmVersion, ValidationOutputFilters}
use Rattle.roa_slurm.specs.declared.member.SlurmMember.TheVariants.{LocallyAddedAssertions, PrefixFilters}
use Rattle.roa_slurm.specs.declared.member.SlurmMember.TheVariants.{BgpsecFilters, PrefixAssertions, BgpsecAssertions}
use Rattle.roa_slurm.specs.declared.member.SlurmMember.TheVariants.{Prefix, Asn, MaxPrefixLength, Ski, RouterPublicKey}
use Rattle.roa_slurm.specs.declared.member.SlurmMember.TheVariants.{Comment}
use Rattle.roa_slurm.specs.declared.object.SlurmObject.{SlurmObject}
use Rattle.roa_slurm.specs.declared.object.SlurmObject.TheVariants.{File, Filters, Assertions, PrefixFilterItem}
use Rattle.roa_slurm.specs.declared.object.SlurmObject.TheVariants.{BgpsecFilterItem, PrefixAssertionItem}
use Rattle.roa_slurm.specs.declared.object.SlurmObject.TheVariants.{BgpsecAssertionItem}

-- the name of a member
abbrev pub slurm_name : SlurmMember → List ℕ
slurm_name SlurmVersion = codes "slurmVersion"
slurm_name ValidationOutputFilters = codes "validationOutputFilters"
slurm_name LocallyAddedAssertions = codes "locallyAddedAssertions"
slurm_name PrefixFilters = codes "prefixFilters"
slurm_name BgpsecFilters = codes "bgpsecFilters"
slurm_name PrefixAssertions = codes "prefixAssertions"
slurm_name BgpsecAssertions = codes "bgpsecAssertions"
slurm_name Prefix = codes "prefix"
slurm_name Asn = codes "asn"
slurm_name MaxPrefixLength = codes "maxPrefixLength"
slurm_name Ski = codes "SKI"
slurm_name RouterPublicKey = codes "routerPublicKey"
slurm_name Comment = codes "comment"

-- the RFC defines a member of this name for the object
abbrev pub Defines : SlurmObject → List ℕ → Type 0
Defines File name =
    (name ≡ slurm_name SlurmVersion) ⊎ (name ≡ slurm_name ValidationOutputFilters)
    ⊎ (name ≡ slurm_name LocallyAddedAssertions)
Defines Filters name = (name ≡ slurm_name PrefixFilters) ⊎ (name ≡ slurm_name BgpsecFilters)
Defines Assertions name = (name ≡ slurm_name PrefixAssertions) ⊎ (name ≡ slurm_name BgpsecAssertions)
Defines PrefixFilterItem name =
    (name ≡ slurm_name Prefix) ⊎ (name ≡ slurm_name Asn) ⊎ (name ≡ slurm_name Comment)
Defines BgpsecFilterItem name = (name ≡ slurm_name Asn) ⊎ (name ≡ slurm_name Ski) ⊎ (name ≡ slurm_name Comment)
Defines PrefixAssertionItem name =
    (name ≡ slurm_name Prefix) ⊎ (name ≡ slurm_name Asn) ⊎ (name ≡ slurm_name MaxPrefixLength)
    ⊎ (name ≡ slurm_name Comment)
Defines BgpsecAssertionItem name =
    (name ≡ slurm_name Asn) ⊎ (name ≡ slurm_name Ski) ⊎ (name ≡ slurm_name RouterPublicKey)
    ⊎ (name ≡ slurm_name Comment)

-- the RFC defines each of the members for the object
abbrev pub KnowsAll : SlurmObject → Members → Type 0
KnowsAll whole no_members = Unit {0}
KnowsAll whole (member key value more) = Defines whole key × KnowsAll whole more

-- the member at this number is the first that the RFC doesn't define for the object; first is the number of the first
-- one
abbrev pub HasUnknown : SlurmObject → ℕ → Members → ℕ → Type 0
HasUnknown whole first no_members unknown = ⊥
HasUnknown whole first (member key value more) unknown =
    ((¬ Defines whole key) × (unknown ≡ first)) ⊎ (Defines whole key × HasUnknown whole (first + 1) more unknown)

-- the object has exactly one such member, and this is its value
abbrev pub HasValue : SlurmMember → Members → Json → Type 0
HasValue part members value = values_in (slurm_name part) members ≡ value ∷ []

-- the object has no such member
abbrev pub Lacks : SlurmMember → Members → Type 0
Lacks part members = values_in (slurm_name part) members ≡ []

-- the value is a number, a string, an array or an object
abbrev pub IsNumber : Json → Type 0
IsNumber value = (text : List ℕ) × (value ≡ number text)

abbrev pub IsString : Json → Type 0
IsString value = (text : List ℕ) × (value ≡ string text)

abbrev pub IsArray : Json → Type 0
IsArray value = (items : Items) × (value ≡ array items)

abbrev pub IsObject : Json → Type 0
IsObject value = (members : Members) × (value ≡ object members)

-- the fault of a member that must occur exactly once and be of a kind
abbrev pub IsWrongMember : SlurmMember → (Json → Type 0) → Members → MemberFault → Type 0
IsWrongMember part IsKind members fault = AreWrong IsKind (values_in (slurm_name part) members) fault
