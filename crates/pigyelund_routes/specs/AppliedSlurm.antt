-- VRPs that a caller passes after the filters and assertions of a SLURM file (RFC 8416), and the status of the first
-- error.
use Rattle.std.specs.Prelude.{◌≡◌, ◌⊎◌, ℕ, ◌+◌, ◌*◌, List, map}
use Rattle.roa_origin.specs.Vrps.{Vrp}
use Rattle.roa_slurm.specs.Applied.{IsApplied}
use Rattle.roa_slurm.specs.SlurmFiles.{HasSlurmFault, IsSlurmFile, SlurmValue}
use Rattle.roa_slurm.specs.declared.fault.SlurmFault.{SlurmFault}
use Rattle.roa_slurm.specs.declared.fault.SlurmFault.TheVariants.{Item, Member, NotObject, Unknown, UnknownIn, Version}
use Rattle.roa_slurm.specs.declared.fault.SlurmItemFault.{SlurmItemFault}
use Rattle.roa_slurm.specs.declared.fault.SlurmItemFault.TheVariants.{InvalidAsn, InvalidPrefix, MaxLen, MaxLenFormat}
use Rattle.roa_slurm.specs.declared.fault.SlurmItemFault.TheVariants.{Member as ItemMember, NoCriterion}
use Rattle.roa_slurm.specs.declared.fault.SlurmItemFault.TheVariants.{NotObject as ItemNotObject}
use Rattle.roa_slurm.specs.declared.fault.SlurmItemFault.TheVariants.{Unknown as ItemUnknown}
use Rattle.roa_slurm.specs.declared.member.SlurmMember.{SlurmMember}
use Rattle.roa_slurm.specs.declared.member.SlurmMember.TheVariants.{Asn, BgpsecAssertions, BgpsecFilters, Comment}
use Rattle.roa_slurm.specs.declared.member.SlurmMember.TheVariants.{LocallyAddedAssertions, MaxPrefixLength, Prefix}
use Rattle.roa_slurm.specs.declared.member.SlurmMember.TheVariants.{PrefixAssertions, PrefixFilters, RouterPublicKey}
use Rattle.roa_slurm.specs.declared.member.SlurmMember.TheVariants.{Ski, SlurmVersion, ValidationOutputFilters}
use Rattle.pigyelund_routes.specs.Origins.{AreEach, IsFirstElementError, element_error_index, element_error_status}
use Rattle.pigyelund_routes.specs.ReturnedVrps.{handed_of}
use Rattle.pigyelund_routes.specs.Routes.{IsNoVrp, IsVrp}
use Rattle.pigyelund_routes.specs.VrpFiles.{member_fault_number}
use Rattle.pigyelund_routes.specs.Written.{AreWritten}
use Rattle.pigyelund_routes.specs.declared.route.RawVrp.{RawVrp as Handed}
use Rattle.pigyelund_routes.specs.declared.slurm.ApplySlurmError.{ApplySlurmError}
use Rattle.pigyelund_routes.specs.declared.slurm.ApplySlurmError.TheVariants.{InvalidFile, InvalidVrp}

-- ---- applied

-- The list has the VRPs after the filters and the assertions of the file, in the form for C: those that no filter
-- matches, in their order, and then the assertions, in the file's order.
abbrev pub AreApplied : List ℕ → List Vrp → List Handed → Type 0
AreApplied file vrps list =
    (slurm : SlurmValue) × IsSlurmFile file slurm
    × ((applied : List Vrp) × IsApplied slurm.filters slurm.assertions vrps applied × (list ≡ map handed_of applied))

-- The same of VRPs that a caller passes.
abbrev pub AreSlurmApplied : List ℕ → List Handed → List Handed → Type 0
AreSlurmApplied file handed list = (vrps : List Vrp) × AreEach IsVrp handed vrps × AreApplied file vrps list

-- A VRP that is passed is invalid, or else the file has this fault.
abbrev pub HasApplySlurmError : List ℕ → List Handed → ApplySlurmError → Type 0
HasApplySlurmError file handed (InvalidVrp first) = IsFirstElementError IsVrp IsNoVrp handed first
HasApplySlurmError file handed (InvalidFile fault) =
    ((vrps : List Vrp) × AreEach IsVrp handed vrps) × HasSlurmFault file fault

-- ---- statuses

-- The number of a member, from 0. The members of the file's object and of the two objects in it have the numbers 0 to
-- 6, and the members of items have 0 to 5.
abbrev pub slurm_member_number : SlurmMember → ℕ
slurm_member_number SlurmVersion = 0
slurm_member_number ValidationOutputFilters = 1
slurm_member_number LocallyAddedAssertions = 2
slurm_member_number PrefixFilters = 3
slurm_member_number BgpsecFilters = 4
slurm_member_number PrefixAssertions = 5
slurm_member_number BgpsecAssertions = 6
slurm_member_number Prefix = 0
slurm_member_number Asn = 1
slurm_member_number MaxPrefixLength = 2
slurm_member_number Ski = 3
slurm_member_number RouterPublicKey = 4
slurm_member_number Comment = 5

-- What is added to the number of the fault of an item of this list. No other member has items.
abbrev pub slurm_list_base : SlurmMember → ℕ
slurm_list_base PrefixFilters = 0
slurm_list_base BgpsecFilters = 64
slurm_list_base PrefixAssertions = 128
slurm_list_base BgpsecAssertions = 192
slurm_list_base member = 0

-- The number of the fault of an item. Those of members follow the others.
abbrev pub slurm_item_fault_number : SlurmItemFault → ℕ
slurm_item_fault_number ItemNotObject = 1
slurm_item_fault_number (ItemUnknown number) = 2
slurm_item_fault_number (InvalidPrefix fault) = 3
slurm_item_fault_number (InvalidAsn fault) = 4
slurm_item_fault_number (MaxLenFormat fault) = 5
slurm_item_fault_number (MaxLen fault) = 6
slurm_item_fault_number NoCriterion = 7
slurm_item_fault_number (ItemMember member fault) = 7 + 3 * slurm_member_number member + member_fault_number fault

-- The status of the fault of a SLURM file: 33554432 is added for an item, and 4194304 for any other fault.
abbrev pub slurm_fault_status : SlurmFault → ℕ
slurm_fault_status NotObject = 4194304 + 1
slurm_fault_status (Unknown number) = 4194304 + 2
slurm_fault_status Version = 4194304 + 3
slurm_fault_status (UnknownIn object number) = 4194304 + 3 + slurm_member_number object
slurm_fault_status (Member member fault) =
    4194304 + 5 + 3 * slurm_member_number member + member_fault_number fault
slurm_fault_status (Item list number fault) = 33554432 + slurm_list_base list + slurm_item_fault_number fault

-- The number of the invalid item in its list, or of the unknown member in its object, from 1. It is 0 for any other
-- fault.
abbrev pub slurm_fault_item : SlurmFault → ℕ
slurm_fault_item NotObject = 0
slurm_fault_item (Unknown number) = number
slurm_fault_item Version = 0
slurm_fault_item (UnknownIn object number) = number
slurm_fault_item (Member member fault) = 0
slurm_fault_item (Item list number fault) = number

-- The status of an error.
abbrev pub apply_slurm_error_status : ApplySlurmError → ℕ
apply_slurm_error_status (InvalidVrp first) = element_error_status first
apply_slurm_error_status (InvalidFile fault) = slurm_fault_status fault

-- The index of the invalid VRP. It is 0 for a fault of the file.
abbrev pub apply_slurm_error_index : ApplySlurmError → ℕ
apply_slurm_error_index (InvalidVrp first) = element_error_index first
apply_slurm_error_index (InvalidFile fault) = 0

-- The number of the item or member at fault. It is 0 for an invalid VRP.
abbrev pub apply_slurm_error_item : ApplySlurmError → ℕ
apply_slurm_error_item (InvalidVrp first) = 0
apply_slurm_error_item (InvalidFile fault) = slurm_fault_item fault

-- ---- returned

-- The VRPs after the filters and assertions are returned. Or the status, the index and the item belong to the first
-- error, or the status is 512, and both numbers are 0. Nothing is written then.
abbrev pub AreAppliedReturned : List ℕ → List Handed → List Handed → List Handed → ℕ → ℕ → ℕ → ℕ → Type 0
AreAppliedReturned file handed before after len index item result =
    ((list : List Handed) × AreSlurmApplied file handed list × AreWritten list before after len result × (index ≡ 0)
    × (item ≡ 0))
    ⊎ (((error : ApplySlurmError) × HasApplySlurmError file handed error × (result ≡ apply_slurm_error_status error)
    × (index ≡ apply_slurm_error_index error) × (item ≡ apply_slurm_error_item error) × (after ≡ before) × (len ≡ 0))
    ⊎ ((result ≡ 512) × (after ≡ before) × (len ≡ 0) × (index ≡ 0) × (item ≡ 0)))
