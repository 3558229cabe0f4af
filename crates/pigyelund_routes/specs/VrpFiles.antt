-- The VRPs of a validator's file that are returned, and the status of its first fault.
use Rattle.std.specs.Prelude.{◌≡◌, ℕ, ◌+◌, List, map}
use Rattle.roa_origin.specs.Vrps.{Vrp}
use Rattle.roa_vrps.specs.Files.{HasFileFault, IsVrpFile}
use Rattle.roa_vrps.specs.declared.fault.FileFault.{FileFault}
use Rattle.roa_vrps.specs.declared.fault.FileFault.TheVariants.{Line, UnknownHeader, JsonArray, NotObject, Roas, Item}
use Rattle.roa_vrps.specs.declared.fault.FileFault.TheVariants.{NoVrp}
use Rattle.roa_vrps.specs.declared.fault.ItemFault.{ItemFault}
use Rattle.roa_vrps.specs.declared.fault.ItemFault.TheVariants.{Member as OfMember, Vrp as OfVrp}
use Rattle.roa_vrps.specs.declared.fault.MemberFault.{MemberFault}
use Rattle.roa_vrps.specs.declared.fault.MemberFault.TheVariants.{Missing, Repeated, Kind}
use Rattle.roa_vrps.specs.declared.fault.VrpFault.{VrpFault}
use Rattle.roa_vrps.specs.declared.fault.VrpFault.TheVariants.{NotUtf8, TooManyFields, TooFewFields, Asn, Prefix}
use Rattle.roa_vrps.specs.declared.fault.VrpFault.TheVariants.{MaxLenFormat, MaxLen}
use Rattle.roa_vrps.specs.declared.member.Member.{Member}
use Rattle.roa_vrps.specs.declared.member.Member.TheVariants.{Asn as AsnMember, Prefix as PrefixMember, MaxLength}
use Rattle.pigyelund_routes.specs.Origins.{IsAnsweredAt}
use Rattle.pigyelund_routes.specs.ReturnedVrps.{handed_of}
use Rattle.pigyelund_routes.specs.declared.route.RawVrp.{RawVrp as Handed}

-- ---- read

-- The list has the VRPs of the file in the form for C, in the file's order.
abbrev pub AreFileVrps : List ℕ → List Handed → Type 0
AreFileVrps file list = (vrps : List Vrp) × IsVrpFile file vrps × (list ≡ map handed_of vrps)

-- ---- faults

-- The number of the fault of a line, of the text of a VRP, or of the VRP of an item.
abbrev pub vrp_fault_number : VrpFault → ℕ
vrp_fault_number NotUtf8 = 1
vrp_fault_number (TooManyFields found named) = 2
vrp_fault_number (TooFewFields found named) = 3
vrp_fault_number (Asn fault) = 4
vrp_fault_number (Prefix fault) = 5
vrp_fault_number (MaxLenFormat fault) = 6
vrp_fault_number (MaxLen fault) = 7

-- The number of the fault of a member: from 1.
abbrev pub member_fault_number : MemberFault → ℕ
member_fault_number Missing = 1
member_fault_number Repeated = 2
member_fault_number Kind = 3

-- What is added to this number for each member. The sums follow the numbers of a VRP's faults.
abbrev pub member_base : Member → ℕ
member_base AsnMember = 7
member_base PrefixMember = 10
member_base MaxLength = 13

-- The number of the fault of an item of `roas`.
abbrev pub item_fault_number : ItemFault → ℕ
item_fault_number (OfMember member fault) = member_base member + member_fault_number fault
item_fault_number (OfVrp fault) = vrp_fault_number fault

-- The status of the fault of a file: 131072 is added for a line, 262144 for an item, and
-- 524288 for the whole file.
abbrev pub file_fault_status : FileFault → ℕ
file_fault_status (Line number fault) = 131072 + vrp_fault_number fault
file_fault_status JsonArray = 524288 + 1
file_fault_status NotObject = 524288 + 2
file_fault_status (Roas fault) = 524288 + 2 + member_fault_number fault
file_fault_status (Item number fault) = 262144 + item_fault_number fault
file_fault_status NoVrp = 524288 + 6
file_fault_status UnknownHeader = 524288 + 7

-- The number of the line or item at fault, from 1. It is 0 for a fault of the whole file.
abbrev pub file_fault_line : FileFault → ℕ
file_fault_line (Line number fault) = number
file_fault_line UnknownHeader = 0
file_fault_line JsonArray = 0
file_fault_line NotObject = 0
file_fault_line (Roas fault) = 0
file_fault_line (Item number fault) = number
file_fault_line NoVrp = 0

-- ---- returned

-- The VRPs of a file are returned, or its first fault and the line or item that has it.
abbrev pub AreFileVrpsReturned : List ℕ → List Handed → List Handed → ℕ → ℕ → ℕ → Type 0
AreFileVrpsReturned file =
    IsAnsweredAt FileFault (AreFileVrps file) file_fault_status file_fault_line (HasFileFault file)
