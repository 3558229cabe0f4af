-- The VRPs of a validator's file that have not expired, and the status of its first fault.
use Rattle.std.specs.Prelude.{◌≡◌, ◌⊎◌, ℕ, ◌+◌, List, map}
use Rattle.roa_origin.specs.Vrps.{Vrp}
use Rattle.roa_vrps.specs.ExpiryFiles.{HasExpiryFault, IsUnexpiredFile}
use Rattle.roa_vrps.specs.declared.fault.ExpiresFault.{ExpiresFault}
use Rattle.roa_vrps.specs.declared.fault.ExpiresFault.TheVariants.{Member, Number}
use Rattle.roa_vrps.specs.declared.fault.ExpiryFault.{ExpiryFault}
use Rattle.roa_vrps.specs.declared.fault.ExpiryFault.TheVariants.{File, Item, Line}
use Rattle.pigyelund_routes.specs.ReturnedVrps.{handed_of}
use Rattle.pigyelund_routes.specs.VrpFiles.{file_fault_line, file_fault_status, member_fault_number}
use Rattle.pigyelund_routes.specs.Written.{AreWritten}
use Rattle.pigyelund_routes.specs.declared.route.RawVrp.{RawVrp as Handed}

-- The list has the VRPs of the file that have not expired at the time `time`, in the form for C and in the file's
-- order. The number is that of the expired ones.
abbrev pub AreUnexpiredVrps : List ℕ → ℕ → List Handed → ℕ → Type 0
AreUnexpiredVrps file time list expired =
    (vrps : List Vrp) × IsUnexpiredFile file time vrps expired × (list ≡ map handed_of vrps)

-- ---- faults

-- The number of the fault of a member `expires`. The numbers follow those of the other members.
abbrev pub expires_fault_number : ExpiresFault → ℕ
expires_fault_number (Member fault) = 16 + member_fault_number fault
expires_fault_number Number = 20

-- The status of the fault of a file whose VRPs have expiries: 131072 is added for a line, and 262144 for an item.
abbrev pub expiry_fault_status : ExpiryFault → ℕ
expiry_fault_status (File fault) = file_fault_status fault
expiry_fault_status (Line number) = 131072 + 20
expiry_fault_status (Item number fault) = 262144 + expires_fault_number fault

-- The number of the line or item at fault, from 1. It is 0 for a fault of the whole file.
abbrev pub expiry_fault_line : ExpiryFault → ℕ
expiry_fault_line (File fault) = file_fault_line fault
expiry_fault_line (Line number) = number
expiry_fault_line (Item number fault) = number

-- ---- returned

-- The VRPs of a file that have not expired are returned, and the number of the expired ones. Or the status and the line
-- belong to the first fault of the file, or the status is 512. Nothing is written then, and both numbers are 0.
abbrev pub AreUnexpiredReturned : List ℕ → ℕ → List Handed → List Handed → ℕ → ℕ → ℕ → ℕ → Type 0
AreUnexpiredReturned file time before after len expired line result =
    ((list : List Handed) × AreUnexpiredVrps file time list expired × AreWritten list before after len result
    × (line ≡ 0))
    ⊎ (((fault : ExpiryFault) × HasExpiryFault file fault × (result ≡ expiry_fault_status fault)
    × (line ≡ expiry_fault_line fault) × (after ≡ before) × (len ≡ 0) × (expired ≡ 0))
    ⊎ ((result ≡ 512) × (after ≡ before) × (len ≡ 0) × (expired ≡ 0) × (line ≡ 0)))
