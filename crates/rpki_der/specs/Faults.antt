-- The faults of DER that a reader reports: their numbers, names and texts, which are this layer's own.
use Rattle.std.specs.Prelude.{ℕ, List, ◌++◌, codes, decimal}
use Rattle.rpki_der.specs.declared.error.DerError.{DerError}
use Rattle.rpki_der.specs.declared.error.DerError.TheVariants.{Truncated, BadTag, BadLength, BadInteger, BadBitString}
use Rattle.rpki_der.specs.declared.error.DerError.TheVariants.{BadNull, TrailingData, BadPrefix, BadFamily}
use Rattle.rpki_der.specs.declared.error.DerError.TheVariants.{ReversedRange, EmptyBlocks, DuplicateFamily, NoFamily}
use Rattle.rpki_der.specs.declared.error.DerError.TheVariants.{NotCanonical}

-- the number that a log shows for a fault
abbrev pub fault_number : DerError → ℕ
fault_number Truncated = 1
fault_number BadTag = 2
fault_number BadLength = 3
fault_number BadInteger = 4
fault_number BadBitString = 5
fault_number BadNull = 6
fault_number TrailingData = 7
fault_number BadPrefix = 8
fault_number BadFamily = 9
fault_number ReversedRange = 10
fault_number EmptyBlocks = 11
fault_number DuplicateFamily = 12
fault_number NoFamily = 13
fault_number NotCanonical = 14

-- the name of a fault, which is that of its variant
abbrev pub fault_name : DerError → List ℕ
fault_name Truncated = codes "Truncated"
fault_name BadTag = codes "BadTag"
fault_name BadLength = codes "BadLength"
fault_name BadInteger = codes "BadInteger"
fault_name BadBitString = codes "BadBitString"
fault_name BadNull = codes "BadNull"
fault_name TrailingData = codes "TrailingData"
fault_name BadPrefix = codes "BadPrefix"
fault_name BadFamily = codes "BadFamily"
fault_name ReversedRange = codes "ReversedRange"
fault_name EmptyBlocks = codes "EmptyBlocks"
fault_name DuplicateFamily = codes "DuplicateFamily"
fault_name NoFamily = codes "NoFamily"
fault_name NotCanonical = codes "NotCanonical"

-- the printed text of a fault, as in `der error 3 (BadLength)`
abbrev pub fault_text : DerError → List ℕ
fault_text fault = codes "der error " ++ decimal (fault_number fault) ++ codes " (" ++ fault_name fault ++ codes ")"
