-- Sets that are passed as text, and the statuses of faults of a text.
use Rattle.std.specs.Prelude.{◌≡◌, ◌≢◌, ℕ, ◌+◌, List, [], Result, Ok, Err}
use Rattle.std.specs.Str.{IsUtf8}
use Rattle.rpki_text.specs.declared.memory.OrMemory.{OrMemory}
use Rattle.rpki_text.specs.declared.memory.OrMemory.TheVariants.{Refused, Memory}
use Rattle.rpki_as_block.specs.declared.error.FromStrError.{FromStrError as AsTextError}
use Rattle.rpki_as_block.specs.declared.error.FromStrError.TheVariants.{BadAsn, BadRange as BadAsRange}
use Rattle.rpki_as_block.specs.declared.error.FromStrError.TheVariants.{BadBlocks as BadAsBlocks}
use Rattle.rpki_ip.specs.declared.error.FromStrError.{FromStrError as IpTextError}
use Rattle.rpki_ip.specs.declared.error.FromStrError.TheVariants.{Addr, PrefixLen, MissingSeparator, FamilyMismatch}
use Rattle.rpki_ip.specs.declared.error.FromStrError.TheVariants.{BadBlocks, BadRange}
use Rattle.rpki_resources.specs.Triples.{Triple, no_resources}
use Rattle.rpki_resources.specs.TripleFaults.{HasTripleFault}
use Rattle.rpki_resources.specs.TripleText.{IsTripleText}
use Rattle.rpki_resources.specs.declared.error.FromStrError.{FromStrError}
use Rattle.rpki_resources.specs.declared.error.FromStrError.TheVariants.{Asn as OfAsn, Ipv4 as OfIpv4, Ipv6 as OfIpv6}
use Rattle.pigyelund_c.specs.declared.text.Kind.{Kind}
use Rattle.pigyelund_c.specs.declared.text.Kind.TheVariants.{Numbers, Ipv4, Ipv6}
use Rattle.pigyelund_c.specs.declared.text.TextError.{TextError}
use Rattle.pigyelund_c.specs.declared.text.TextError.TheVariants.{NoKind, NotUtf8, Invalid}

-- ---- read

-- The number of a kind: 5 for AS numbers, and that of the family for addresses.
abbrev pub kind_number : Kind → ℕ
kind_number Numbers = 5
kind_number Ipv4 = 4
kind_number Ipv6 = 6

-- The text is a list of a kind, and denotes this set. The set has no resources of the other kinds.
abbrev pub IsTextOf : Kind → List ℕ → Triple → Type 0
IsTextOf Numbers text set = IsTripleText text [] [] set
IsTextOf Ipv4 text set = IsTripleText [] text [] set
IsTextOf Ipv6 text set = IsTripleText [] [] text set

-- The text has this fault as a list of a kind.
abbrev pub HasTextFault : Kind → List ℕ → FromStrError → Type 0
HasTextFault Numbers text fault = HasTripleFault text [] [] fault
HasTextFault Ipv4 text fault = HasTripleFault [] text [] fault
HasTextFault Ipv6 text fault = HasTripleFault [] [] text fault

-- The octets are a text that denotes this set, as a list of the kind with this number.
abbrev pub IsTextSet : ℕ → List ℕ → Triple → Type 0
IsTextSet kind text set = (of : Kind) × (kind ≡ kind_number of) × IsUtf8 text × IsTextOf of text set

-- The number of the kind is unknown, or else the octets are not UTF-8, or else the text has a fault.
abbrev pub IsNoTextSet : ℕ → List ℕ → TextError → Type 0
IsNoTextSet kind text NoKind = (of : Kind) → kind ≢ kind_number of
IsNoTextSet kind text NotUtf8 = ((of : Kind) × (kind ≡ kind_number of)) × ¬ IsUtf8 text
IsNoTextSet kind text (Invalid fault) = (of : Kind) × (kind ≡ kind_number of) × IsUtf8 text × HasTextFault of text fault

-- ---- statuses

-- The number of the fault of a list of AS numbers.
abbrev pub as_text_number : AsTextError → ℕ
as_text_number BadAsn = 2
as_text_number BadAsRange = 3
as_text_number BadAsBlocks = 9

-- The number of the fault of a list of addresses.
abbrev pub ip_text_number : IpTextError → ℕ
ip_text_number (Addr fault) = 4
ip_text_number (PrefixLen fault) = 5
ip_text_number FamilyMismatch = 6
ip_text_number BadRange = 7
ip_text_number MissingSeparator = 8
ip_text_number BadBlocks = 9

-- The number of the fault of a list.
abbrev pub text_number : FromStrError → ℕ
text_number (OfAsn fault) = as_text_number fault
text_number (OfIpv4 fault) = ip_text_number fault
text_number (OfIpv6 fault) = ip_text_number fault

-- The status of the reason why octets are not the text of a set: 1048576 is added for an invalid text.
abbrev pub text_error_status : TextError → ℕ
text_error_status NoKind = 1029
text_error_status NotUtf8 = 1048576 + 1
text_error_status (Invalid fault) = 1048576 + text_number fault

-- The status of a set that was read from text.
abbrev pub text_status : Result Triple (OrMemory TextError) → ℕ
text_status (Ok set) = 0
text_status (Err (Refused reason)) = text_error_status reason
text_status (Err (Memory error)) = 512

-- The set that is returned with it. It has no resources unless the status is 0.
abbrev pub text_set : Result Triple (OrMemory TextError) → Triple
text_set (Ok set) = set
text_set (Err (Refused reason)) = no_resources
text_set (Err (Memory error)) = no_resources
