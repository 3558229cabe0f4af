-- The faults of the three lists of a set, as in the Rust crate `rpki` 0.20.1.
use Rattle.std.specs.Prelude.{ℕ, List}
use Rattle.rpki_text.specs.declared.memory.OrMemory.{OrMemory}
use Rattle.rpki_text.specs.declared.memory.OrMemory.TheVariants.{Refused, Memory}
use Rattle.rpki_as.specs.ListText.{IsAsListText, HasAsListFault}
use Rattle.rpki_chain.specs.Runs.{Runs}
use Rattle.rpki_resources.specs.TripleText.{IsIpv4ListText, HasIpv4ListFault, HasIpv6ListFault}
use Rattle.rpki_resources.specs.declared.error.FromStrError.{FromStrError}
use Rattle.rpki_resources.specs.declared.error.FromStrError.TheVariants.{Asn, Ipv4, Ipv6}

-- the fault is that of the first of three lists that isn't the text of a set of its kind
abbrev pub HasTripleFault : List ℕ → List ℕ → List ℕ → FromStrError → Type 0
HasTripleFault asn ipv4 ipv6 (Asn fault) = HasAsListFault asn fault
HasTripleFault asn ipv4 ipv6 (Ipv4 fault) = ((set : Runs) × IsAsListText asn set) × HasIpv4ListFault ipv4 fault
HasTripleFault asn ipv4 ipv6 (Ipv6 fault) =
    ((set : Runs) × IsAsListText asn set) × ((set : Runs) × IsIpv4ListText ipv4 set) × HasIpv6ListFault ipv6 fault

-- the refusal of one of the lists as that of three lists; an out-of-memory error stays the same
abbrev pub refusal_of : {E : Type 0} → (E → FromStrError) → OrMemory E → OrMemory FromStrError
refusal_of kind (Refused fault) = Refused (kind fault)
refusal_of kind (Memory error) = Memory error
