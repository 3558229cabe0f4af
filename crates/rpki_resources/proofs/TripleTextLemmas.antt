-- Three lists that are read one after another.
use Rattle.rpki_resources.proofs.Common.{Err, List, Ok, Result, arith, ℕ, IsAsListText, Runs, IsMemory, OrMemory}
use Rattle.rpki_resources.proofs.Common.{IsIpv4ListText, IsIpv6ListText, IsTripleText, Triple, Asn, Ipv4, Ipv6}
use Rattle.rpki_text.specs.Reading.{AnswersOrMemory}
use Rattle.rpki_as_block.specs.declared.error.FromStrError as as_fault
use Rattle.rpki_ip.specs.declared.error.FromStrError as ip_fault
use Rattle.rpki_resources.specs.TripleFaults.{refusal_of}
use Rattle.rpki_resources.specs.declared.error.FromStrError.{FromStrError}

-- the answer is the set that a text writes, or its fault
abbrev pub Reads : {V E : Type 0} → (V → Type 0) → (E → Type 0) → Result V (OrMemory E) → Type 0
Reads {V} = AnswersOrMemory (λ (set : V). set)

-- the first text that writes no set, by A and B, has this fault, by F, G and H
abbrev pub Fails : (Runs → Type 0) → (Runs → Type 0) → (as_fault.FromStrError → Type 0)
    → (ip_fault.FromStrError → Type 0) → (ip_fault.FromStrError → Type 0) → FromStrError → Type 0
Fails A B F G H (Asn fault) = F fault
Fails A B F G H (Ipv4 fault) = ((set : Runs) × A set) × G fault
Fails A B F G H (Ipv6 fault) = ((set : Runs) × A set) × ((set : Runs) × B set) × H fault

-- three texts that are read one after another, where what is said of all, by Has, is said of each
module _ {A B : Runs → Type 0} (C : Runs → Type 0) {F : as_fault.FromStrError → Type 0}
    {G H : ip_fault.FromStrError → Type 0} {Has : Triple → Type 0}
    (parts : (t : Triple) → Has t → A t.asn × B t.ipv4 × C t.ipv6)
  where
    pub asn_fault : (d : OrMemory as_fault.FromStrError) → Reads A F (Err d)
        → Reads Has (Fails A B F G H) (Err (refusal_of Asn d))
    asn_fault d h = grind (arith, parts)

    pub ipv4_fault : (asn : Runs) (d : OrMemory ip_fault.FromStrError) → Reads A F (Ok asn) → Reads B G (Err d)
        → Reads Has (Fails A B F G H) (Err (refusal_of Ipv4 d))
    ipv4_fault asn d first h = grind (arith, parts)

    pub ipv6_fault : (asn ipv4 : Runs) (d : OrMemory ip_fault.FromStrError) → Reads A F (Ok asn) → Reads B G (Ok ipv4)
        → Reads C H (Err d) → Reads Has (Fails A B F G H) (Err (refusal_of Ipv6 d))
    ipv6_fault asn ipv4 d first second h = grind (arith, parts)

    pub all_read : ((t : Triple) → A t.asn → B t.ipv4 → C t.ipv6 → Has t) → (asn ipv4 ipv6 : Runs) → Reads A F (Ok asn)
        → Reads B G (Ok ipv4) → Reads C H (Ok ipv6)
        → Reads Has (Fails A B F G H) (Ok (record { asn = asn; ipv4 = ipv4; ipv6 = ipv6 }))
    all_read whole asn ipv4 ipv6 first second third = grind (arith, parts, whole)

-- the refusal of a list for want of memory is one of all three
pub wants_memory : {E : Type 0} (kind : E → FromStrError) (d : OrMemory E) → IsMemory d → IsMemory (refusal_of kind d)
wants_memory kind d h = grind (arith)

-- what is said of a triple's texts
pub parts_of : (a b c : List ℕ) (t : Triple) → IsTripleText a b c t
    → IsAsListText a t.asn × IsIpv4ListText b t.ipv4 × IsIpv6ListText c t.ipv6
parts_of a b c t h = (h.asn, h.ipv4, h.ipv6)
