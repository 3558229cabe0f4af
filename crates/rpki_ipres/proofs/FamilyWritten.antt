-- What is written of sets, alone and behind their family, stands for them, and octets stand for one set at most.
use Rattle.rpki_ipres.proofs.Common.{List, [], ap, arith, length, refl, subst, sym, ℕ, ◌++◌, ◌<◌, ◌^◌, ◌↔◌, ◌∙◌, ◌∷◌}
use Rattle.rpki_ipres.proofs.Common.{◌≡◌, ◌≢◌, append_cancel_left, length-append, one_content, written_said}
use Rattle.rpki_ipres.proofs.Common.{family_reading, family_written, IsSequenceOf, bits_of, IsFamilyDer, family_at}
use Rattle.rpki_ipres.proofs.Common.{family_der, AddressFamily, Holds, IsRunsOfBlocks, Runs, value_is, OneFront, header}
use Rattle.rpki_ipres.proofs.Common.{tagged_at, IsIpBlockDer, ip_blocks_at, blocks_reading, ip_bounds}
use Rattle.rpki_ipres.proofs.Common.{IsIpBlockSequence, IsIpFamily, ip_family_der, ip_set_der, IsFamilySet, IsIpSet}
use Rattle.rpki_ipres.proofs.Common.{one_front_said, content_shorter}
use Rattle.rpki_der.proofs.ValueReadings.{IsTagged, one_front, tagged_reading}
use Rattle.rpki_ipres.proofs.IpSetDerModes.{set_in_modes}
use Rattle.rpki_ipres.proofs.SetTextLemmas.{alike_as_numbers, is_ip_set}
use Rattle.rpki_ipres.proofs.IpSetWritten.{one_set, set_alike}

-- ---- sets alone

-- what is written of a set of a family is a SEQUENCE of blocks of the family, which stands for the set
pub sequence_says : (family : AddressFamily) (set : Runs) → IsFamilySet family set → length (ip_set_der set) < 2 ^ 64
    → IsIpBlockSequence (bits_of family) (ip_set_der set) set
sequence_says family set is short = written_said (set_in_modes family) set is short

-- octets begin with at most one SEQUENCE of blocks, which stands for one set
pub one_sequence : (limit : ℕ) → OneFront (IsIpBlockSequence limit)
one_sequence limit =
    one_front_said (IsSequenceOf (IsIpBlockDer limit)) (IsRunsOfBlocks ip_bounds) (ip_blocks_at limit)
    (blocks_reading limit) one_set

-- ---- sets behind their family

-- what is written of a family and a set, which has a number, stands for both
pub family_says : (family : AddressFamily) (set : Runs) → IsFamilySet family set → set ≢ []
    → length (ip_family_der family set) < 2 ^ 64 → IsIpFamily (ip_family_der family set) (family, set)
family_says family [] is some short = absurd (some refl)
family_says family (run ∷ set) is some short =
    let content : List ℕ = family_der family ++ ip_set_der (run ∷ set) in
    let small : length content < 2 ^ 64 = content_shorter content short in
    let parts = length-append (family_der family) (ip_set_der (run ∷ set)) in
    let says = sequence_says family (run ∷ set) is (omega (arith, small, parts)) in
    let spelled = value_is 48 content (omega arith) small in
    (content, spelled, (ip_set_der (run ∷ set), (family_der family, family_written family, refl), says))

-- octets begin with at most one such value, which stands for one family and one set
pub one_family : OneFront IsIpFamily
one_family a b x y r s (body, is, (rest, (head, one, split), says)) (other, also, (more, (back, two, parts), tell)) e =
    let whole = one_front (IsTagged 48) (tagged_at 48) (tagged_reading 48) a b body other r s is also e in
    let family = one_front IsFamilyDer family_at family_reading head back x.0 y.0 rest more one two
    (sym split ∙ whole.1 ∙ parts) in
    let own = subst (λ (f : AddressFamily). IsIpBlockSequence (bits_of f) rest x.1) family.1 says in
    let set = one_sequence (bits_of y.0) rest more x.1 y.1 [] [] own tell (ap (λ (t : List ℕ). t ++ []) family.2) in
    (whole.0, (λ i. (family.1 i, set.1 i)), whole.2)

-- sets of a family that are written alike have the same addresses, and sets of the same addresses are written alike
pub family_as_numbers : (family : AddressFamily) (a b : Runs) → IsFamilySet family a → IsFamilySet family b
    → (ip_family_der family a ≡ ip_family_der family b) ↔ ((n : ℕ) → Holds a n ↔ Holds b n)
unfolding header
family_as_numbers family a b is also =
    alike_as_numbers (ip_family_der family) a b (is_ip_set family a is) (is_ip_set family b also)
    (one_set_of a b (is_ip_set family a is) (is_ip_set family b also))
  where
    one_set_of : (a b : Runs) → IsIpSet a → IsIpSet b → ip_family_der family a ≡ ip_family_der family b → a ≡ b
    one_set_of [] [] is also same = refl
    one_set_of [] (run ∷ b) is also same = absurd cc
    one_set_of (run ∷ a) [] is also same = absurd cc
    one_set_of (run ∷ a) (next ∷ b) is also same =
        set_alike (run ∷ a) (next ∷ b) is also
        (append_cancel_left (family_der family) (ip_set_der (run ∷ a)) (ip_set_der (next ∷ b)) (one_content _ _ same))
