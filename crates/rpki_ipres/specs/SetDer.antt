-- Sequences of blocks of addresses in DER, alone and with their family (RFC 3779, 2.2.3.2 to 2.2.3.6).
use Rattle.std.specs.Prelude.{ℕ, List, [], ◌∷◌, ◌++◌}
use Rattle.rpki_der.specs.SequenceReading.{IsSequenceOf}
use Rattle.rpki_der.specs.SequenceWriting.{sequence_octets}
use Rattle.rpki_chain.specs.Runs.{Runs, IsRunsOfBlocks}
use Rattle.rpki_der.specs.Der.{Both, IsSequence, Refines, sequence_value}
use Rattle.rpki_der.specs.declared.family.AddressFamily.{AddressFamily}
use Rattle.rpki_der.specs.Families.{bits_of}
use Rattle.rpki_der.specs.FamilyDer.{IsFamilyDer, family_der}
use Rattle.rpki_ip_block.specs.BlockDer.{IsIpBlockDer, ip_block_der}
use Rattle.rpki_ip_block.specs.Blocks.{ip_bounds, new_ip_block}

-- The octets are a SEQUENCE of blocks and nothing else, which denotes the set of their addresses (2.2.3.6). The blocks
-- are in any order, overlapping or not.
abbrev pub IsIpBlockSequence : ℕ → List ℕ → Runs → Type 0
IsIpBlockSequence limit = Refines (IsSequenceOf (IsIpBlockDer limit)) (IsRunsOfBlocks ip_bounds)

-- the octets are one SEQUENCE of a family and of the SEQUENCE of its blocks, which denotes a set (2.2.3.2)
abbrev pub IsIpFamily : List ℕ → AddressFamily × Runs → Type 0
IsIpFamily bytes f =
    (content : List ℕ) × IsSequence bytes content × Both IsFamilyDer (IsIpBlockSequence (bits_of f.0)) content f.0 f.1

-- ---- encodings

-- the encoding of a run: a prefix if its addresses are those of a prefix, and otherwise a range (2.2.3.7)
abbrev pub ip_run_der : ℕ × ℕ → List ℕ
ip_run_der run = ip_block_der (new_ip_block run)

-- the encoding of a set: its runs in one SEQUENCE (2.2.3.6)
abbrev pub ip_set_der : Runs → List ℕ
ip_set_der set = sequence_octets ip_run_der set

-- the family and the runs of a set in one SEQUENCE (2.2.3.2); no octets for the empty set
abbrev pub ip_family_der : AddressFamily → Runs → List ℕ
ip_family_der family [] = []
ip_family_der family (run ∷ runs) = sequence_value (family_der family ++ ip_set_der (run ∷ runs))
