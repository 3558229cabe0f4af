-- Reading sets and resources of addresses in strict or lenient mode. In strict mode each block begins more than one
-- above the greatest address of the block before it, and IPv4 is before IPv6.
use Rattle.std.specs.Prelude.{ℕ, Bool, List, Option, Some, None, Result}
use Rattle.rpki_der.specs.SequenceReading.{sequence_from, values_from}
use Rattle.rpki_chain.specs.ChoiceDer.{choice_at}
use Rattle.rpki_chain.specs.declared.choice.ResourcesChoice.{ResourcesChoice}
use Rattle.rpki_der.specs.FamiliesDer.{ByFamily}
use Rattle.rpki_der.specs.FamiliesReading.{families_by}
use Rattle.rpki_der.specs.declared.error.DerError.{DerError}
use Rattle.rpki_der.specs.Families.{bits_of}
use Rattle.rpki_ip_block.specs.BlockReading.{next_ip_block_by}
use Rattle.rpki_ip_block.specs.Blocks.{ip_bounds}
use Rattle.rpki_ip_block.specs.declared.block.IpBlock.{IpBlock}

-- the state after a block: its greatest address
abbrev pub greatest_of_ip_block : Option ℕ → IpBlock → Option ℕ
greatest_of_ip_block before block = Some (ip_bounds block).1

-- reads the SEQUENCE of blocks at the front of octets, in either mode (RFC 3779, 2.2.3.6)
abbrev pub ip_blocks_by : Bool → ℕ → List ℕ → Result (List IpBlock × List ℕ) DerError
ip_blocks_by strict limit = sequence_from greatest_of_ip_block (next_ip_block_by strict limit) None

-- reads the resources of a family at the front of octets, in either mode (RFC 3779, 2.2.3.4)
abbrev pub ip_resources_by : Bool → ℕ → List ℕ → Result (ResourcesChoice (List IpBlock) × List ℕ) DerError
ip_resources_by strict limit = choice_at (values_from greatest_of_ip_block (next_ip_block_by strict limit) None)

-- reads the SEQUENCE of families at the front of octets, in either mode (RFC 3779, 2.2.3.1)
abbrev pub ip_families_by : Bool → List ℕ → Result (ByFamily (ResourcesChoice (List IpBlock)) × List ℕ) DerError
ip_families_by strict = families_by strict (λ family. ip_resources_by strict (bits_of family))
