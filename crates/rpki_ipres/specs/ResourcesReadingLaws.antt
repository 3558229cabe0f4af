-- The reading finds exactly the resources of the grammar, with any octets after them. The reader of families requires
-- these lemmas.
use Rattle.std.proofs.Common.{ℕ, List, Option, None, subst}
use Rattle.rpki_der.specs.Der.{Each, EachFrom}
use Rattle.rpki_der.specs.Reading.{IsModal, IsReading}
use Rattle.rpki_der.proofs.SequenceModes.{strict_values_check, values_stateless, values_tighten}
use Rattle.rpki_der.proofs.SequenceReadings.{values_check}
use Rattle.rpki_der.specs.SequenceReading.{IsSequenceFrom, IsSequenceOf, values_from, values_of}
use Rattle.rpki_chain.specs.ChoiceDer.{IsChoiceOf, choice_at}
use Rattle.rpki_chain.proofs.ChoiceReadings.{choice_modal, choice_reading}
use Rattle.rpki_ip_block.specs.BlockDer.{IsIpBlockDer}
use Rattle.rpki_ip_block.specs.BlockModes.{IsNextIpBlock}
use Rattle.rpki_ip_block.specs.BlockModeLaws.{next_ip_block_modal}
use Rattle.rpki_ip_block.specs.BlockReading.{ip_block_at, next_ip_block_by}
use Rattle.rpki_ip_block.specs.BlockReadingLaws.{ip_block_has_octets, ip_block_reading}
use Rattle.rpki_ip_block.specs.declared.block.IpBlock.{IpBlock}
use Rattle.rpki_ipres.specs.Modes.{greatest_of_ip_block, ip_resources_by}
use Rattle.rpki_ipres.specs.ResourcesDer.{ip_resources_at}

-- the reading of a NULL or a SEQUENCE of at least one block
pub resources_reading : (limit : ℕ) → IsReading (IsChoiceOf (IsSequenceOf (IsIpBlockDer limit))) (ip_resources_at limit)
resources_reading limit =
    choice_reading (Each (IsIpBlockDer limit)) (values_of (ip_block_at limit))
    (values_check (λ (state : Unit {0}) (x : IpBlock). state) (λ state. IsIpBlockDer limit) (λ state. ip_block_at limit)
    (λ state. ip_block_reading limit) (λ state. ip_block_has_octets limit) tt)

-- the reading in either mode, if the reading of the next block is one in either mode
pub resources_modal_of : (limit : ℕ) (S : Option ℕ → List ℕ → IpBlock → Type 0)
    → ((before : Option ℕ) → IsModal (S before) (ip_block_at limit) (λ strict. next_ip_block_by strict limit before))
    → IsModal (IsChoiceOf (IsSequenceFrom greatest_of_ip_block S None)) (ip_resources_at limit)
    (λ strict. ip_resources_by strict limit)
resources_modal_of limit S next =
    subst
    (λ values. IsModal (IsChoiceOf (IsSequenceFrom greatest_of_ip_block S None)) (choice_at values)
    (λ strict. ip_resources_by strict limit)) (values_stateless greatest_of_ip_block (ip_block_at limit) None)
    (choice_modal (EachFrom greatest_of_ip_block S None)
    (values_from greatest_of_ip_block (λ before. ip_block_at limit) None)
    (λ strict. values_from greatest_of_ip_block (next_ip_block_by strict limit) None)
    (strict_values_check greatest_of_ip_block (λ before. IsIpBlockDer limit) S (λ before. ip_block_at limit)
    (λ strict. next_ip_block_by strict limit) (λ before. ip_block_reading limit)
    (λ before. ip_block_has_octets limit) next None)
    (λ strict. values_tighten strict greatest_of_ip_block (next_ip_block_by strict limit) (λ before. ip_block_at limit)
    (λ before. (next before).tightens strict) None))

-- the reading in either mode
pub resources_modal : (limit : ℕ)
    → IsModal (IsChoiceOf (IsSequenceFrom greatest_of_ip_block (IsNextIpBlock limit) None)) (ip_resources_at limit)
    (λ strict. ip_resources_by strict limit)
resources_modal limit = resources_modal_of limit (IsNextIpBlock limit) (next_ip_block_modal limit)
