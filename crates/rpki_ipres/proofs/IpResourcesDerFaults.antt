-- Where resources of addresses are refused for a list of no blocks, for no family, for one that is there twice.
use Rattle.rpki_ipres.proofs.Common.{Err, List, arith, ℕ, ◌↔◌, ◌≡◌, values_of, bits_of, tagged_at, ip_block_at}
use Rattle.rpki_ipres.proofs.Common.{ip_blocks_at, IpBlock, ip_families_at, ip_resources_at}
use Rattle.rpki_der.specs.declared.error.DerError.TheVariants.{DuplicateFamily, EmptyBlocks, NoFamily}
use Rattle.rpki_der.specs.SequenceFaults.{BeginsEmpty, BeginsWithValue}
use Rattle.rpki_der.proofs.SequenceFaults.{NamesTo, header_names, no_values, refined_names, values_names}
use Rattle.rpki_chain.proofs.ChoiceFaults.{choice_fails, choice_names}
use Rattle.rpki_der.specs.FamiliesFaults.{BeginsWithRepeat}
use Rattle.rpki_der.proofs.FamiliesFaults.{families_names, family_twice, no_family}
use Rattle.rpki_ip_block.proofs.IpBlockDerFaults.{block_names}

blocks_names : (limit : ℕ) (content : List ℕ) → NamesTo {X = List IpBlock} 10 (values_of (ip_block_at limit) content)
blocks_names limit = values_names 10 (ip_block_at limit) (omega arith) (block_names limit)

pub resources_names : (limit : ℕ) (bytes : List ℕ) → NamesTo 11 (ip_resources_at limit bytes)
resources_names limit = choice_names (values_of (ip_block_at limit)) (blocks_names limit)

pub empty_blocks : (limit : ℕ) (bytes : List ℕ) → (ip_resources_at limit bytes ≡ Err EmptyBlocks) ↔ BeginsEmpty bytes
empty_blocks limit = choice_fails (values_of (ip_block_at limit)) (blocks_names limit) (no_values (ip_block_at limit))

pub families_empty : (bytes : List ℕ) → (ip_families_at bytes ≡ Err NoFamily) ↔ BeginsEmpty bytes
families_empty = no_family (λ family. ip_resources_at (bits_of family)) (λ family. resources_names (bits_of family))

pub families_repeat : (bytes : List ℕ)
    → (ip_families_at bytes ≡ Err DuplicateFamily)
    ↔ BeginsWithValue 48 (BeginsWithRepeat (λ family. ip_resources_at (bits_of family))) bytes
families_repeat = family_twice (λ family. ip_resources_at (bits_of family)) (λ family. resources_names (bits_of family))

-- ---- which faults are named: none that isn't canonical

pub sequence_names : (limit : ℕ) (bytes : List ℕ) → NamesTo 10 (ip_blocks_at limit bytes)
sequence_names limit = refined_names 10 (tagged_at 48) _ (header_names 10 48 (omega arith)) (blocks_names limit)

pub all_names : (bytes : List ℕ) → NamesTo 13 (ip_families_at bytes)
all_names = families_names (λ family. ip_resources_at (bits_of family)) (λ family. resources_names (bits_of family))
