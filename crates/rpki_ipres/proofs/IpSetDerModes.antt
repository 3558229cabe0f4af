-- Sets and resources of addresses in either mode: strictly, the octets are those that are written of them.
use Rattle.rpki_ipres.proofs.Common.{List, None, Option, arith, refl, ℕ, ◌-◌, ◌<◌, ◌^◌, ◌≤◌, All-from_recursion}
use Rattle.rpki_ipres.proofs.Common.{pow_pos, IsSaidInModes, IsSequenceFrom, IsSequenceOf, bits_of, AddressFamily}
use Rattle.rpki_ipres.proofs.Common.{IsChoiceOf, IsRunsOfBlocks, tested_modal, Spells, Where, bits_few_enough, within}
use Rattle.rpki_ipres.proofs.Common.{new_block_fits, IsBlockWithin, IsIpBlockDer, IsSetIpBlock, ip_block_der}
use Rattle.rpki_ipres.proofs.Common.{new_ip_block_bounds, ip_block_at, ip_block_by, ip_blocks_at, next_ip_block_by}
use Rattle.rpki_ipres.proofs.Common.{ip_block_has_octets, ip_block_reading, ip_bounds, new_ip_block, IpBlock, Prefix}
use Rattle.rpki_ipres.proofs.Common.{Range, greatest_of_ip_block, ip_blocks_by, ip_resources_by, IsPresentFamilyClaim}
use Rattle.rpki_ipres.proofs.Common.{SaysClaimOf, ip_resources_at, ip_resources_der, ip_set_der, IsFamilySet}
use Rattle.rpki_ipres.proofs.Common.{block_written}
use Rattle.rpki_block.specs.Beyond.{IsBeyond, is_beyond}
use Rattle.rpki_block.proofs.BlockStartTest.{beyond_is, is_beyond_of}
use Rattle.rpki_chain.proofs.BlocksInModes.{AreBlocksInModes, choice_said, set_said}
use Rattle.rpki_ip_block.specs.BlockModeLaws.{ip_block_modal}
use Rattle.rpki_ip_block.proofs.IpBlockDerModes.{set_block_reading}
use Rattle.rpki_ipres.proofs.SetTextLemmas.{is_ip_set}
use Rattle.rpki_ipres.proofs.IpSetWritten.{IsRunWithin, family_runs, made_within}
use Rattle.rpki_ipres.proofs.WholeRunLemmas.{runs_whole}

-- ---- blocks

-- the bounds of a block within the limit
run_of : (limit : ℕ) (block : IpBlock) → limit ≤ 128 → IsBlockWithin limit block → IsRunWithin limit (ip_bounds block)
run_of limit (Prefix p) le (is, short) =
    let some : 0 < 2 ^ (128 - p.len) = pow_pos (128 - p.len) in
    within limit p p _ le is short is short (record { begins = refl; ends = refl; ordered = omega (arith, some) })
run_of limit (Range r) le is = is

-- what is written of a block that sets have
abbrev IsWrittenBlock : ℕ → List ℕ → IpBlock → Type 0
IsWrittenBlock limit = Spells (IsSetIpBlock limit) ip_block_der

abbrev pub IsNextWritten : ℕ → Option ℕ → List ℕ → IpBlock → Type 0
IsNextWritten limit before = Where (IsWrittenBlock limit) (λ block. IsBeyond before (ip_bounds block).0)

module _ (family : AddressFamily) where
  -- blocks of a family
  pub blocks : AreBlocksInModes ip_bounds new_ip_block ip_block_der 340282366920938463463374607431768211455
      (IsRunWithin (bits_of family)) (IsFamilySet family) (IsIpBlockDer (bits_of family))
      (IsWrittenBlock (bits_of family)) (ip_block_at (bits_of family))
      (λ strict. next_ip_block_by strict (bits_of family))
  blocks =
      let limit = bits_of family in
      let le = bits_few_enough family in
      record {
        lenient = ip_block_reading limit;
        has_octets = ip_block_has_octets limit;
        modal = λ before.
            tested_modal (IsWrittenBlock limit) (λ block. IsBeyond before (ip_bounds block).0) (ip_block_at limit)
            (λ strict. ip_block_by strict limit) (λ block. is_beyond before (ip_bounds block).0)
            (record { tight = set_block_reading limit le; tightens = (ip_block_modal limit).tightens })
            (λ x. beyond_is before (ip_bounds x).0) (λ x. is_beyond_of before (ip_bounds x).0);
        looser = λ bytes block is. grind (arith, block_written);
        written = grind (arith, made_within, new_block_fits, new_ip_block_bounds, run_of);
        fitting = λ set is fit. grind (arith, runs_whole);
        fits = λ set is.
            (is_ip_set family set is, All-from_recursion (IsRunWithin limit) set (family_runs family set is));
      }

  -- sets
  pub set_in_modes : IsSaidInModes (IsSequenceOf (IsIpBlockDer (bits_of family)))
      (IsSequenceFrom greatest_of_ip_block (IsNextWritten (bits_of family)) None) (IsRunsOfBlocks ip_bounds)
      (IsFamilySet family) ip_set_der (ip_blocks_at (bits_of family)) (λ strict. ip_blocks_by strict (bits_of family))
  set_in_modes = set_said blocks

  -- resources
  pub claim_in_modes : IsSaidInModes (IsChoiceOf (IsSequenceOf (IsIpBlockDer (bits_of family))))
      (IsChoiceOf (IsSequenceFrom greatest_of_ip_block (IsNextWritten (bits_of family)) None)) SaysClaimOf
      (IsPresentFamilyClaim family) ip_resources_der (ip_resources_at (bits_of family))
      (λ strict. ip_resources_by strict (bits_of family))
  claim_in_modes = choice_said blocks
