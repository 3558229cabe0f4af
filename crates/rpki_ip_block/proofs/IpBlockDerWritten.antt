-- What is written of a block is the block.
use Rattle.rpki_ip_block.proofs.Common.{exact_optional_by, refused_optional_by, reads_optional_value_by, Spells}
use Rattle.rpki_ip_block.proofs.Common.{IsSetIpBlock, subst, List, Ok, Option, Result, Some, arith, refl, true, ℕ, ◌++◌}
use Rattle.rpki_ip_block.proofs.Common.{◌-◌, ◌<◌, ◌^◌, ◌≡◌, ◌≤◌, pow_pos, bits_of, AddressFamily, Ipv4, Ipv6, optional}
use Rattle.rpki_ip_block.proofs.Common.{Takes, is_strict, left, few_bits, prefix_written, range_written, IsBlockWithin}
use Rattle.rpki_ip_block.proofs.Common.{IsIpBlockDer, ip_block_der, ip_block_modal, ip_block_at, ip_block_by}
use Rattle.rpki_ip_block.proofs.Common.{ip_block_has_octets, ip_block_reading, ip_bounds, new_ip_block, IsBlockOf}
use Rattle.rpki_ip_block.proofs.Common.{IpBlock, Prefix, Range, Lenient, NotCanonicalOr, ReadsOptional, Strict}
use Rattle.rpki_der.proofs.SequenceModes.{optional_back_by}
use Rattle.rpki_block.specs.Bounds.{IsNew}
use Rattle.rpki_der.specs.declared.cursor.Cursor.{Cursor}
use Rattle.rpki_der.specs.declared.error.DerError.{DerError}
use Rattle.rpki_ip_block.proofs.IpBlockDerModes.{is_set_block, set_block_reading}

-- a block whose bounds need no more bits than the limit
pub block_written : (limit : ℕ) (block : IpBlock) → limit ≤ 128 → IsBlockWithin limit block
    → IsIpBlockDer limit (ip_block_der block) block
block_written limit (Prefix p) le is = prefix_written limit p is.0 is.1
block_written limit (Range r) le is = range_written limit r le is

-- it is read back
pub block_back : (limit : ℕ) (block : IpBlock) (rest : List ℕ) → limit ≤ 128 → IsBlockWithin limit block
    → ip_block_at limit (ip_block_der block ++ rest) ≡ Ok (block, rest)
block_back limit block rest le is =
    (ip_block_reading limit).again (ip_block_der block) block rest (block_written limit block le is)

-- a block of a family needs no more bits than its addresses
pub family_within : (family : AddressFamily) (block : IpBlock) → IsBlockOf family block
    → IsBlockWithin (bits_of family) block
family_within Ipv4 (Prefix p) (fits, whole) =
    let some : 0 < 2 ^ (128 - p.len) = pow_pos (128 - p.len) in
    (fits, few_bits 32 p.len p.first _ (omega arith) fits.short whole.begins whole.ends (omega arith) (omega arith))
family_within Ipv4 (Range r) (fits, whole) = record { is_range = fits; zeros = whole.begins; ones = whole.ends }
family_within Ipv6 (Prefix p) fits = (fits, fits.short)
family_within Ipv6 (Range r) fits = record { is_range = fits; zeros = omega arith; ones = omega arith }

-- what is promised of a take
module _ (limit : ℕ) (le : limit ≤ 128) (old new : Cursor) (result : Result (Option IpBlock) DerError)
    (took : Takes (λ block. block) old new result (optional (ip_block_by (is_strict old) limit))) where
  pub taken_exact : Lenient old (Takes (λ block. block) old new result (optional (ip_block_at limit)))
  taken_exact =
      exact_optional_by _ _ (λ strict. ip_block_by strict limit) (λ x. x) old new result (ip_block_modal limit) took

  pub taken_reads : Lenient old (ReadsOptional (IsIpBlockDer limit) (λ block. block) old new result)
  taken_reads lenient =
      reads_optional_value_by _ _ old new result (ip_block_reading limit) old.bytes (taken_exact lenient)

  pub taken_strict : Strict old
      (ReadsOptional (Spells (IsSetIpBlock limit) ip_block_der) (λ block. block) old new result)
  taken_strict strict =
      reads_optional_value_by _ _ old new result (set_block_reading limit le) old.bytes
      (subst (λ mode. Takes (λ block. block) old new result (optional (ip_block_by mode limit))) strict took)

  pub taken_refused : NotCanonicalOr (IsIpBlockDer limit) old result
  taken_refused =
      refused_optional_by _ _ _ (λ strict. ip_block_by strict limit) (λ block. block) old new result
      (ip_block_reading limit) (ip_block_modal limit) took

  -- what was written of a block is read as the block
  pub taken_back : (block : IpBlock) (rest : List ℕ) → IsBlockWithin limit block
      → (is_strict old ≡ true → IsNew ip_bounds new_ip_block block) → left old ≡ ip_block_der block ++ rest
      → (result ≡ Ok (Some block)) × (left new ≡ rest)
  taken_back block rest within form at =
      let written = block_written limit block le within in
      optional_back_by _ _ _ (λ strict. ip_block_by strict limit) old new result (ip_block_reading limit)
      (ip_block_modal limit) took (ip_block_der block) rest block (ip_block_has_octets limit _ block written) written
      (λ strict. is_set_block limit (ip_block_der block) block le ((within, form strict), refl)) at
