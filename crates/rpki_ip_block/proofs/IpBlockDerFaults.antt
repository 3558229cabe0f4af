-- Where a block of addresses is a reversed range, and that no fault of lists is one of a block.
use Rattle.rpki_ip_block.proofs.Common.{Err, List, Ok, arith, ℕ, ◌<◌, ◌↔◌, ◌≡◌, last_of, value_at, prefix_at, prefix_in}
use Rattle.rpki_ip_block.proofs.Common.{range_in, ip_block_at, ip_block_of, prefix_block_in, range_block_in, Prefix}
use Rattle.rpki_ip_block.proofs.Common.{Range}
use Rattle.rpki_der.specs.SequenceFaults.{BeginsWithTwo, BeginsWithValue}
use Rattle.rpki_der.proofs.SequenceFaults.{NamesTo, bind_names, by_tag_names, mapped_fails, names_more, not_named}
use Rattle.rpki_der.proofs.SequenceFaults.{refined_names, sequence_fails, value_names}
use Rattle.rpki_der.specs.declared.error.DerError.TheVariants.{NotCanonical, ReversedRange}
use Rattle.rpki_ip.proofs.PrefixDerFaults.{prefix_content_names, range_fails, range_names}

module _ (limit : ℕ) where
  prefix_block_names : (content : List ℕ) → NamesTo 8 (prefix_block_in limit content)
  prefix_block_names content =
      bind_names 8 (prefix_in limit content) (λ p. Ok (Prefix p)) (prefix_content_names limit content) (λ p. tt)

  -- up to ReversedRange
  pub block_names : (bytes : List ℕ) → NamesTo 10 (ip_block_at limit bytes)
  block_names =
      refined_names 10 value_at (ip_block_of limit)
      (λ bytes. names_more 3 10 (value_at bytes) (omega arith) (value_names bytes))
      (by_tag_names 10 3 (prefix_block_in limit) (range_block_in limit) (omega arith)
      (λ content. names_more 8 10 (prefix_block_in limit content) (omega arith) (prefix_block_names content))
      (λ content. bind_names 10 (range_in limit content) (λ r. Ok (Range r)) (range_names limit content) (λ r. tt)))

  range_block_fails : (content : List ℕ)
      → (range_block_in limit content ≡ Err ReversedRange)
      ↔ BeginsWithTwo (prefix_at limit) (λ p q. last_of 128 q < p.first) content
  range_block_fails content = grind (arith, mapped_fails, range_fails)

  pub block_fails : (bytes : List ℕ)
      → (ip_block_at limit bytes ≡ Err ReversedRange)
      ↔ BeginsWithValue 48 (BeginsWithTwo (prefix_at limit) (λ p q. last_of 128 q < p.first)) bytes
  block_fails =
      sequence_fails 3 (prefix_block_in limit) (range_block_in limit)
      (BeginsWithTwo (prefix_at limit) (λ p q. last_of 128 q < p.first)) ReversedRange (λ e. omega (arith, e))
      (omega arith)
      (λ content. not_named 8 (prefix_block_in limit content) ReversedRange (prefix_block_names content) (omega arith))
      range_block_fails

  -- what isn't canonical is read leniently
  pub never_lenient : (bytes : List ℕ) → ip_block_at limit bytes ≡ Err NotCanonical → ⊥
  never_lenient bytes = not_named 10 (ip_block_at limit bytes) NotCanonical (block_names bytes) (omega arith)
