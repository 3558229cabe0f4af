-- Where a range of addresses is reversed, and which faults families, prefixes and ranges have.
use Rattle.rpki_ip.proofs.Common.{Err, List, arith, is_ok, true, ℕ, ◌<◌, ◌↔◌, ◌≡◌, lt-ltb, ltb-true, last_of, ok_or_err}
use Rattle.rpki_ip.proofs.Common.{Bits, bits, refined, tagged_at, NotCanonical, ReversedRange, prefix_at, prefix_by}
use Rattle.rpki_ip.proofs.Common.{prefix_in, prefix_in_by, prefix_of, prefix_of_by, range_in, span_of}
use Rattle.rpki_der.specs.SequenceFaults.{BeginsWithTwo}
use Rattle.rpki_der.proofs.SequenceFaults.{NamesTo, bind_names, bits_names, cond_fails, cond_names, header_names}
use Rattle.rpki_der.proofs.SequenceFaults.{names_more, not_named, pair_fails, pair_names, refined_names, tagged_names}
use Rattle.rpki_der.proofs.SequenceFaults.{bind_fails, first_fails}

-- ---- which faults are named

module _ (limit : ℕ) where
  prefix_of_names : (b : Bits) → NamesTo 8 (prefix_of limit b)
  unfolding prefix_of
  prefix_of_names b = grind (arith, cond_names)

  pub prefix_content_names : (content : List ℕ) → NamesTo 8 (prefix_in limit content)
  unfolding prefix_in
  prefix_content_names content =
      bind_names 8 (bits content) _ (names_more 5 8 _ (omega arith) (bits_names content)) prefix_of_names

  pub prefix_names : (bytes : List ℕ) → NamesTo 8 (prefix_at limit bytes)
  prefix_names = refined_names 8 (tagged_at 3) (prefix_in limit) (header_names 8 3 (omega arith)) prefix_content_names

  pub range_names : (content : List ℕ) → NamesTo 10 (range_in limit content)
  unfolding span_of
  range_names =
      pair_names 10 _ span_of (omega arith) (λ bytes. names_more 8 10 _ (omega arith) (prefix_names bytes))
      (λ p q. grind (arith, cond_names))

  -- ---- where a range is reversed

  pub range_fails : (content : List ℕ)
      → (range_in limit content ≡ Err ReversedRange)
      ↔ BeginsWithTwo (prefix_at limit) (λ p q. last_of 128 q < p.first) content
  unfolding span_of
  range_fails =
      pair_fails (prefix_at limit) span_of (λ p q. last_of 128 q < p.first) ReversedRange (omega arith)
      (λ bytes. not_named 8 (prefix_at limit bytes) ReversedRange (prefix_names bytes) (omega arith))
      (λ p q. grind (arith, cond_fails, lt-ltb, ltb-true))

  -- the steps of the reading that come before the look at the unused bits
  pub prefix_last : (bytes : List ℕ) → prefix_by true limit bytes ≡ Err NotCanonical
      → is_ok (prefix_at limit bytes) ≡ true
  unfolding refined prefix_in prefix_in_by prefix_of_by
  prefix_last bytes is =
      grind (arith, bind_fails, bits_names, first_fails, not_named, ok_or_err, prefix_of_names, tagged_names)
