-- Where a range of AS numbers is reversed, and that no fault of lists is one of a block.
use Rattle.rpki_as_block.proofs.Common.{Err, List, Ok, ap, arith, is_ok, true, ℕ, ◌<◌, ◌↔◌, ◌≡◌, lt-ltb, ltb-true}
use Rattle.rpki_as_block.proofs.Common.{as_number_at, passing, refined, unsigned, value_at, ◌>>=◌, as_block_at}
use Rattle.rpki_as_block.proofs.Common.{as_block_by, as_block_of, as_id_in, as_range_block_in, as_range_in, is_new_form}
use Rattle.rpki_as_block.proofs.Common.{range_of, Id, Range}
use Rattle.rpki_der.specs.declared.error.DerError.TheVariants.{NotCanonical, ReversedRange}
use Rattle.rpki_der.specs.SequenceFaults.{BeginsWithTwo, BeginsWithValue}
use Rattle.rpki_der.proofs.SequenceFaults.{NamesTo, bind_fails, bind_names, by_tag_names, cond_fails, cond_names}
use Rattle.rpki_der.proofs.SequenceFaults.{mapped_fails, names_more, not_named, number_names, pair_fails, pair_names}
use Rattle.rpki_der.proofs.SequenceFaults.{refined_names, sequence_fails, unsigned_names, value_names}

-- ---- which faults are named

range_of_names : (min max : ℕ) → NamesTo 10 (range_of min max)
unfolding range_of
range_of_names min max = grind (arith, cond_names)

range_names : (content : List ℕ) → NamesTo 10 (as_range_in content)
range_names =
    pair_names 10 as_number_at range_of (omega arith)
    (λ bytes. names_more 4 10 (as_number_at bytes) (omega arith) (number_names bytes)) range_of_names

id_names : (content : List ℕ) → NamesTo 4 (as_id_in content)
id_names content = bind_names 4 (unsigned content) (λ n. Ok (Id n)) (unsigned_names content) (λ n. tt)

-- those of a block: up to ReversedRange
pub block_names : (bytes : List ℕ) → NamesTo 10 (as_block_at bytes)
block_names =
    refined_names 10 value_at as_block_of (λ bytes. names_more 3 10 (value_at bytes) (omega arith) (value_names bytes))
    (by_tag_names 10 2 as_id_in as_range_block_in (omega arith)
    (λ content. names_more 4 10 (as_id_in content) (omega arith) (id_names content))
    (λ content. bind_names 10 (as_range_in content) (λ r. Ok (Range r)) (range_names content) (λ r. tt)))

-- ---- where a range is reversed

range_of_fails : (min max : ℕ) → (range_of min max ≡ Err ReversedRange) ↔ (max < min)
unfolding range_of
range_of_fails min max = grind (arith, cond_fails, lt-ltb, ltb-true)

pub range_fails : (content : List ℕ)
    → (as_range_in content ≡ Err ReversedRange) ↔ BeginsWithTwo as_number_at (λ first second. second < first) content
range_fails =
    pair_fails as_number_at range_of (λ first second. second < first) ReversedRange (omega arith)
    (λ bytes. not_named 4 (as_number_at bytes) ReversedRange (number_names bytes) (omega arith)) range_of_fails

range_block_fails : (content : List ℕ)
    → (as_range_block_in content ≡ Err ReversedRange)
    ↔ BeginsWithTwo as_number_at (λ first second. second < first) content
range_block_fails content = grind (arith, mapped_fails, range_fails)

pub block_fails : (bytes : List ℕ)
    → (as_block_at bytes ≡ Err ReversedRange)
    ↔ BeginsWithValue 48 (BeginsWithTwo as_number_at (λ first second. second < first)) bytes
block_fails =
    sequence_fails 2 as_id_in as_range_block_in (BeginsWithTwo as_number_at (λ first second. second < first))
    ReversedRange (λ e. omega arith) (omega arith)
    (λ content. not_named 4 (as_id_in content) ReversedRange (id_names content) (omega arith)) range_block_fails

-- ---- what isn't canonical

pub never_lenient : (bytes : List ℕ) → as_block_at bytes ≡ Err NotCanonical → ⊥
never_lenient bytes = not_named 10 (as_block_at bytes) NotCanonical (block_names bytes) (omega arith)

pub comes_last : (bytes : List ℕ) → as_block_by true bytes ≡ Err NotCanonical → is_ok (as_block_at bytes) ≡ true
unfolding refined
comes_last bytes is =
    ap is_ok (bind_fails (as_block_at bytes) (λ x. passing true is_new_form x.0 >>= λ y. Ok (y, x.1)) NotCanonical
    (never_lenient bytes) is).1
