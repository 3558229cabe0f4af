-- Resources are refused for a list of no blocks exactly where a SEQUENCE of nothing stands, whatever a block is.
use Rattle.rpki_chain.proofs.Common.{List, Ok, Result, [], arith, ℕ, ◌↔◌, ◌≡◌, value_at, DerError, choice_at, choice_in}
use Rattle.rpki_chain.proofs.Common.{inherited_in, listed_in}
use Rattle.std.proofs.Common.{Err}
use Rattle.rpki_der.specs.declared.error.DerError.TheVariants.{EmptyBlocks}
use Rattle.rpki_der.specs.SequenceFaults.{BeginsEmpty}
use Rattle.rpki_der.proofs.SequenceFaults.{NamesTo, by_tag_names, not_named, nothing_names, refined_names}
use Rattle.rpki_der.proofs.SequenceFaults.{sequence_fails, value_names}

module _ {X : Type 0} (values : List ℕ → Result (List X) DerError)
    (names : (content : List ℕ) → NamesTo 10 (values content)) where
  inherited_names : (content : List ℕ) → NamesTo 6 (inherited_in {X = List X} content)
  inherited_names content = grind (arith, nothing_names content)

  -- up to EmptyBlocks
  pub choice_names : (bytes : List ℕ) → NamesTo 11 (choice_at values bytes)
  choice_names =
      refined_names 11 value_at (choice_in values) (λ bytes. grind (arith, value_names bytes))
      (by_tag_names 11 5 inherited_in (listed_in values) (omega arith) (λ content. grind (arith, nothing_names content))
      (λ content. grind (arith, names content)))

  module _ (none : (content : List ℕ) → (values content ≡ Ok []) ↔ (content ≡ [])) where
    listed_fails : (content : List ℕ) → (listed_in values content ≡ Err EmptyBlocks) ↔ (content ≡ [])
    listed_fails content = grind (arith, none content, not_named 10 (values content) EmptyBlocks (names content))

    pub choice_fails : (bytes : List ℕ) → (choice_at values bytes ≡ Err EmptyBlocks) ↔ BeginsEmpty bytes
    choice_fails =
        sequence_fails 5 inherited_in (listed_in values) (λ content. content ≡ []) EmptyBlocks (λ e. omega arith)
        (omega arith)
        (λ content. not_named 6 (inherited_in {X = List X} content) EmptyBlocks (inherited_names content) (omega arith))
        listed_fails
