-- A text of a block has one value or one fault at most, and each form is found by the byte that cuts the text.
use Rattle.rpki_ip_block.proofs.Common.{Err, List, MatchResult, Ok, Option, Result, inl, inr, refl, ℕ, ◌≡◌, PrefixValue}
use Rattle.rpki_ip_block.proofs.Common.{AddressFamily, answers_by_one, prefix_one, range_one, single_one}
use Rattle.rpki_ip_block.proofs.Common.{HasAddressFault, HasIpPrefixTextFault, HasRangeTextFault, IsIpPrefixText}
use Rattle.rpki_ip_block.proofs.Common.{IsRangeText, IsSingleText, RangeValue, FromStrError, HasNo, dash, slash}
use Rattle.rpki_ip_block.proofs.Common.{Answers, HasIpBlockFault, IsIpBlockText, IpBlock, Prefix, Range, arith}
use Rattle.rpki_text.proofs.CutLemmas.{none_around}

-- the block of a prefix, and of a range
abbrev of_prefix : Result PrefixValue FromStrError → Result IpBlock FromStrError
of_prefix (Ok p) = Ok (Prefix p)
of_prefix (Err e) = Err e

abbrev of_range : Result RangeValue FromStrError → Result IpBlock FromStrError
of_range (Ok r) = Ok (Range r)
of_range (Err e) = Err e

module _ (w : Option AddressFamily) (text : List ℕ) where
  -- what is right of a text
  abbrev pub Says : Result IpBlock FromStrError → Type 0
  Says r = MatchResult r (IsIpBlockText w text) (HasIpBlockFault w text)

  -- the answer, by the form of the text
  data Formed (r : Result IpBlock FromStrError) : Type 0 where
    prefix : ¬ HasNo slash text → (x : Result PrefixValue FromStrError)
        → MatchResult x (IsIpPrefixText w text) (HasIpPrefixTextFault w text) → r ≡ of_prefix x → Formed r
    range : HasNo slash text → ¬ HasNo dash text → (x : Result RangeValue FromStrError)
        → MatchResult x (IsRangeText w text) (HasRangeTextFault w text) → r ≡ of_range x → Formed r
    single : HasNo slash text → HasNo dash text → (x : Result RangeValue FromStrError)
        → MatchResult x (IsSingleText w text) (HasAddressFault w text) → r ≡ of_range x → Formed r

  formed : (r : Result IpBlock FromStrError) → Says r → Formed r
  formed (Ok (Prefix p)) h = prefix (λ none. none_around slash text _ none h) (Ok p) h refl
  formed (Ok (Range r)) (none, inl h) = range none (λ apart. none_around dash text _ apart h) (Ok r) h refl
  formed (Ok (Range r)) (none, inr (apart, h)) = single none apart (Ok r) h refl
  formed (Err e) (inl h) = prefix (λ none. none_around slash text _ none h) (Err e) (inr h) refl
  formed (Err e) (inr (none, inl h)) = range none (λ apart. none_around dash text _ apart h) (Err e) (inr h) refl
  formed (Err e) (inr (none, inr (apart, h))) = single none apart (Err e) h refl

  formed_one : (r s : Result IpBlock FromStrError) → Formed r → Formed s → r ≡ s
  formed_one r s h h2 = grind (arith, prefix_one, range_one, single_one)

  -- a text has one value or one fault at most
  pub block_one : (r s : Result IpBlock FromStrError) → Says r → Says s → r ≡ s
  block_one r s h k = formed_one r s (formed r h) (formed s k)

  -- so one that is right is the only one
  pub block_answers : (r : Result IpBlock FromStrError) → Says r
      → Answers (IsIpBlockText w text) (HasIpBlockFault w text) r
  block_answers r found = answers_by_one block_one r found
