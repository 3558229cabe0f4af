-- The first line of a text.
use Rattle.rpki_text.proofs.Common.{get_or, zero, List, None, Option, Some, [], arith, drop, false, length, refl, suc}
use Rattle.rpki_text.proofs.Common.{take, true, ℕ, ◌+◌, ◌-◌, ◌<◌, ◌∷◌, ◌≡◌, false_from_ne_true, le-ltb, lt-ltb}
use Rattle.rpki_text.proofs.Common.{position}
use Rattle.std.proofs.lemmas.List.{take_rest}
use Rattle.std.proofs.lemmas.List.Quantifiers.{position-Some}
use Rattle.std.proofs.lemmas.List.Sums.{fails_before_first, position_or_len_is}
use Rattle.memchr.specs.Find.{IsFirstByte, is_byte}
use Rattle.rpki_text.specs.Lines.{is_end, lines_of}

-- the text up to its first 0a, and then the lines behind it
cut : (text : List ℕ) (at : ℕ) → at < length text → is_end (get_or text at 0) ≡ true
    → ((k : ℕ) → k < at → is_end (get_or text k 0) ≡ false)
    → lines_of text ≡ take at text ∷ lines_of (drop (at + 1) text)
cut [] at less here before = absurd (omega (arith, less))
cut (b ∷ bs) zero less here before = rw here refl
cut (b ∷ bs) (suc at) less here before =
    grind (arith, before 0, cut bs at (omega (arith, less)) here (λ k below. before (suc k) (omega arith)))

-- where there is no 0a, the text is one line
whole : (b : ℕ) (text : List ℕ) → ((k : ℕ) → k < length (b ∷ text) → is_end (get_or (b ∷ text) k 0) ≡ false)
    → lines_of (b ∷ text) ≡ (b ∷ text) ∷ []
whole b [] none = rw (none 0 (omega arith)) refl
whole b (d ∷ text) none =
    rw (none 0 (omega arith), whole d text (λ k below. none (suc k) (omega (arith, below)))) refl

-- where `position` answered, at its answer
pub first_line : (text : List ℕ) (at : ℕ) → position is_end text ≡ Some at
    → lines_of text ≡ take at text ∷ lines_of (take (length text - (at + 1)) (drop (at + 1) text))
first_line text at found =
    let (less, here, before) = position-Some is_end text at 0 found in
    rw (take_rest text (at + 1)) (cut text at less here before)

pub only_line : (text : List ℕ) → 0 < length text → position is_end text ≡ None → lines_of text ≡ text ∷ []
only_line [] some none = absurd (omega (arith, some))
only_line (b ∷ text) some none =
    whole b text (λ k below. fails_before_first is_end (b ∷ text) k 0 (grind (arith, lt-ltb)))

-- a search answers the first 0a
pub first_end : (text : List ℕ) (found : Option ℕ) → IsFirstByte (is_byte 10) text found → found ≡ position is_end text
first_end text None none =
    let nowhere =
    position_or_len_is is_end text (length text) 0 (omega arith)
    (λ k below. false_from_ne_true _ (none k (omega arith) below)) (λ below. absurd (omega arith)) in
    rw (nowhere, le-ltb (length text) (length text) (omega arith)) refl
first_end text (Some at) (found, is) =
    let here =
    position_or_len_is is_end text at 0 (omega (arith, found.high))
    (λ k below. false_from_ne_true _ (found.before k (omega arith) below)) (λ below. is) in
    rw (here, lt-ltb at (length text) found.high) refl
