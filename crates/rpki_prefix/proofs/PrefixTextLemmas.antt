-- A text writes one prefix, or has one fault; and what is printed of a prefix writes it.
use Rattle.rpki_prefix.proofs.Common.{Err, Some, List, MatchResult, Result, [], ap, arith, inl, inr, subst, sym, ℕ, ◌-◌}
use Rattle.rpki_prefix.proofs.Common.{◌<◌, ◌^◌, ◌∙◌, ◌≡◌, ip_bytes, no_slash, IpAddr, around_at, none_around}
use Rattle.rpki_prefix.proofs.Common.{IsNumberText-decimal, IsNumberText-one, Answers-from_found, Around, slash}
use Rattle.rpki_prefix.proofs.Common.{HasNumberFault, IsNumberText, HasNoParts, HasParts, HasPrefixTextFault}
use Rattle.rpki_prefix.proofs.Common.{HasRelaxedPrefixTextFault, HasTextFaultBy, IsPrefixText, IsRelaxedPrefixText}
use Rattle.rpki_prefix.proofs.Common.{IsTextBy, ReadsPrefix, prefix_text, FamilyPrefix, HasPrefixError}
use Rattle.rpki_prefix.proofs.Common.{HasRelaxedPrefixError, IsFamilyPrefix, IsPrefixOf, IsRelaxedPrefixOf}
use Rattle.rpki_prefix.proofs.Common.{ParsePrefixError, err_from_is_err_and}
use Rattle.std.proofs.Common.{Bor}
use Rattle.std.proofs.lemmas.Str.Pattern.{IsSplitOnceResult, split_parts}
use Rattle.std.specs.Result.{IsErrAnd}
use Rattle.rpki_text.specs.Reading.{Answers}
use Rattle.rpki_text.specs.declared.number.ParseIntError.{ParseIntError}
use Rattle.rpki_addr.proofs.AddressTextLemmas.{IsIpText-one, IsIpText-ip_text}
use Rattle.rpki_text.proofs.NumberLemmas.{number_answers}
use Rattle.rpki_addr.proofs.WidthLemmas.{width_small}
use Rattle.rpki_prefix.specs.declared.error.ParsePrefixError.TheVariants.{Empty, MissingLen, InvalidAddr, InvalidLen}
use Rattle.rpki_prefix.specs.declared.error.ParsePrefixError.TheVariants.{InvalidPrefix}
use Rattle.rpki_prefix.specs.declared.error.PrefixError.{PrefixError}

-- what std's `split_once` found stands round the first of a byte
pub around_split : (b : ℕ) (text : List ℕ) (left right : Bor (List ℕ)) (P : List ℕ → List ℕ → Type 0)
    → IsSplitOnceResult b text (Some (left, right)) → b < 128 → P left.now right.now → Around b text P
around_split b text left right P found small holds =
    let parts = split_parts b text (Some (left, right)) found small in
    record { left = left.now; right = right.now; cut = record { split = parts.0; first = parts.1 }; holds = holds }

-- what holds of the error that a `?` passes on holds of the answer
pub passed_on : {A E : Type 0} (P : Result A E → Type 0) (r : Result A E) (e : E) → IsErrAnd r (λ f. f ≡ e)
    → P (Err e) → P r
passed_on P r e is holds = let p = err_from_is_err_and r is in rw (p.1, p.2) holds

-- what is said of the two texts round the first of a byte is said of the same two
pub both_around : {b : ℕ} {text : List ℕ} {P Q : List ℕ → List ℕ → Type 0} {R : Type 0} → Around b text P
    → Around b text Q → ((left right : List ℕ) → P left right → Q left right → R) → R
both_around {b} {text} {P} h k f = f k.left k.right (around_at b text k.left k.right P k.cut h) k.holds

-- a number text has no fault, and any other has one
pub number_apart : (text : List ℕ) (n : ℕ) (f : ParseIntError) → IsNumberText (2 ^ 8 - 1) text n
    → HasNumberFault (2 ^ 8 - 1) text f → ⊥
number_apart text n f h k = let e = (number_answers (2 ^ 8 - 1) text (Err f) k).each_value n h in cc

-- and one alone
pub same_number_fault : (text : List ℕ) (f g : ParseIntError) → HasNumberFault (2 ^ 8 - 1) text f
    → HasNumberFault (2 ^ 8 - 1) text g → f ≡ g
same_number_fault text f g h k = let e = (number_answers (2 ^ 8 - 1) text (Err f) h).each_fault g k in cc

-- a text has one address and one length: what holds of some holds of others
parts_carry : (text : List ℕ) (P : IpAddr → ℕ → Type 0) (a b : IpAddr) (m n : ℕ) → HasParts text a m → HasParts text b n
    → P a m → P b n
parts_carry text P a b m n h k is = both_around h k (λ l r x y.
    subst (λ c. P c n) (IsIpText-one l a b x.addr_text y.addr_text)
    (subst (P a) (IsNumberText-one (2 ^ 8 - 1) r m n x.len_text y.len_text) is))

-- nothing has no slash
empty_around : (text : List ℕ) (P : List ℕ → List ℕ → Type 0) → text ≡ [] → Around slash text P → ⊥
empty_around text P e h = none_around slash text P (rw e (λ k small. omega (arith, small))) h

-- a text with an address and a length has no fault of them
parts_apart : (text : List ℕ) (a : IpAddr) (n : ℕ) (e : ParsePrefixError) → HasParts text a n → HasNoParts text e → ⊥
parts_apart text a n Empty h k = empty_around text _ k h
parts_apart text a n MissingLen h k = none_around slash text _ k.1 h
parts_apart text a n (InvalidAddr f) h k = both_around h k (λ l r x no. no.0 a x.addr_text)
parts_apart text a n (InvalidLen f) h k = both_around h k (λ l r x (b, is, fault). number_apart r n f x.len_text fault)
parts_apart text a n (InvalidPrefix f) h k = k

-- a text without them has one fault
no_parts_one : (text : List ℕ) (d e : ParsePrefixError) → HasNoParts text d → HasNoParts text e → d ≡ e
no_parts_one text d e h k = grind (arith, around_at, empty_around, none_around, same_number_fault)

-- a rule that gives one prefix or one error
record IsExact (Rule : IpAddr → ℕ → FamilyPrefix → Type 0) (Fails : IpAddr → ℕ → PrefixError → Type 0) : Type 0 where
  one : (a : IpAddr) (n : ℕ) (p q : FamilyPrefix) → Rule a n p → Rule a n q → p ≡ q
  apart : (a : IpAddr) (n : ℕ) (p : FamilyPrefix) (f : PrefixError) → Rule a n p → Fails a n f → ⊥
  one_error : (a : IpAddr) (n : ℕ) (f g : PrefixError) → Fails a n f → Fails a n g → f ≡ g

-- what is read by it
module _ {Rule : IpAddr → ℕ → FamilyPrefix → Type 0} {Fails : IpAddr → ℕ → PrefixError → Type 0}
    (exact : IsExact Rule Fails)
  where
    -- a text writes one prefix
    text_one : (text : List ℕ) (p q : FamilyPrefix) → IsTextBy Rule text p → IsTextBy Rule text q → p ≡ q
    text_one text p q h k =
        exact.one k.addr k.len p q (parts_carry text (λ a n. Rule a n p) _ _ _ _ h.parts k.parts h.prefix) k.prefix

    -- and has no fault then
    text_apart : (text : List ℕ) (p : FamilyPrefix) (e : ParsePrefixError) → IsTextBy Rule text p
        → HasTextFaultBy Fails text e → ⊥
    text_apart text p e h (inl k) = parts_apart text h.addr h.len e h.parts k
    text_apart text p e h (inr (a, n, f, parts, fault, _)) =
        exact.apart a n p f (parts_carry text (λ a n. Rule a n p) _ _ _ _ h.parts parts h.prefix) fault

    -- and else one fault
    fault_one : (text : List ℕ) (d e : ParsePrefixError) → HasTextFaultBy Fails text d → HasTextFaultBy Fails text e
        → d ≡ e
    fault_one text d e (inl h) (inl k) = no_parts_one text d e h k
    fault_one text d e (inl h) (inr (a, n, f, parts, _, _)) = absurd (parts_apart text a n d parts h)
    fault_one text d e (inr (a, n, f, parts, _, _)) (inl k) = absurd (parts_apart text a n e parts k)
    fault_one text d e (inr (a, n, f, parts, h, u)) (inr (b, m, g, others, k, v)) =
        let fails = parts_carry text (λ a n. Fails a n f) _ _ _ _ parts others h in
        u ∙ ap InvalidPrefix (exact.one_error b m f g fails k) ∙ sym v

    -- so what is found is the answer
    answers_by : (text : List ℕ) (r : Result FamilyPrefix ParsePrefixError)
        → MatchResult r (IsTextBy Rule text) (HasTextFaultBy Fails text)
        → Answers (IsTextBy Rule text) (HasTextFaultBy Fails text) r
    answers_by text r found = Answers-from_found r found (text_one text) (text_apart text) (fault_one text)

-- of an address and a length there is one prefix, or one reason that there is none
strict : IsExact IsPrefixOf HasPrefixError
strict = grind arith

-- and so where host bits are cleared
relaxed : IsExact IsRelaxedPrefixOf HasRelaxedPrefixError
relaxed = grind arith

-- what is found by the relaxed reader is the answer
pub reads_relaxed : (text : List ℕ) (r : Result FamilyPrefix ParsePrefixError)
    → MatchResult r (IsRelaxedPrefixText text) (HasRelaxedPrefixTextFault text)
    → Answers (IsRelaxedPrefixText text) (HasRelaxedPrefixTextFault text) r
reads_relaxed = answers_by relaxed

-- a text writes one prefix
pub IsPrefixText-one : (text : List ℕ) (p q : FamilyPrefix) → IsPrefixText text p → IsPrefixText text q → p ≡ q
IsPrefixText-one = text_one strict

-- and has no fault then
pub IsPrefixText-no_fault : (text : List ℕ) (p : FamilyPrefix) (e : ParsePrefixError) → IsPrefixText text p
    → HasPrefixTextFault text e → ⊥
IsPrefixText-no_fault = text_apart strict

-- and else one fault
pub HasPrefixTextFault-one : (text : List ℕ) (d e : ParsePrefixError) → HasPrefixTextFault text d
    → HasPrefixTextFault text e → d ≡ e
HasPrefixTextFault-one = fault_one strict

-- what is printed of a prefix writes it
pub IsPrefixText-prefix_text : (p : FamilyPrefix) → IsFamilyPrefix p → IsPrefixText (prefix_text p) p
IsPrefixText-prefix_text p h = grind (arith, IsIpText-ip_text, IsNumberText-decimal, width_small, ip_bytes, no_slash)

-- what is found by the strict reader is the answer, and what is printed is read back
pub reads_prefix : (text : List ℕ) (r : Result FamilyPrefix ParsePrefixError)
    → MatchResult r (IsPrefixText text) (HasPrefixTextFault text) → ReadsPrefix text r
reads_prefix text r found =
    let exact = answers_by strict text r found in
    record { exact = exact; reads_back = λ p h is. exact.each_value p (rw is (IsPrefixText-prefix_text p h)) }
