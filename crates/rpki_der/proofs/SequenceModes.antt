-- Readings from readings by the mode, and calls that take memory.
use Rattle.rpki_der.proofs.Common.{Bool, Err, List, Ok, Option, Result, Some, [], arith, length, refl, suc, true, zero}
use Rattle.rpki_der.proofs.Common.{ℕ, ◌++◌, ◌<◌, ◌∷◌, ◌≡◌, ◌↔◌, each, EachFrom, IsBytes, Tlv, IsModal, IsReading}
use Rattle.rpki_der.proofs.Common.{Tightens, each_from, optional, passing, tagged_at, ◌>>=◌, Takes, is_strict, left}
use Rattle.rpki_der.proofs.Common.{Cursor, DerError, OrMemory, Memory, Refused, Encloses, IsSequenceFrom, SaysPair}
use Rattle.rpki_der.proofs.Common.{by_tag, enclosed_at, only, pair_by, pair_in, sequence_from, values_from, values_of}
use Rattle.rpki_der.proofs.Common.{ReadsOrMemory, Grammar, Reading}
use Rattle.rpki_der.proofs.ValueProofs.{content_reading, HasOctets, shorter, bind_tightens, cond_tightens}
use Rattle.rpki_der.proofs.ValueProofs.{each_tightens, found_is, looked_tightens, passed_is, passes, passing_tightens}
use Rattle.rpki_der.proofs.ValueProofs.{same_found, same_tightens, IsCheck, bind_ok, ok_is, ok_or_err}
use Rattle.rpki_der.proofs.SequenceCursors.{optional_back}
use Rattle.rpki_der.proofs.SequenceReadings.{enclosed_reading, pair_check, values_check}

-- ---- by the tag

-- a value of the tag, or a SEQUENCE
pub by_tag_tightens : {X : Type 0} (strict : Bool) (tag : ℕ) (one two first second : List ℕ → Result X DerError)
    → ((content : List ℕ) → Tightens strict (one content) (first content))
    → ((content : List ℕ) → Tightens strict (two content) (second content)) → (v : Tlv)
    → Tightens strict (by_tag tag one two v) (by_tag tag first second v)
unfolding by_tag
by_tag_tightens strict tag one two first second tight also v = grind (arith, cond_tightens)

-- ---- in a content

-- two values that pass a test strictly
module _ {X Y : Type 0} (S : Grammar X) (C : X → X → Y → Type 0) (reading : Reading X)
    (check : X → X → Result Y DerError) (test : X → X → Bool) where
  -- the test may as well be made before the end of the content
  abbrev tested : X → X → Result Y DerError
  tested first second = check first second >>= passing true (λ y. test first second)

  tested_first : (content : List ℕ) (y : Y)
      → (pair_by true reading check test content ≡ Ok y) ↔ (pair_in reading tested content ≡ Ok y)
  unfolding pair_by pair_in passing
  tested_first content y = grind arith

  -- what is read strictly
  pub tested_pair_check : IsReading S reading
      → ((first second : X) (y : Y) → check first second ≡ Ok y → C first second y)
      → ((first second : X) (y : Y) → C first second y → check first second ≡ Ok y)
      → IsCheck IsBytes (SaysPair S (λ first second y. C first second y × (test first second ≡ true)))
      (pair_by true reading check test)
  tested_pair_check is says back =
      let both = pair_check S (λ first second y. C first second y × (test first second ≡ true)) reading tested is
      (λ first second y e. grind (arith, bind_ok, passed_is, says))
      (λ first second y (c, t). grind (arith, passes, back)) in
      record {
        takes = λ content y fits e. both.takes content y fits ((tested_first content y).0 e);
        again = λ content y found. grind (arith, tested_first content y, both.again content y found);
      }

  -- by the mode
  pub tested_pair_tightens : (strict : Bool) (by : Reading X)
      → ((bytes : List ℕ) → Tightens strict (by bytes) (reading bytes)) → (content : List ℕ)
      → Tightens strict (pair_by strict by check test content) (pair_in reading check content)
  unfolding pair_by pair_in
  tested_pair_tightens strict by tight content = search (bind_tightens, tight, passing_tightens, same_tightens)

-- a value that encloses one
pub enclosed_modal : {X : Type 0} (tag : ℕ) (S : Grammar X) (reading : Reading X) (by : Bool → Reading X)
    → IsModal S reading by → IsModal (Encloses tag S) (enclosed_at tag reading) (λ strict. enclosed_at tag (by strict))
unfolding only
enclosed_modal tag S reading by is = record {
  tight = enclosed_reading tag S (by true) is.tight;
  tightens = λ strict bytes. search (looked_tightens, bind_tightens, same_tightens, is.tightens);
}

-- ---- sequences

-- values that don't depend on a state are read from any as from none
each_stateless : {S X : Type 0} (next : S → X → S) (reading : Reading X) (steps : ℕ) (s : S) (bytes : List ℕ)
    → each_from next steps (λ s. reading) s bytes ≡ each steps reading bytes
unfolding each_from
each_stateless next reading zero s bytes = grind arith
each_stateless next reading (suc steps) s [] = refl
each_stateless next reading (suc steps) s (b ∷ bytes) = simp (each_stateless next reading steps)

pub values_stateless : {S X : Type 0} (next : S → X → S) (reading : Reading X) (s : S)
    → values_from next (λ s. reading) s ≡ values_of reading
unfolding values_from
values_stateless next reading s = λ i content. each_stateless next reading (length content) s content i

-- a value that is found strictly has an octet where those have that are found leniently
pub strict_has_octets : {X : Type 0} (G S : Grammar X) (reading : Reading X) (by : Bool → Reading X)
    → IsReading G reading → HasOctets G → IsModal S reading by → HasOctets S
strict_has_octets G S reading by is has modal (b ∷ front) x says = omega arith
strict_has_octets G S reading by is has modal [] x says =
    let read = modal.tight.again [] x [] says in
    absurd (grind (arith, found_is, modal.tightens, read, shorter G has [] x [], is.takes [] x []))

-- all values of a content
pub values_tighten : {S X : Type 0} (strict : Bool) (next : S → X → S) (by reading : S → Reading X)
    → ((state : S) (bytes : List ℕ) → Tightens strict (by state bytes) (reading state bytes))
    → (state : S) (content : List ℕ)
    → Tightens strict (values_from next by state content) (values_from next reading state content)
unfolding values_from
values_tighten strict next by reading tight state content = search (each_tightens)

module _ {S X : Type 0} (next : S → X → S) (G H : S → Grammar X) (reading : S → Reading X) (by : Bool → S → Reading X)
    (is : (state : S) → IsReading (G state) (reading state)) (has : (state : S) → HasOctets (G state))
    (modal : (state : S) → IsModal (H state) (reading state) (λ strict. by strict state)) (state : S) where
  -- strictly
  pub strict_values_check : IsCheck IsBytes (EachFrom next H state) (values_from next (by true) state)
  strict_values_check =
      values_check next H (by true) (λ state. (modal state).tight)
      (λ state. strict_has_octets (G state) (H state) _ _ (is state) (has state) (modal state)) state

  -- a SEQUENCE of values
  pub sequence_modal : IsModal (IsSequenceFrom next H state) (sequence_from next reading state)
      (λ strict. sequence_from next (by strict) state)
  sequence_modal = record {
    tight = content_reading 48 (EachFrom next H state) (values_from next (by true) state) strict_values_check;
    tightens = λ strict. looked_tightens strict (tagged_at 48) _ _
        (values_tighten strict next (by strict) reading (λ state. (modal state).tightens strict) state);
  }

-- ---- calls that take memory

-- a take, by another name of the grammar, which has to be one at the front of the octets alone
pub reads_same : {X Y : Type 0} (G H : Grammar Y) (view : X → Y) (old new : Cursor)
    (result : Result X (OrMemory DerError)) → ((bytes : List ℕ) (y : Y) → G bytes y → H bytes y)
    → ((bytes : List ℕ) (y : Y) (rest : List ℕ) → left old ≡ bytes ++ rest → H bytes y → G bytes y)
    → ReadsOrMemory G view old new result → ReadsOrMemory H view old new result
reads_same G H view old new (Ok x) to from (front, is, split) = (front, to front (view x) is, split)
reads_same G H view old new (Err (Refused e)) to from (none, kept) =
    ((λ y rest (front, is, split). none y rest (front, from front y rest split is, split)), kept)
reads_same G H view old new (Err (Memory e)) to from read = read

-- what is found strictly is found in either mode
pub found_by : {X : Type 0} (S : Grammar X) (reading : Reading X) (by : Bool → Reading X) → IsModal S reading by
    → (strict : Bool) (front : List ℕ) (x : X) (rest : List ℕ) → S front x → by strict (front ++ rest) ≡ Ok (x, rest)
found_by S reading by modal strict front x rest says =
    grind (arith, modal.tightens, same_found, found_is, modal.tight.again front x rest says)

-- so a take in either mode, where such a value stands, gives it
pub value_back_by : {X : Type 0} (S : Grammar X) (reading : Reading X) (by : Bool → Reading X) (old new : Cursor)
    (result : Result X DerError) → IsModal S reading by → Takes (λ x. x) old new result (by (is_strict old))
    → (front rest : List ℕ) (x : X) → S front x → left old ≡ front ++ rest → (result ≡ Ok x) × (left new ≡ rest)
value_back_by S reading by old new result modal took front rest x says at =
    grind (arith, ok_is, ok_or_err, found_by S reading by modal (is_strict old) front x rest says)

-- a take that answers None at the end, of what is found leniently, and strictly of S
pub optional_back_by : {X : Type 0} (G S : Grammar X) (reading : Reading X) (by : Bool → Reading X) (old new : Cursor)
    (result : Result (Option X) DerError) → IsReading G reading → IsModal S reading by
    → Takes (λ x. x) old new result (optional (by (is_strict old))) → (front rest : List ℕ) (x : X) → 0 < length front
    → G front x → (is_strict old ≡ true → S front x) → left old ≡ front ++ rest
    → (result ≡ Ok (Some x)) × (left new ≡ rest)
optional_back_by G S reading by old new result is modal took front rest x some g s at =
    grind (arith, optional_back, modal.tightens, is.again front x rest g, modal.tight.again front x rest)
