-- Readings from readings: of one of two tags, of two values, of values that are passed over, and of sequences.
use Rattle.rpki_der.proofs.Common.{List, Ok, Result, [], arith, ℕ, ◌≡◌, ◌≢◌, eq-eqb, eqb-true, ne_eqb, append-nil}
use Rattle.rpki_der.proofs.Common.{nil_from_length, ◌↔◌, EachFrom, IsBytes, IsTlv, IsU32, OneFront, Refines, IsReading}
use Rattle.rpki_der.proofs.Common.{ended, refined, u32_at, value_at, ◌>>=◌, DerError, Encloses, IsSequenceFrom}
use Rattle.rpki_der.proofs.Common.{SaysByTag, SaysPair, Skips, by_tag, enclosed_at, only, pair_in, sequence_from}
use Rattle.rpki_der.proofs.Common.{skipping, values_from, Grammar, Reading}
use Rattle.rpki_der.proofs.ValueProofs.{HasOctets, each_again, each_takes, fits_content, fits_rest, one_front}
use Rattle.rpki_der.proofs.ValueProofs.{refined_reading, content_reading, value_reading, u32_reading, IsCheck, bind_ok}
use Rattle.rpki_der.proofs.ValueProofs.{ok_is}

-- ---- passed over

-- a value that is passed over is one of the grammar
pub skips_reading : {X : Type 0} (G : Grammar X) (reading : Reading X) → IsReading G reading
    → IsReading (Skips G) (skipping reading)
skips_reading G reading is =
    refined_reading G _ (λ x. Unit {0}) reading (λ x. Ok tt) is (λ front x g fits. tt) (grind arith)

pub number_skipped : IsReading (Skips IsU32) (skipping u32_at)
number_skipped = skips_reading IsU32 u32_at u32_reading

-- ---- contents

-- what a rule finds, under another name
pub same_check : {X Y : Type 0} (Fits : X → Type 0) (C D : X → Y → Type 0) (check : X → Result Y DerError)
    → ((x : X) (y : Y) → C x y ↔ D x y) → IsCheck Fits C check → IsCheck Fits D check
same_check Fits C D check same is = grind (arith, same)

-- what a content says, under another name
pub mapped_check : {W X Y : Type 0} (Fits : W → Type 0) (C : W → X → Type 0) (check : W → Result X DerError) (f : X → Y)
    → IsCheck Fits C check → IsCheck Fits (λ w y. (x : X) × C w x × (y ≡ f x)) (λ w. check w >>= λ x. Ok (f x))
mapped_check Fits C check f is = grind (arith, bind_ok, ok_is)

-- ---- one of two tags

-- a value of a tag, or a SEQUENCE, each by its rule for the content
pub by_tag_reading : {X : Type 0} (tag : ℕ) (One Two : Grammar X) (one two : List ℕ → Result X DerError) → tag ≢ 48
    → IsCheck IsBytes One one → IsCheck IsBytes Two two
    → IsReading (Refines IsTlv (SaysByTag tag One Two)) (refined value_at (by_tag tag one two))
unfolding by_tag
by_tag_reading tag One Two one two apart is also =
    refined_reading IsTlv _ (λ v. IsBytes v.content) value_at _ value_reading
    (λ front v h. fits_content front v.tag v.content h) (grind (arith, eq-eqb, eqb-true, ne_eqb))

-- ---- one value in a content, and two

-- at the end nothing is left
pub ended_is : (bytes : List ℕ) (u : Unit {0}) → ended bytes ≡ Ok u → bytes ≡ []
ended_is bytes u e = grind (arith, eqb-true, nil_from_length)

-- a value that encloses one
pub enclosed_reading : {X : Type 0} (tag : ℕ) (G : Grammar X) (reading : Reading X) → IsReading G reading
    → IsReading (Encloses tag G) (enclosed_at tag reading)
unfolding only
enclosed_reading tag G reading is = content_reading tag G _ (record {
  takes = λ content x fits e.
      let ((y, rest), read, more) = bind_ok (reading content) _ x e in
      let found = is.takes content y rest fits read in
      grind (arith, append-nil, ended_is, ok_is, bind_ok);
  again = λ content x says. grind (arith, append-nil, is.again content x [] says);
})

-- two values say what the check finds of them
pub pair_check : {X Y : Type 0} (G : Grammar X) (C : X → X → Y → Type 0) (reading : Reading X)
    (check : X → X → Result Y DerError) → IsReading G reading
    → ((first second : X) (y : Y) → check first second ≡ Ok y → C first second y)
    → ((first second : X) (y : Y) → C first second y → check first second ≡ Ok y)
    → IsCheck IsBytes (SaysPair G C) (pair_in reading check)
unfolding pair_in
pair_check G C reading check is says back = record {
  takes = λ content y fits e.
      let ((a, behind), read, more) = bind_ok (reading content) _ y e in
      let ((b, end), also, checked) = bind_ok (reading behind) _ y more in
      let first = is.takes content a behind fits read in
      let second = is.takes behind b end (fits_rest G content a behind first fits) also in
      grind (arith, append-nil, ended_is, says);
  again = λ content y (a, b, (rest, first, second), c).
      grind (arith, append-nil, is.again _ a rest first.1, is.again rest b [] second, back);
}

-- ---- sequences

-- all values of a content
pub values_check : {S X : Type 0} (next : S → X → S) (G : S → Grammar X) (reading : S → Reading X)
    → ((state : S) → IsReading (G state) (reading state)) → ((state : S) → HasOctets (G state)) → (state : S)
    → IsCheck IsBytes (EachFrom next G state) (values_from next reading state)
unfolding values_from
values_check next G reading is has state = grind (arith, each_again, each_takes)

-- a SEQUENCE of values
pub sequence_reading : {S X : Type 0} (next : S → X → S) (G : S → Grammar X) (reading : S → Reading X)
    → ((state : S) → IsReading (G state) (reading state)) → ((state : S) → HasOctets (G state)) → (state : S)
    → IsReading (IsSequenceFrom next G state) (sequence_from next reading state)
sequence_reading next G reading is has state =
    content_reading 48 (EachFrom next G state) _ (values_check next G reading is has state)

-- ---- what values say

-- octets begin with at most one thing that is said, where a value says one thing at most
pub one_front_said : {X Y : Type 0} (G : Grammar X) (C : X → Y → Type 0) (reading : Reading X) → IsReading G reading
    → ((x : X) (a b : Y) → C x a → C x b → a ≡ b) → OneFront (Refines G C)
one_front_said G C reading is one a b x y r s (u, grammar, says) (v, also, tells) same =
    grind (arith, one_front G reading is a b u v r s grammar also same, one v x y)
