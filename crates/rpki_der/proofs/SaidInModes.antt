-- Takes in either mode that answer what is said by what was found. Strictly, that is what is written of the answer.
use Rattle.rpki_der.proofs.Common.{Bool, List, Ok, Result, [], arith, length, true, ℕ, ◌++◌, ◌<◌, ◌^◌, ◌≡◌}
use Rattle.rpki_der.proofs.Common.{length-append, MatchResult, OneFront, Refines, IsModal, IsReading, Lenient, Strict}
use Rattle.rpki_der.proofs.Common.{is_strict, left, Cursor, DerError, IsMemory, OrMemory, Encloses, IsSequenceFrom}
use Rattle.rpki_der.proofs.Common.{enclosed_at, sequence_from, values_of, NotCanonicalOrMemory, ReadsOrMemory}
use Rattle.rpki_der.proofs.Common.{TakesSaidOrMemory, refined, tagged_at}
use Rattle.rpki_der.proofs.ValueProofs.{HasOctets, found_is, lenient_is, refused_at, value_is, ok_is, ok_or_err}
use Rattle.std.specs.Prelude.{IfOk}
use Rattle.rpki_der.specs.Der.{Front, IsTag, Spells, value}
use Rattle.rpki_der.proofs.SequenceCursors.{reads_said_by}
use Rattle.rpki_der.proofs.SequenceModes.{enclosed_modal, found_by, sequence_modal, values_stateless}
use Rattle.rpki_der.proofs.SequenceReadings.{enclosed_reading, one_front_said}

-- Leniently values of G are found, strictly those of S, which are values of G too. A value says one thing at most by C,
-- and what is said strictly is what P holds of; the octets are then those that are written of it.
pub record IsSaidInModes {X Y : Type 0} (G S : List ℕ → Y → Type 0) (C : Y → X → Type 0) (P : X → Type 0)
    (octets : X → List ℕ) (reading : List ℕ → Result (Y × List ℕ) DerError)
    (by : Bool → List ℕ → Result (Y × List ℕ) DerError) : Type 0 where
  pub lenient : IsReading G reading
  pub modal : IsModal S reading by
  pub looser : (bytes : List ℕ) (y : Y) → S bytes y → G bytes y
  pub one : (y : Y) (a b : X) → C y a → C y b → a ≡ b
  pub spelled : (bytes : List ℕ) (y : Y) (x : X) → S bytes y → C y x → Spells P octets bytes x
  pub says : (x : X) → P x → length (octets x) < 2 ^ 64 → Refines S C (octets x) x

-- what is promised of a take
pub record IsTakenInModes {X Y : Type 0} (G : List ℕ → Y → Type 0) (C : Y → X → Type 0) (P : X → Type 0)
    (octets : X → List ℕ) (reading : List ℕ → Result (Y × List ℕ) DerError) (old new : Cursor)
    (result : Result X (OrMemory DerError)) : Type 0 where
  pub exact : Lenient old (TakesSaidOrMemory C old new result reading)
  pub reads : Lenient old (ReadsOrMemory (Refines G C) (λ x. x) old new result)
  pub strict : Strict old (ReadsOrMemory (Spells P octets) (λ x. x) old new result)
  pub refused : NotCanonicalOrMemory (Refines G C) old result
  pub reads_back : (x : X) (rest : List ℕ) → P x → left old ≡ octets x ++ rest
      → MatchResult result (λ read. (read ≡ x) × (left new ≡ rest)) IsMemory
  pub stands : IfOk result (λ x. Front (Refines G C) (left old) x (left new))

module _ {X Y : Type 0} {G S : List ℕ → Y → Type 0} {C : Y → X → Type 0} {P : X → Type 0} {octets : X → List ℕ}
    {reading : List ℕ → Result (Y × List ℕ) DerError} {by : Bool → List ℕ → Result (Y × List ℕ) DerError}
    (is : IsSaidInModes G S C P octets reading by) where
  -- octets begin with at most one thing that is said
  pub one_said : OneFront (Refines G C)
  one_said = one_front_said G C reading is.lenient is.one

  -- what is written, in fewer octets than a length can tell, is a value that says it
  pub written_said : (x : X) → P x → length (octets x) < 2 ^ 64 → Refines G C (octets x) x
  written_said x p short = grind (arith, is.looser, is.says)

  -- so what is written alike is one
  pub said_alike : (a b : X) → P a → P b → length (octets a) < 2 ^ 64 → octets a ≡ octets b → a ≡ b
  said_alike a b p q short same = grind (arith, one_said (octets a) (octets b) a b [] [], written_said)

  -- a take
  pub taken_said : (old new : Cursor) (result : Result X (OrMemory DerError))
      → TakesSaidOrMemory C old new result (by (is_strict old)) → IsTakenInModes G C P octets reading old new result
  taken_said old new result took =
      let few : (x : X) (rest : List ℕ) → left old ≡ octets x ++ rest → length (octets x) < 2 ^ 64 =
      λ x rest same. omega (arith, length-append (octets x) rest, rw same at old.few) in
      record {
        exact = λ lenient. grind (arith, lenient_is S reading by is.modal);
        reads = λ lenient. grind (arith, old.bytes, lenient_is S reading by is.modal, reads_said_by);
        strict = λ strict. grind (arith, old.bytes, few, is.says, reads_said_by, is.modal.tight, is.spelled);
        refused = grind (arith, old.bytes, refused_at);
        reads_back = λ x rest p same.
            let found = found_by S reading by is.modal (is_strict old) (octets x) in
            grind (arith, ok_is, ok_or_err, is.one, found, is.says x p (few x rest same));
        stands = grind (arith, old.bytes, found_is, is.modal.tightens, is.lenient.takes);
      }

  -- what a strict cursor found
  pub strictly_found : (old : Cursor) (y : Y) (rest : List ℕ) → is_strict old ≡ true
      → by (is_strict old) (left old) ≡ Ok (y, rest) → Front S (left old) y rest
  strictly_found old y rest strict read = grind (arith, old.bytes, is.modal.tight.takes)

  -- a value is shorter than one that encloses it
  pub enclosed_said : (tag : ℕ) → IsTag tag
      → IsSaidInModes (Encloses tag G) (Encloses tag S) C P (λ x. value tag (octets x)) (enclosed_at tag reading)
      (λ strict. enclosed_at tag (by strict))
  enclosed_said tag names =
      let lenient = enclosed_reading tag G reading is.lenient in
      let modal = enclosed_modal tag S reading by is.modal in
      grind (arith, is.looser, is.spelled, is.says, length-append, value_is)

-- a SEQUENCE of values that depend on those before them strictly alone
pub ordered_modal : {T X : Type 0} (next : T → X → T) (G : List ℕ → X → Type 0) (S : T → List ℕ → X → Type 0)
    (reading : List ℕ → Result (X × List ℕ) DerError) (by : Bool → T → List ℕ → Result (X × List ℕ) DerError)
    → IsReading G reading → HasOctets G → ((state : T) → IsModal (S state) reading (λ strict. by strict state))
    → (state : T)
    → IsModal (IsSequenceFrom next S state) (refined (tagged_at 48) (values_of reading))
    (λ strict. sequence_from next (by strict) state)
ordered_modal next G S reading by is has modal state =
    rw (← values_stateless next reading state)
    (sequence_modal next (λ state. G) S (λ state. reading) by (λ state. is) (λ state. has) modal state)
