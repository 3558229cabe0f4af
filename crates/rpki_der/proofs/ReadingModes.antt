-- Readings by the mode: leniently what is read without one, and strictly that or NotCanonical.
use Rattle.rpki_der.proofs.Common.{Bool, Err, List, Ok, Option, Result, [], arith, cond, false, inl, refl, suc, true}
use Rattle.rpki_der.proofs.Common.{zero, ℕ, ◌%◌, ◌^◌, ◌∷◌, ◌≡◌, eq-eqb, eqb-true, Bits, IsBitContent, IsBitString}
use Rattle.rpki_der.proofs.Common.{IsPadded, NoFront, Refines, Where, last_octet, Gives, IsModal, IsReading, Tightens}
use Rattle.rpki_der.proofs.Common.{bit_string_at, bit_string_by, bits, bits_by, each_from, is_padded, optional, passing}
use Rattle.rpki_der.proofs.Common.{refined, ◌>>=◌, Lenient, NotCanonicalInOr, NotCanonicalOr, Takes, content_octets}
use Rattle.rpki_der.proofs.Common.{is_strict, is_strict_in, Cursor, DerError, NotCanonical, Grammar, Reading}
use Rattle.std.specs.Prelude.{◌⊎◌}
use Rattle.rpki_der.specs.declared.content.Content.{Content}
use Rattle.rpki_der.proofs.ContentReadings.{bits_check}
use Rattle.rpki_der.proofs.CursorReadings.{none_by}
use Rattle.rpki_der.proofs.ValueLists.{optional_err}
use Rattle.rpki_der.proofs.ValueReadings.{IsTagged, content_reading, on_bytes, same_reading}
use Rattle.rpki_der.proofs.ReadingSteps.{IsCheck, bind_ok, ok_is, ok_or_err}

-- ---- what is found

-- leniently the same is found
pub same_found : {A : Type 0} (by found : Result A DerError) → Tightens false by found → by ≡ found
same_found by found tight = grind arith

-- what is Ok is found
pub found_is : {A : Type 0} (strict : Bool) (by found : Result A DerError) (x : A) → Tightens strict by found
    → by ≡ Ok x → found ≡ Ok x
found_is strict by found x tight ok = grind (arith, ok_or_err)

-- so leniently the readings are one
pub lenient_is : {X : Type 0} (S : Grammar X) (reading : Reading X) (by : Bool → Reading X) → IsModal S reading by
    → by false ≡ reading
lenient_is S reading by is = λ i bytes. same_found (by false bytes) (reading bytes) (is.tightens false bytes) i

-- ---- steps

-- what is the same in both modes
pub same_tightens : {A : Type 0} (strict : Bool) (found : Result A DerError) → Tightens strict found found
same_tightens strict found = inl refl

module _ {A B : Type 0} (strict : Bool) (by found : Result A DerError) (f g : A → Result B DerError) where
  -- one step after another
  pub bind_tightens : Tightens strict by found → ((x : A) → Tightens strict (f x) (g x))
      → Tightens strict (by >>= f) (found >>= g)
  bind_tightens tight more = grind arith

-- one of two by a condition
pub cond_tightens : {X : Type 0} (strict b : Bool) (p q r s : Result X DerError) → Tightens strict p r
    → Tightens strict q s → Tightens strict (cond b p q) (cond b r s)
cond_tightens strict b p q r s first second = grind arith

-- a test that is made strictly alone
pub passing_tightens : {X : Type 0} (strict : Bool) (test : X → Bool) (x : X)
    → Tightens strict (passing strict test x) (Ok x)
unfolding passing
passing_tightens strict test x = grind arith

-- behind what is found
pub then_passing : {X : Type 0} (strict : Bool) (test : X → Bool) (r : Result X DerError)
    → Tightens strict (r >>= passing strict test) r
then_passing strict test r = grind (arith, passing_tightens)

-- a look at what a reading finds that is the same in both modes
pub looked_tightens : {X Y : Type 0} (strict : Bool) (reading : Reading X) (look check : X → Result Y DerError)
    → ((x : X) → Tightens strict (look x) (check x)) → (bytes : List ℕ)
    → Tightens strict (refined reading look bytes) (refined reading check bytes)
unfolding refined
looked_tightens strict reading look check second bytes = search (bind_tightens, same_tightens)

-- values one after another
pub each_tightens : {S X : Type 0} (strict : Bool) (next : S → X → S) (by reading : S → Reading X)
    → ((state : S) (bytes : List ℕ) → Tightens strict (by state bytes) (reading state bytes))
    → (steps : ℕ) (state : S) (bytes : List ℕ)
    → Tightens strict (each_from next steps by state bytes) (each_from next steps reading state bytes)
unfolding each_from
each_tightens strict next by reading one zero state bytes = grind arith
each_tightens strict next by reading one (suc steps) state [] = inl refl
each_tightens strict next by reading one (suc steps) state (b ∷ bytes) =
    search (bind_tightens, same_tightens, one, each_tightens strict next by reading one steps)

-- ---- what is found strictly

-- what passed
pub passed_is : {X : Type 0} (test : X → Bool) (x y : X) → passing true test x ≡ Ok y → (test x ≡ true) × (x ≡ y)
unfolding passing
passed_is test x y = grind (arith, ok_is)

-- what passes
pub passes : {X : Type 0} (test : X → Bool) (x : X) → test x ≡ true → passing true test x ≡ Ok x
unfolding passing
passes test x e = rw e refl

-- one that doesn't look at the mode
pub plain_modal : {X : Type 0} (G : Grammar X) (reading : Reading X) → IsReading G reading
    → IsModal G reading (λ strict. reading)
plain_modal G reading is = record { tight = is; tightens = λ strict bytes. inl refl }

-- one whose finds pass a test strictly
pub tested_modal : {X : Type 0} (S : Grammar X) (P : X → Type 0) (reading : Reading X) (by : Bool → Reading X)
    (test : X → Bool) → IsModal S reading by → ((x : X) → test x ≡ true → P x) → ((x : X) → P x → test x ≡ true)
    → IsModal (Where S P) reading (λ strict. refined (by strict) (passing strict test))
unfolding refined
tested_modal S P reading by test is says back = record {
  tight = record {
    takes = λ bytes x rest fits e.
        let (y, read, more) = bind_ok (by true bytes) _ (x, rest) e in
        let found = is.tight.takes bytes y.0 y.1 fits read in
        grind (arith, says, ok_is, passed_is, bind_ok);
    again = λ front x rest (g, p). grind (arith, is.tight.again front x rest g, back, passes);
  };
  tightens = λ strict bytes. grind (arith, bind_tightens, passing_tightens, is.tightens strict bytes);
}

-- ---- calls on a cursor

-- a take from a cursor that isn't strict
pub exact_by : {X Y : Type 0} (S : Grammar Y) (reading : Reading Y) (by : Bool → Reading Y) (view : X → Y)
    (old new : Cursor) (result : Result X DerError) → IsModal S reading by
    → Takes view old new result (by (is_strict old)) → Lenient old (Takes view old new result reading)
exact_by S reading by view old new result modal took lenient = grind (arith, lenient_is)

-- one that answers None at the end
pub exact_optional_by : {X Y : Type 0} (S : Grammar Y) (reading : Reading Y) (by : Bool → Reading Y)
    (view : X → Option Y) (old new : Cursor) (result : Result X DerError) → IsModal S reading by
    → Takes view old new result (optional (by (is_strict old)))
    → Lenient old (Takes view old new result (optional reading))
exact_optional_by S reading by view old new result modal took lenient =
    rw (← lenient_is S reading by modal, ← lenient) took

-- a fault of a reading by the mode
pub refused_at : {X : Type 0} (G S : Grammar X) (reading : Reading X) (by : Bool → Reading X) → IsReading G reading
    → IsModal S reading by → (strict : Bool) (bytes : List ℕ) (e : DerError) → by strict bytes ≡ Err e
    → ((strict ≡ true) × (e ≡ NotCanonical)) ⊎ NoFront G bytes
refused_at G S reading by is modal strict bytes e failed = grind (arith, none_by, modal.tightens strict bytes)

-- a take
pub refused_by : {X Y : Type 0} (G S : Grammar Y) (reading : Reading Y) (by : Bool → Reading Y) (view : X → Y)
    (old new : Cursor) (result : Result X DerError) → IsReading G reading → IsModal S reading by
    → Takes view old new result (by (is_strict old)) → NotCanonicalOr G old result
refused_by G S reading by view old new result is modal took = grind (arith, refused_at)

-- a take that answers None at the end
pub refused_optional_by : {X Y : Type 0} (G S : Grammar Y) (reading : Reading Y) (by : Bool → Reading Y)
    (view : X → Option Y) (old new : Cursor) (result : Result X DerError) → IsReading G reading → IsModal S reading by
    → Takes view old new result (optional (by (is_strict old))) → NotCanonicalOr G old result
refused_optional_by G S reading by view old new result is modal took = grind (arith, optional_err, refused_at)

-- a content
pub refused_in : {X Y : Type 0} (C : Grammar Y) (check : List ℕ → Result Y DerError) (by : Result Y DerError)
    (view : X → Y) (value : Content) (result : Result X DerError) → IsCheck (λ _. Unit {0}) C check
    → Tightens (is_strict_in value) by (check (content_octets value)) → Gives view result by
    → NotCanonicalInOr C value result
refused_in C check by view value result is tight gives = grind arith

-- ---- bit strings

-- the test of the unused bits
pub padded_is : (b : Bits) → is_padded b ≡ true → IsPadded b
padded_is b e = eqb-true (last_octet b.octets % 2 ^ b.unused) 0 e

pub is_padded_of : (b : Bits) → IsPadded b → is_padded b ≡ true
is_padded_of b e = eq-eqb (last_octet b.octets % 2 ^ b.unused) 0 e

-- a content
pub padded_check : IsCheck (λ _. Unit {0}) (Where IsBitContent IsPadded) (bits_by true)
unfolding bits_by
padded_check = record {
  takes = λ content b fits e. grind (arith, bits_check, bind_ok, passed_is, padded_is);
  again = λ content b says. grind (arith, bits_check, passes, is_padded_of);
}

pub bits_tighten : (strict : Bool) (content : List ℕ) → Tightens strict (bits_by strict content) (bits content)
unfolding bits_by
bits_tighten strict content = then_passing strict is_padded (bits content)

-- a BIT STRING
pub bit_string_modal : IsModal (Where IsBitString IsPadded) bit_string_at bit_string_by
unfolding bits_by refined
bit_string_modal = record {
  tight =
      same_reading (Refines (IsTagged 3) (Where IsBitContent IsPadded)) (Where IsBitString IsPadded) _
      (λ bytes b fits is. grind arith) (λ bytes b is. grind arith)
      (content_reading 3 _ (bits_by true) (on_bytes padded_check));
  tightens = λ strict bytes. search (looked_tightens, bits_tighten);
}
