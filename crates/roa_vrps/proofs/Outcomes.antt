-- Outcomes of readers: a value or a fault.
use Rattle.roa_vrps.proofs.Common.{Bool, Entry, Err, Found, IsFoundIn, List, MatchOrMemory, MatchResult, Memory, Ok}
use Rattle.roa_vrps.proofs.Common.{OrMemory, Refused, Result, arith, refl, sym, vrps_of, [], ◌∙◌, ◌≡◌, ◌⊎◌}
use Rattle.rpki_text.proofs.TextListLemmas.{AnswersOrMemory-from_found}
use Rattle.rpki_text.specs.Reading.{AnswersOrMemory}

-- Has holds of at most one value, Fails of at most one fault, and not both hold
pub record IsExact {A E : Type 0} (Has : A → Type 0) (Fails : E → Type 0) : Type 0 where
  pub one : (a b : A) → Has a → Has b → a ≡ b
  pub apart : (a : A) (e : E) → Has a → Fails e → ⊥
  pub fault_one : (d e : E) → Fails d → Fails e → d ≡ e

-- the outcome of t, where an exact step finds t or a fault
pub exact_with : {T A E : Type 0} {Is : T → Type 0} {Has : T → A → Type 0} {Wrong : E → Type 0}
    {Fails : T → E → Type 0} → IsExact Is Wrong → ((t : T) → IsExact (Has t) (Fails t))
    → IsExact (λ a. (t : T) × Is t × Has t a) (λ e. Wrong e ⊎ ((t : T) × Is t × Fails t e))
exact_with {T} first each = record {
  one = λ a b h k. (each k.0).one a b (rw (first.one h.0 k.0 h.1 k.1) at h.2) k.2;
  apart = λ a e h wrong. grind (arith, first.apart, first.one, λ (t : T). (each t).apart a e);
  fault_one = λ d e h k. grind (arith, first.apart, first.fault_one, first.one, λ (t : T). (each t).fault_one d e);
}

-- the outcome of the only t
pub exact_of : {T A E : Type 0} {Is : T → Type 0} {Has : T → A → Type 0} {Fails : T → E → Type 0}
    → ((s t : T) → Is s → Is t → s ≡ t) → ((t : T) → IsExact (Has t) (Fails t))
    → IsExact (λ a. (t : T) × Is t × Has t a) (λ e. (t : T) × Is t × Fails t e)
exact_of same each = record {
  one = λ a b h k. (each k.0).one a b (rw (same h.0 k.0 h.1 k.1) at h.2) k.2;
  apart = λ a e h k. (each k.0).apart a e (rw (same h.0 k.0 h.1 k.1) at h.2) k.2;
  fault_one = λ d e h k. (each k.0).fault_one d e (rw (same h.0 k.0 h.1 k.1) at h.2) k.2;
}

-- the value f makes of another, and the fault g makes of another
pub exact_map : {A B E : Type 0} {Has : A → Type 0} {Fails : E → Type 0} (f : A → B) → IsExact Has Fails
    → IsExact (λ b. (a : A) × Has a × (b ≡ f a)) Fails
exact_map f exact = record {
  one = λ b c h k. rw (h.2, k.2, exact.one h.0 k.0 h.1 k.1) refl;
  apart = λ b e h wrong. exact.apart h.0 e h.1 wrong;
  fault_one = exact.fault_one;
}

pub exact_fault : {A E F : Type 0} {Has : A → Type 0} {Fails : E → Type 0} (g : E → F) → IsExact Has Fails
    → IsExact Has (λ f. (e : E) × Fails e × (f ≡ g e))
exact_fault g exact = record {
  one = exact.one;
  apart = λ a f h wrong. exact.apart a wrong.0 h wrong.1;
  fault_one = λ d f h k. rw (h.2, k.2, exact.fault_one h.0 k.0 h.1 k.1) refl;
}

-- a value beside v
pub exact_beside : {V A E : Type 0} {Has : A → Type 0} {Fails : E → Type 0} (v : V) → IsExact Has Fails
    → IsExact (λ (x : V × A). (x.0 ≡ v) × Has x.1) Fails
exact_beside v exact = record {
  one = λ x y h k. let same = exact.one x.1 y.1 h.1 k.1 in grind (arith, same, h.0, k.0);
  apart = λ x e h wrong. exact.apart x.1 e h.1 wrong;
  fault_one = exact.fault_one;
}

-- no elements have no values
pub exact_none : {A E : Type 0} → IsExact {A = List A} {E = E} (λ values. values ≡ []) (λ e. ⊥)
exact_none = record { one = λ a b h k. h ∙ sym k; apart = λ a e h wrong. wrong; fault_one = λ d e h k. absurd h }

-- what is found decides the answer
pub answers : {A V E : Type 0} {Has : A → Type 0} {Fails : E → Type 0} → IsExact Has Fails → (May : Type 0)
    (view : V → A) (r : Result V (OrMemory E)) → MatchResult r (λ v. Has (view v)) (λ e. MatchOrMemory e Fails May)
    → AnswersOrMemory view Has Fails r
answers exact May view r found =
    AnswersOrMemory-from_found view _ _ exact.one exact.apart exact.fault_one r (grind arith)

-- what is found is in other entries
pub found_as : {A : Type 0} {asked : Bool} {Are Be : List Entry → Type 0} {found : Found A}
    → ((entries : List Entry) → Are entries → found.vrps.items ≡ vrps_of entries → Be entries)
    → IsFoundIn asked Are found → IsFoundIn asked Be found
found_as be h = record {
  entries = h.entries;
  entries_are = be h.entries h.entries_are h.vrps_are;
  vrps_are = h.vrps_are;
  read = h.read;
}

-- so a result for one text is a result for another
pub result_as : {A E : Type 0} {Are Be : List Entry → Type 0} {Fails Wrong : E → Type 0} {May Can : Type 0}
    (asked : Bool) (r : Result (Found A) (OrMemory E)) → ((entries : List Entry) → Are entries → Be entries)
    → ((e : E) → Fails e → Wrong e) → (May → Can)
    → MatchResult r (IsFoundIn asked Are) (λ e. MatchOrMemory e Fails May)
    → MatchResult r (IsFoundIn asked Be) (λ e. MatchOrMemory e Wrong Can)
result_as asked (Ok found) be wrong can h = found_as (λ entries are _. be entries are) h
result_as asked (Err (Refused e)) be wrong can h = wrong e h
result_as asked (Err (Memory e)) be wrong can h = can h
