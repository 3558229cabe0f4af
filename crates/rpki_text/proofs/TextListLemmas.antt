-- Texts of lists: their elements one by one, and their one list of values or first fault.
use Rattle.rpki_text.proofs.Common.{map, map-append, List, MatchResult, Result, [], ap, arith, drop, eqb, get_or}
use Rattle.rpki_text.proofs.Common.{length, refl, sym, take, ℕ, ◌++◌, ◌+◌, ◌<◌, ◌∙◌, ◌∷◌, ◌≡◌, lt-ltb, take-append-drop}
use Rattle.rpki_text.proofs.Common.{slice_split, trim, HasFirstFault, HaveValues, comma, elements, kept}
use Rattle.rpki_text.proofs.Common.{AnswersOrMemory}
use Rattle.std.proofs.Common.{inl, inr, ◌⊎◌}
use Rattle.std.proofs.lemmas.List.{drop_more}
use Rattle.std.proofs.lemmas.List.Elements.{filter-append}
use Rattle.std.specs.Prelude.{nat_lt}
use Rattle.rpki_text.specs.declared.memory.OrMemory.{OrMemory}
use Rattle.rpki_text.specs.Memory.{IfRefused}

-- an answer that is right decides a reader that may want memory, where there is one value or one fault at most
module _ {A V E : Type 0} (view : V → A) (Has : A → Type 0) (Fails : E → Type 0)
    (one : (a b : A) → Has a → Has b → a ≡ b) (apart : (a : A) (e : E) → Has a → Fails e → ⊥)
    (same : (d e : E) → Fails d → Fails e → d ≡ e) where
  pub AnswersOrMemory-from_found : (r : Result V (OrMemory E)) → MatchResult r (λ v. Has (view v)) (IfRefused Fails)
      → AnswersOrMemory view Has Fails r
  AnswersOrMemory-from_found r found = grind (arith)

module _ {A : Type 0} (Has : List ℕ → A → Type 0) where
  -- two lists in a row
  pub HaveValues-append : (texts more : List (List ℕ)) (values others : List A) → HaveValues Has texts values
      → HaveValues Has more others → HaveValues Has (texts ++ more) (values ++ others)
  HaveValues-append [] more values others h k = grind (arith)
  HaveValues-append (t ∷ texts) more values others h k =
      grind (arith, λ (vs : List A). HaveValues-append texts more vs others)

  -- texts have one list of values, if each has one value
  pub HaveValues-one : ((t : List ℕ) (a b : A) → Has t a → Has t b → a ≡ b)
      → (texts : List (List ℕ)) (values others : List A) → HaveValues Has texts values → HaveValues Has texts others
      → values ≡ others
  HaveValues-one one [] values others h k = grind (arith)
  HaveValues-one one (t ∷ texts) values others h k = grind (arith, one t, HaveValues-one one texts)

  module _ {E : Type 0} (Fails : List ℕ → E → Type 0)
      (apart : (t : List ℕ) (a : A) (e : E) → Has t a → Fails t e → ⊥) where
    -- the same by recursion: a fault behind texts that have values
    abbrev FaultBehind : List (List ℕ) → E → Type 0
    FaultBehind [] e = ⊥
    FaultBehind (t ∷ texts) e = Fails t e ⊎ (((a : A) × Has t a) × FaultBehind texts e)

    fault_behind : (front : List (List ℕ)) (bad : List ℕ) (rest : List (List ℕ)) (values : List A) (e : E)
        → HaveValues Has front values → Fails bad e → FaultBehind (front ++ bad ∷ rest) e
    fault_behind [] bad rest values e h f = inl f
    fault_behind (t ∷ front) bad rest [] e h f = absurd h
    fault_behind (t ∷ front) bad rest (v ∷ values) e h f = inr ((v, h.0), fault_behind front bad rest values e h.1 f)

    by_recursion : (texts : List (List ℕ)) (e : E) → HasFirstFault Has Fails texts e → FaultBehind texts e
    by_recursion texts e f = rw f.split (fault_behind f.front f.bad f.rest f.values e f.before f.fault)

    -- not all have values where one has a fault
    behind_apart : (texts : List (List ℕ)) (values : List A) (e : E) → HaveValues Has texts values
        → FaultBehind texts e → ⊥
    behind_apart [] values e h f = f
    behind_apart (t ∷ texts) values e h f = grind (arith, apart t, λ (vs : List A). behind_apart texts vs e)

    pub first_fault_apart : (texts : List (List ℕ)) (values : List A) (e : E) → HaveValues Has texts values
        → HasFirstFault Has Fails texts e → ⊥
    first_fault_apart texts values e h f = behind_apart texts values e h (by_recursion texts e f)

    -- and one is the first
    pub same_first_fault : ((t : List ℕ) (d e : E) → Fails t d → Fails t e → d ≡ e) → (texts : List (List ℕ)) (d e : E)
        → HasFirstFault Has Fails texts d → HasFirstFault Has Fails texts e → d ≡ e
    same_first_fault same texts d e f g = one texts (by_recursion texts d f) (by_recursion texts e g)
      where
        one : (texts : List (List ℕ)) → FaultBehind texts d → FaultBehind texts e → d ≡ e
        one [] f g = absurd f
        one (t ∷ texts) f g = grind (arith, same t d e, apart t, one texts)

-- what is kept of two lists of parts
pub kept-append : (xs ys : List (List ℕ)) → kept (xs ++ ys) ≡ kept xs ++ kept ys
kept-append xs ys =
    rw (map-append trim xs ys) (filter-append (λ part. nat_lt 0 (length part)) (map trim xs) (map trim ys))

-- a part is kept as what is left of it without white space, if something is
pub kept_first : (part text : List ℕ) (parts : List (List ℕ)) → trim part ≡ text → 0 < length text
    → kept (part ∷ parts) ≡ text ∷ kept parts
kept_first part text parts trimmed some = rw (trimmed, lt-ltb 0 (length text) some) refl

-- a list, cut round one of its places
pub parts_at : {X : Type 0} → (parts : List X) (i : ℕ) (d : X) → i < length parts
    → parts ≡ take i parts ++ get_or parts i d ∷ drop (i + 1) parts
parts_at parts i d l = sym (take-append-drop i parts) ∙ ap (λ t. take i parts ++ t) (drop_more parts i d l)

-- what is kept of all parts, round one that is kept
pub kept_at : (parts : List (List ℕ)) (i : ℕ) (part : List ℕ) → i < length parts → part ≡ get_or parts i part
    → (length (trim part) ≡ 0 → ⊥) → kept parts ≡ kept (take i parts) ++ trim part ∷ kept (drop (i + 1) parts)
kept_at parts i part l is some = grind (arith, kept-append, kept_first, parts_at parts i part)

-- the elements, as defined
pub elements_are : (text : List ℕ) → elements text ≡ kept (slice_split (λ b. eqb b comma) text)
unfolding elements
elements_are text = refl

-- a part's fault is the list's first one, where the parts before it have values
pub fault_at : {A E : Type 0} (Has : List ℕ → A → Type 0) (Fails : List ℕ → E → Type 0) (text : List ℕ) (i : ℕ)
    (part : List ℕ) (values : List A) (e : E)
    → (i < length (slice_split (λ b. eqb b comma) text)) × (part ≡ get_or (slice_split (λ b. eqb b comma) text) i part)
    → (length (trim part) ≡ 0 → ⊥) → HaveValues Has (kept (take i (slice_split (λ b. eqb b comma) text))) values
    → Fails (trim part) e → HasFirstFault Has Fails (elements text) e
fault_at Has Fails text i part values e at some before fault = record {
  front = kept (take i (slice_split (λ b. eqb b comma) text));
  bad = trim part;
  rest = kept (drop (i + 1) (slice_split (λ b. eqb b comma) text));
  split = elements_are text ∙ kept_at (slice_split (λ b. eqb b comma) text) i part at.0 at.1 some;
  values = values;
  before = before;
  fault = fault;
}

-- one more part that is kept
pub values_more : {A : Type 0} (Has : List ℕ → A → Type 0) (parts : List (List ℕ)) (part : List ℕ) (values : List A)
    (value : A) → HaveValues Has (kept parts) values → (length (trim part) ≡ 0 → ⊥) → Has (trim part) value
    → HaveValues Has (kept (parts ++ part ∷ [])) (values ++ value ∷ [])
values_more Has parts part values value h some here = grind (arith, HaveValues-append, kept-append, kept_first)

-- what an element's reader says, in words that follow from it
module _ {A E : Type 0} (Gives Has : List ℕ → A → Type 0) (Refuses Fails : List ℕ → E → Type 0)
    (has : (t : List ℕ) (a : A) → Gives t a → Has t a) (fails : (t : List ℕ) (e : E) → Refuses t e → Fails t e) where
  -- of all values
  pub HaveValues-weaker : (texts : List (List ℕ)) (values : List A) → HaveValues Gives texts values
      → HaveValues Has texts values
  HaveValues-weaker [] values h = grind (arith)
  HaveValues-weaker (t ∷ texts) values h = grind (arith, has t, HaveValues-weaker texts)

  -- and of the answer
  pub found_weaker : {V : Type 0} (view : V → List A) (texts : List (List ℕ)) (r : Result V (OrMemory E))
      → MatchResult r (λ v. HaveValues Gives texts (view v)) (IfRefused (HasFirstFault Gives Refuses texts))
      → MatchResult r (λ v. HaveValues Has texts (view v)) (IfRefused (HasFirstFault Has Fails texts))
  found_weaker view texts r h = grind (arith, fails, HaveValues-weaker)
