-- The reading of resources finds what the grammar says, and nothing else.
use Rattle.rpki_chain.proofs.Common.{Bool, List, Result, [], arith, get_or, inl, inr, length, refl, true, ℕ, ◌<◌, ◌∷◌}
use Rattle.rpki_chain.proofs.Common.{◌≡◌, ◌≢◌, ◌≤◌, SaysByTag, Covers-nil, Covers-head, IsBytes, IsNothing, IsSequence}
use Rattle.rpki_chain.proofs.Common.{IsTlv, Refines, IsModal, IsReading, Tightens, nothing, value_at, DerError}
use Rattle.rpki_chain.proofs.Common.{IsChoiceOf, choice_at, choice_in, inherited_in, listed_in, some_in, IsRunsOfBlocks}
use Rattle.rpki_chain.proofs.Common.{Runs, ResourcesChoice, Blocks, Inherit, Missing}
use Rattle.rpki_der.proofs.ContentReadings.{nothing_check}
use Rattle.rpki_der.proofs.ReadingModes.{bind_tightens, looked_tightens}
use Rattle.rpki_der.proofs.ValueReadings.{same_reading}
use Rattle.rpki_der.proofs.ReadingSteps.{IsCheck, bind_ok}
use Rattle.rpki_der.proofs.SequenceModes.{by_tag_tightens}
use Rattle.rpki_der.proofs.SequenceReadings.{by_tag_reading, mapped_check}

-- blocks of which the first has a number have numbers
pub has_numbers : {B : Type 0} (f : B → ℕ × ℕ) (xs : List B) (set : Runs) → xs ≢ []
    → ((d : B) → 0 < length xs → (f (get_or xs 0 d)).0 ≤ (f (get_or xs 0 d)).1) → IsRunsOfBlocks f xs set → set ≢ []
has_numbers f [] set some ordered is none = some refl
has_numbers f (y ∷ ys) set some ordered is none =
    grind (arith, Covers-head f y ys (f y).0, Covers-nil (λ b. b) (f y).0, ordered y, (is.members (f y).0).1)

module _ {X : Type 0} (Says : List ℕ → List X → Type 0) (values : List ℕ → Result (List X) DerError)
    (check : IsCheck IsBytes Says values) where
  -- a content that says inherited resources, and one that says listed ones
  abbrev SaysInherit : List ℕ → ResourcesChoice (List X) → Type 0
  SaysInherit content choice = (u : Unit {0}) × IsNothing content u × (choice ≡ Inherit)

  abbrev SaysSome : List ℕ → List X → Type 0
  SaysSome content xs = Says content xs × (xs ≢ [])

  abbrev SaysListed : List ℕ → ResourcesChoice (List X) → Type 0
  SaysListed content choice = (xs : List X) × SaysSome content xs × (choice ≡ Blocks xs)

  -- one value at least
  some_check : IsCheck IsBytes SaysSome (some_in values)
  some_check = grind (arith, bind_ok)

  nothing_is : IsCheck IsBytes IsNothing nothing
  nothing_is = record { takes = λ content u fits e. nothing_check.takes content u tt e; again = nothing_check.again }

  from : (bytes : List ℕ) (choice : ResourcesChoice (List X)) → IsChoiceOf (Refines IsSequence Says) bytes choice
      → Refines IsTlv (SaysByTag 5 SaysInherit SaysListed) bytes choice
  from bytes Missing is = absurd is
  from bytes Inherit is = (record { tag = 5; content = [] }, is, inl (refl, (tt, refl, refl)))
  from bytes (Blocks xs) ((content, is, says), some) =
      (record { tag = 48; content = content }, is, inr (refl, (xs, (says, some), refl)))

  -- resources whose blocks are the values of a content
  pub choice_reading : IsReading (IsChoiceOf (Refines IsSequence Says)) (choice_at values)
  choice_reading =
      same_reading (Refines IsTlv (SaysByTag 5 SaysInherit SaysListed)) (IsChoiceOf (Refines IsSequence Says))
      (choice_at values) (λ bytes choice fits found. grind arith) from
      (by_tag_reading 5 SaysInherit SaysListed inherited_in (listed_in values) (λ e. omega arith)
      (mapped_check IsBytes IsNothing nothing (λ u. Inherit) nothing_is)
      (mapped_check IsBytes SaysSome (some_in values) Blocks some_check))

-- the same by the mode
pub choice_modal : {X : Type 0} (Says : List ℕ → List X → Type 0) (values : List ℕ → Result (List X) DerError)
    (by : Bool → List ℕ → Result (List X) DerError) → IsCheck IsBytes Says (by true)
    → ((strict : Bool) (content : List ℕ) → Tightens strict (by strict content) (values content))
    → IsModal (IsChoiceOf (Refines IsSequence Says)) (choice_at values) (λ strict. choice_at (by strict))
choice_modal Says values by check tight = record {
  tight = choice_reading Says (by true) check;
  tightens = λ strict bytes. looked_tightens strict value_at (choice_in (by strict)) (choice_in values) (λ v.
      by_tag_tightens strict 5 inherited_in (listed_in (by strict)) inherited_in (listed_in values)
      (λ content. inl refl) (λ content. grind (arith, bind_tightens, tight strict content)) v) bytes;
}
