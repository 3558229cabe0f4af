-- Resources in DER (RFC 3779, 2.2.3.4 and 3.2.3.2), for any blocks.
use Rattle.std.specs.Prelude.{◌≢◌, ℕ, List, [], Result, Ok}
use Rattle.rpki_der.specs.declared.error.DerError.{DerError}
use Rattle.rpki_der.specs.Der.{IsNull, Refines, Tlv, null_value}
use Rattle.rpki_der.specs.Reading.{◌>>=◌, nothing, refined, value_at}
use Rattle.rpki_der.specs.SequenceReading.{by_tag, some_in}
use Rattle.rpki_chain.specs.declared.choice.ResourcesChoice.{ResourcesChoice}
use Rattle.rpki_chain.specs.declared.choice.ResourcesChoice.TheVariants.{Missing, Inherit, Blocks}
use Rattle.rpki_chain.specs.Choices.{ListsBy}

-- a NULL for inherited resources, or else a SEQUENCE of S with at least one value (RFC 3779, 2.2.3.4 to 2.2.3.6 and
-- 3.2.3.2 to 3.2.3.4)
abbrev pub IsChoiceOf : {X : Type 0} → (List ℕ → List X → Type 0) → List ℕ → ResourcesChoice (List X) → Type 0
IsChoiceOf S bytes Missing = ⊥
IsChoiceOf S bytes Inherit = IsNull bytes tt
IsChoiceOf S bytes (Blocks xs) = S bytes xs × (xs ≢ [])

-- the resources of IsChoiceOf, with the rule C between the values of the SEQUENCE and what is listed
abbrev pub IsResourcesOf : {X Y : Type 0} → (List ℕ → List X → Type 0) → (List X → Y → Type 0) → List ℕ
    → ResourcesChoice Y → Type 0
IsResourcesOf S C = Refines (IsChoiceOf S) (ListsBy C)

-- ---- encoding: no octets for missing resources

-- the octets of resources: none for missing ones, a NULL for inherited ones, or those of what is listed
abbrev pub choice_octets : {Y : Type 0} → (Y → List ℕ) → ResourcesChoice Y → List ℕ
choice_octets octets Missing = []
choice_octets octets Inherit = null_value
choice_octets octets (Blocks y) = octets y

-- ---- decoding, from left to right, with the first fault

-- inherited resources, if the content of the NULL is empty
abbrev pub inherited_in : {X : Type 0} → List ℕ → Result (ResourcesChoice X) DerError
inherited_in content = nothing content >>= λ u. Ok Inherit

-- the resources that list the values of a content, of which there must be at least one
abbrev pub listed_in : {X : Type 0} → (List ℕ → Result (List X) DerError) → List ℕ
    → Result (ResourcesChoice (List X)) DerError
listed_in values content = some_in values content >>= λ xs. Ok (Blocks xs)

-- the resources of a value: a NULL or a SEQUENCE
abbrev pub choice_in : {X : Type 0} → (List ℕ → Result (List X) DerError) → Tlv
    → Result (ResourcesChoice (List X)) DerError
choice_in values = by_tag 5 inherited_in (listed_in values)

-- resources at the front, whose blocks are the values of a content
abbrev pub choice_at : {X : Type 0} → (List ℕ → Result (List X) DerError) → List ℕ
    → Result (ResourcesChoice (List X) × List ℕ) DerError
choice_at values = refined value_at (choice_in values)
