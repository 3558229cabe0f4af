-- The octets at which a fault of DER is found, with any octets after it.
use Rattle.std.specs.Prelude.{◌≡◌, ℕ, List, [], ◌∷◌, Result, Ok}
use Rattle.rpki_der.specs.declared.error.DerError.{DerError}
use Rattle.rpki_der.specs.Reading.{tagged_at}

-- reading finds two values first, and C holds for them
abbrev pub BeginsWithTwo : {X : Type 0} → (List ℕ → Result (X × List ℕ) DerError) → (X → X → Type 0) → List ℕ → Type 0
BeginsWithTwo {X} reading C bytes =
    (first second : X × List ℕ) × (reading bytes ≡ Ok first) × (reading first.1 ≡ Ok second) × C first.0 second.0

-- the octets begin with a value of the tag, and P holds for its content
abbrev pub BeginsWithValue : ℕ → (List ℕ → Type 0) → List ℕ → Type 0
BeginsWithValue tag P bytes = (value : List ℕ × List ℕ) × (tagged_at tag bytes ≡ Ok value) × P value.0

-- the octets begin with an empty SEQUENCE
abbrev pub BeginsEmpty : List ℕ → Type 0
BeginsEmpty = BeginsWithValue 48 (λ content. content ≡ [])

-- reading finds these values first, one after another, and rest follows them
abbrev pub BeginsWithAll : {X : Type 0} → (List ℕ → Result (X × List ℕ) DerError) → List ℕ → List X → List ℕ → Type 0
BeginsWithAll reading bytes [] rest = bytes ≡ rest
BeginsWithAll reading bytes (x ∷ xs) rest =
    (behind : List ℕ) × (reading bytes ≡ Ok (x, behind)) × BeginsWithAll reading behind xs rest
