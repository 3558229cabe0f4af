-- Readings that blocks and other values share: values of one of two tags, one or two values in a content, optional
-- values, skipped values, and a SEQUENCE of values (X.690, 8.9 and 8.10). An optional value is present if and only if
-- the next octet is its tag.
use Rattle.std.specs.Prelude.{◌≡◌, ◌⊎◌, ℕ, Bool, false, List, [], ◌∷◌, length, Option, Some, None, Result, Ok, Err}
use Rattle.std.specs.Prelude.{◌==◌, if◌then◌else◌}
use Rattle.rpki_der.specs.declared.error.DerError.{DerError}
use Rattle.rpki_der.specs.declared.error.DerError.TheVariants.{BadTag, EmptyBlocks}
use Rattle.rpki_der.specs.Der.{Tlv, Both, Each, EachFrom, IsSequence, IsValue, Refines}
use Rattle.rpki_der.specs.Reading.{◌>>=◌, each_from, ended, passing, refined, tagged_at}

-- ---- one of two tags

-- a value of the tag whose content denotes x by One, or a SEQUENCE whose content denotes x by Two
abbrev pub SaysByTag : {X : Type 0} → ℕ → (List ℕ → X → Type 0) → (List ℕ → X → Type 0) → Tlv → X → Type 0
SaysByTag tag One Two v x = ((v.tag ≡ tag) × One v.content x) ⊎ ((v.tag ≡ 48) × Two v.content x)

-- the result of one for the content of a value of the tag, or of two for that of a SEQUENCE; another tag is BadTag
unfoldable pub by_tag : {X : Type 0} → ℕ → (List ℕ → Result X DerError) → (List ℕ → Result X DerError) → Tlv
    → Result X DerError
by_tag tag one two v =
    if v.tag == tag then one v.content else
    if v.tag == 48 then two v.content else
    Err BadTag

-- ---- two values in a content

-- the content is two values of G, and nothing else, which denote y by C
abbrev pub SaysPair : {X Y : Type 0} → (List ℕ → X → Type 0) → (X → X → Y → Type 0) → List ℕ → Y → Type 0
SaysPair {X} G C content y = (first : X) × (second : X) × Both G G content first second × C first second y

-- the result of a check of two values, if the content is these values and nothing else; the check is made before the
-- end of the content is checked
unfoldable pub pair_in : {X Y : Type 0} → (List ℕ → Result (X × List ℕ) DerError) → (X → X → Result Y DerError) → List ℕ
    → Result Y DerError
pair_in reading check content = do
  first ← reading content
  second ← reading first.1
  y ← check first.0 second.0
  end ← ended second.1
  Ok y

-- pair_in by the mode: a strict reading also requires that the two values pass a test, which is made after the end of
-- the content is checked
unfoldable pub pair_by : {X Y : Type 0} → Bool → (List ℕ → Result (X × List ℕ) DerError) → (X → X → Result Y DerError)
    → (X → X → Bool) → List ℕ → Result Y DerError
pair_by strict reading check test content = do
  first ← reading content
  second ← reading first.1
  y ← check first.0 second.0
  end ← ended second.1
  passing strict (λ y. test first.0 second.0) y

-- ---- one value in a content

-- a value of the tag whose content is a value of G, and nothing else, as with explicit tags (X.690, 8.14)
abbrev pub Encloses : {X : Type 0} → ℕ → (List ℕ → X → Type 0) → List ℕ → X → Type 0
Encloses tag G = Refines (λ bytes content. IsValue bytes tag content) G

-- the value that reading finds, if the content is this value and nothing else
unfoldable pub only : {X : Type 0} → (List ℕ → Result (X × List ℕ) DerError) → List ℕ → Result X DerError
only reading content = do
  x ← reading content
  end ← ended x.1
  Ok x.0

-- the value that reading finds, if it is all of the content of a value of the tag, as with explicit tags (X.690, 8.14)
abbrev pub enclosed_at : {X : Type 0} → ℕ → (List ℕ → Result (X × List ℕ) DerError) → List ℕ
    → Result (X × List ℕ) DerError
enclosed_at tag reading = refined (tagged_at tag) (only reading)

-- ---- skipped values

-- a value of G, for any x
abbrev pub Skips : {X : Type 0} → (List ℕ → X → Type 0) → List ℕ → Unit {0} → Type 0
Skips G = Refines G (λ x u. Unit {0})

-- the octets after the value that reading finds, without the value
abbrev pub skipping : {X : Type 0} → (List ℕ → Result (X × List ℕ) DerError) → List ℕ
    → Result (Unit {0} × List ℕ) DerError
skipping reading = refined reading (λ x. Ok tt)

-- ---- only if the next octet is its tag

-- whether the next octet is this one
abbrev pub begins_with : ℕ → List ℕ → Bool
begins_with octet [] = false
begins_with octet (b ∷ bytes) = b == octet

-- the value that reading finds, if the next octet is the tag; otherwise None, and no octet is taken
unfoldable pub if_tagged : {X : Type 0} → ℕ → (List ℕ → Result (X × List ℕ) DerError) → List ℕ
    → Result (Option X × List ℕ) DerError
if_tagged tag reading bytes =
    if begins_with tag bytes then (reading bytes >>= λ x. Ok (Some x.0, x.1)) else Ok (None, bytes)

-- ---- a SEQUENCE of values

-- a SEQUENCE of values, each of the grammar of the state that follows from the values before, and nothing else
abbrev pub IsSequenceFrom : {S X : Type 0} → (S → X → S) → (S → List ℕ → X → Type 0) → S → List ℕ → List X → Type 0
IsSequenceFrom next G state = Refines IsSequence (EachFrom next G state)

-- a SEQUENCE of values of G, and nothing else
abbrev pub IsSequenceOf : {X : Type 0} → (List ℕ → X → Type 0) → List ℕ → List X → Type 0
IsSequenceOf G = Refines IsSequence (Each G)

-- all values of a content, each read in the state that follows from the values before
unfoldable pub values_from : {S X : Type 0} → (S → X → S) → (S → List ℕ → Result (X × List ℕ) DerError) → S → List ℕ
    → Result (List X) DerError
values_from next reading state content = each_from next (length content) reading state content

-- the values, or EmptyBlocks if there is none
abbrev pub some_of : {X : Type 0} → List X → Result (List X) DerError
some_of [] = Err EmptyBlocks
some_of (x ∷ xs) = Ok (x ∷ xs)

-- the values of a content, or EmptyBlocks if there is none
abbrev pub some_in : {X : Type 0} → (List ℕ → Result (List X) DerError) → List ℕ → Result (List X) DerError
some_in values content = values content >>= some_of

-- the values of a SEQUENCE, each read in the state that follows from the values before
abbrev pub sequence_from : {S X : Type 0} → (S → X → S) → (S → List ℕ → Result (X × List ℕ) DerError) → S → List ℕ
    → Result (List X × List ℕ) DerError
sequence_from next reading state = refined (tagged_at 48) (values_from next reading state)

-- all values of a content, without a state
abbrev pub values_of : {X : Type 0} → (List ℕ → Result (X × List ℕ) DerError) → List ℕ → Result (List X) DerError
values_of reading = values_from (λ (state : Unit {0}) x. state) (λ state. reading) tt

-- the values of a SEQUENCE, without a state
abbrev pub sequence_of : {X : Type 0} → (List ℕ → Result (X × List ℕ) DerError) → List ℕ
    → Result (List X × List ℕ) DerError
sequence_of reading = refined (tagged_at 48) (values_of reading)
