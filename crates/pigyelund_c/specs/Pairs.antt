-- Two sets of resources that are passed as octets, and the operations and tests on both.
use Rattle.std.specs.Prelude.{◌≡◌, ◌≢◌, ◌⊎◌, ◌↔◌, ℕ, Bool, List, IsTrue}
use Rattle.rpki_resources.specs.Triples.{IsDifferenceOf, IsIntersectionOf, IsUnionOf, Triple}
use Rattle.rpki_extensions.specs.declared.encoding.Encoding.{Encoding}
use Rattle.pigyelund_c.specs.Numbers.{encoding_number}
use Rattle.pigyelund_c.specs.Sets.{IsNoSet, IsSet}
use Rattle.pigyelund_c.specs.declared.operations.Operation.{Operation}
use Rattle.pigyelund_c.specs.declared.operations.Operation.TheVariants.{Union, Intersection, Difference}
use Rattle.pigyelund_c.specs.declared.operations.Operation.TheVariants.{SymmetricDifference}
use Rattle.pigyelund_c.specs.declared.pair.Pair.{Pair}
use Rattle.pigyelund_c.specs.declared.pair.ReadPairError.{ReadPairError}
use Rattle.pigyelund_c.specs.declared.pair.ReadPairError.TheVariants.{NoEncoding, First, Second}

-- ---- read

-- The two sets are those that the octets list.
abbrev pub AreTwo : Encoding → List ℕ → List ℕ → List ℕ → List ℕ → Pair → Type 0
AreTwo encoding a_as a_ip b_as b_ip pair = IsSet encoding a_as a_ip pair.first × IsSet encoding b_as b_ip pair.second

-- The first octets list no set, or else the second octets list no set.
abbrev pub AreNotTwo : Encoding → List ℕ → List ℕ → List ℕ → List ℕ → ReadPairError → Type 0
AreNotTwo encoding a_as a_ip b_as b_ip NoEncoding = ⊥
AreNotTwo encoding a_as a_ip b_as b_ip (First reason) = IsNoSet encoding a_as a_ip reason
AreNotTwo encoding a_as a_ip b_as b_ip (Second reason) =
    ((a : Triple) × IsSet encoding a_as a_ip a) × IsNoSet encoding b_as b_ip reason

-- The two sets are those that the octets list in the encoding with this number.
abbrev pub AreRead : List ℕ → List ℕ → List ℕ → List ℕ → ℕ → Pair → Type 0
AreRead a_as a_ip b_as b_ip encoding pair =
    (way : Encoding) × (encoding ≡ encoding_number way) × AreTwo way a_as a_ip b_as b_ip pair

-- The number of the encoding is unknown, or else the octets are not two sets for the reason.
abbrev pub AreNotRead : List ℕ → List ℕ → List ℕ → List ℕ → ℕ → ReadPairError → Type 0
AreNotRead a_as a_ip b_as b_ip encoding reason =
    ((reason ≡ NoEncoding) × ((e : Encoding) → encoding ≢ encoding_number e))
    ⊎ ((way : Encoding) × (encoding ≡ encoding_number way) × AreNotTwo way a_as a_ip b_as b_ip reason)

-- ---- computed

-- The set has the resources that exactly one of the two has: the union of both differences.
abbrev pub IsSymmetricDifferenceOf : Triple → Triple → Triple → Type 0
IsSymmetricDifferenceOf a b set =
    (first : Triple) × (second : Triple) × IsDifferenceOf a b first × IsDifferenceOf b a second
    × IsUnionOf first second set

-- The set is the one that the operation makes of the two.
abbrev pub IsBy : Operation → Triple → Triple → Triple → Type 0
IsBy Union = IsUnionOf
IsBy Intersection = IsIntersectionOf
IsBy Difference = IsDifferenceOf
IsBy SymmetricDifference = IsSymmetricDifferenceOf

-- R holds for the two sets that were read and this set.
abbrev pub IsMade : (Triple → Triple → Triple → Type 0) → List ℕ → List ℕ → List ℕ → List ℕ → ℕ → Triple → Type 0
IsMade R a_as a_ip b_as b_ip encoding set =
    (pair : Pair) × AreRead a_as a_ip b_as b_ip encoding pair × R pair.first pair.second set

-- The answer is yes if and only if R holds for the two sets that were read.
abbrev pub IsTested : (Triple → Triple → Type 0) → List ℕ → List ℕ → List ℕ → List ℕ → ℕ → Bool → Type 0
IsTested R a_as a_ip b_as b_ip encoding answer =
    (pair : Pair) × AreRead a_as a_ip b_as b_ip encoding pair × (IsTrue answer ↔ R pair.first pair.second)

-- The two sets are the same.
abbrev pub AreSame : Triple → Triple → Type 0
AreSame a b = a ≡ b
