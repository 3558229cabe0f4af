-- The encodings of lists of values.
use Rattle.std.specs.Prelude.{ℕ, List}
use Rattle.std.specs.List.{flat_map}
use Rattle.rpki_der.specs.Der.{sequence_value}

-- the octets of the values, one after another
abbrev pub octets_of_all : {X : Type 0} → (X → List ℕ) → List X → List ℕ
octets_of_all octets values = flat_map octets values

-- the octets of one SEQUENCE of the values (X.690, 8.9 and 8.10)
abbrev pub sequence_octets : {X : Type 0} → (X → List ℕ) → List X → List ℕ
sequence_octets octets values = sequence_value (octets_of_all octets values)
