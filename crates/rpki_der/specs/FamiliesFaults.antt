-- Families that are refused because one occurs twice, with any octets after it.
use Rattle.std.specs.Prelude.{◌≡◌, ◌≢◌, ℕ, false, List, [], Result, Ok}
use Rattle.rpki_der.specs.declared.error.DerError.{DerError}
use Rattle.rpki_der.specs.SequenceFaults.{BeginsWithAll, BeginsWithValue}
use Rattle.rpki_der.specs.declared.family.AddressFamily.{AddressFamily}
use Rattle.rpki_der.specs.FamilyDer.{family_at}
use Rattle.rpki_der.specs.FamiliesDer.{claims_among}
use Rattle.rpki_der.specs.FamiliesReading.{member_at}

-- a member of any family
abbrev pub any_member_at : {X : Type 0} → (AddressFamily → List ℕ → Result (X × List ℕ) DerError) → List ℕ
    → Result ((AddressFamily × X) × List ℕ) DerError
any_member_at claim_at = member_at claim_at (false, false)

-- a SEQUENCE that begins with a family of these members
abbrev pub BeginsAmong : {X : Type 0} → List (AddressFamily × X) → List ℕ → Type 0
BeginsAmong members =
    BeginsWithValue 48 (λ content. (family : AddressFamily × List ℕ) × (family_at content ≡ Ok family)
    × (claims_among family.0 members ≢ []))

-- members that are read, and after them a SEQUENCE that begins with the family of one of them
abbrev pub BeginsWithRepeat : {X : Type 0} → (AddressFamily → List ℕ → Result (X × List ℕ) DerError) → List ℕ → Type 0
BeginsWithRepeat {X} claim_at content = (members : List (AddressFamily × X)) × (rest : List ℕ)
    × BeginsWithAll (any_member_at claim_at) content members rest × BeginsAmong members rest
