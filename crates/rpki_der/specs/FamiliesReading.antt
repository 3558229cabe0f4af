-- Reading families from left to right, with the first fault. A repeated family is a fault before its claim is read.
-- An empty content is a fault before anything that follows.
use Rattle.std.specs.Prelude.{◌≡◌, ℕ, zero, suc, Bool, true, not, List, [], ◌∷◌, length, Some, None, is_some, Result}
use Rattle.std.specs.Prelude.{Ok, Err, ◌==◌, if◌then◌else◌}
use Rattle.rpki_der.specs.declared.error.DerError.{DerError}
use Rattle.rpki_der.specs.declared.error.DerError.TheVariants.{DuplicateFamily, NoFamily, Truncated}
use Rattle.rpki_der.specs.Reading.{◌>>=◌, ended, passing, refined, tagged_at}
use Rattle.rpki_der.specs.declared.family.AddressFamily.{AddressFamily}
use Rattle.rpki_der.specs.declared.family.AddressFamily.TheVariants.{Ipv4, Ipv6}
use Rattle.rpki_der.specs.FamilyDer.{family_at}
use Rattle.rpki_der.specs.FamiliesDer.{ByFamily}

-- whether IPv4 has a value, and whether IPv6 has one
abbrev pub seen : {X : Type 0} → ByFamily X → Bool × Bool
seen fs = (is_some fs.0, is_some fs.1)

-- whether the family has a value, by the pair of `seen`
abbrev pub was_seen : Bool × Bool → AddressFamily → Bool
was_seen before Ipv4 = before.0
was_seen before Ipv6 = before.1

-- fs with this claim for the family
abbrev pub with_claim : {X : Type 0} → ByFamily X → AddressFamily → X → ByFamily X
with_claim fs Ipv4 x = (Some x, fs.1)
with_claim fs Ipv6 x = (fs.0, Some x)

-- the member in the content of a SEQUENCE: its family, which must not have occurred before, and its claim
unfoldable pub member_in : {X : Type 0} → (AddressFamily → List ℕ → Result (X × List ℕ) DerError) → Bool × Bool → List ℕ
    → Result (AddressFamily × X) DerError
member_in claim_at before content = do
  family ← family_at content
  if was_seen before family.0 then Err DuplicateFamily
      else claim_at family.0 family.1 >>= λ claim. ended claim.1 >>= λ end. Ok (family.0, claim.0)

-- a SEQUENCE with a member of a family that did not occur before (RFC 3779, 2.2.3.2)
abbrev pub member_at : {X : Type 0} → (AddressFamily → List ℕ → Result (X × List ℕ) DerError) → Bool × Bool → List ℕ
    → Result ((AddressFamily × X) × List ℕ) DerError
member_at claim_at before = refined (tagged_at 48) (member_in claim_at before)

-- the members to the end of the octets, added to those that were found before. A member has at least one octet, so
-- the number of the octets is a sufficient number of steps
unfoldable pub members_by : {X : Type 0} → (Bool × Bool → List ℕ → Result ((AddressFamily × X) × List ℕ) DerError) → ℕ
    → ByFamily X → List ℕ → Result (ByFamily X) DerError
members_by member steps found [] = Ok found
members_by member zero found (b ∷ bytes) = Err Truncated
members_by member (suc steps) found (b ∷ bytes) = do
  one ← member (seen found) (b ∷ bytes)
  members_by member steps (with_claim found one.0.0 one.0.1) one.1

-- the members to the end of the octets, in any order, added to those that were found before
abbrev pub members_in : {X : Type 0} → (AddressFamily → List ℕ → Result (X × List ℕ) DerError) → ℕ → ByFamily X → List ℕ
    → Result (ByFamily X) DerError
members_in claim_at = members_by (member_at claim_at)

-- no family has a value
abbrev pub none_found : {X : Type 0} → ByFamily X
none_found = (None, None)

-- the families in a content, in any order, or NoFamily if the content is empty
unfoldable pub families_in : {X : Type 0} → (AddressFamily → List ℕ → Result (X × List ℕ) DerError) → List ℕ
    → Result (ByFamily X) DerError
families_in claim_at content =
    if length content == 0 then Err NoFamily else members_in claim_at (length content) none_found content

-- a SEQUENCE of families, in any order (RFC 3779, 2.2.3.1)
abbrev pub families_at : {X : Type 0} → (AddressFamily → List ℕ → Result (X × List ℕ) DerError) → List ℕ
    → Result (ByFamily X × List ℕ) DerError
families_at claim_at = refined (tagged_at 48) (families_in claim_at)

-- ---- by the mode: strictly, IPv4 may not follow IPv6; this is checked once the family of a member was read

-- whether the family may follow those that were seen before: IPv4 may not follow IPv6 (RFC 3779, 2.2.3.3)
abbrev pub is_in_order : Bool × Bool → AddressFamily → Bool
is_in_order before Ipv4 = not before.1
is_in_order before Ipv6 = true

-- member_in by the mode
unfoldable pub member_in_by : {X : Type 0} → Bool → (AddressFamily → List ℕ → Result (X × List ℕ) DerError)
    → Bool × Bool → List ℕ → Result (AddressFamily × X) DerError
member_in_by strict claim_at before content = do
  family ← family_at content
  if was_seen before family.0 then Err DuplicateFamily
      else passing strict (is_in_order before) family.0 >>=
      λ ordered. claim_at family.0 family.1 >>= λ claim. ended claim.1 >>= λ end. Ok (family.0, claim.0)

-- member_at by the mode
abbrev pub member_by : {X : Type 0} → Bool → (AddressFamily → List ℕ → Result (X × List ℕ) DerError) → Bool × Bool
    → List ℕ → Result ((AddressFamily × X) × List ℕ) DerError
member_by strict claim_at before = refined (tagged_at 48) (member_in_by strict claim_at before)

-- families_in by the mode
unfoldable pub families_in_by : {X : Type 0} → Bool → (AddressFamily → List ℕ → Result (X × List ℕ) DerError) → List ℕ
    → Result (ByFamily X) DerError
families_in_by strict claim_at content = if length content == 0 then Err NoFamily
    else members_by (member_by strict claim_at) (length content) none_found content

-- families_at by the mode
abbrev pub families_by : {X : Type 0} → Bool → (AddressFamily → List ℕ → Result (X × List ℕ) DerError) → List ℕ
    → Result (ByFamily X × List ℕ) DerError
families_by strict claim_at = refined (tagged_at 48) (families_in_by strict claim_at)

-- ---- from the meaning of the octets to the result

-- a member: the same family, and C relates the claims
abbrev pub SaysClaim : {X Y : Type 0} → (Y → X → Type 0) → AddressFamily × Y → AddressFamily × X → Type 0
SaysClaim C found member = (found.0 ≡ member.0) × C found.1 member.1
