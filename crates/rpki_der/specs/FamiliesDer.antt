-- Families of addresses in DER, each with its claim (RFC 3779, 2.2.3.1 to 2.2.3.4; RFC 6487,
-- 4.8.10). G says which octets are a claim of a family, and what it is.
use Rattle.std.specs.Prelude.{◌≡◌, ◌≢◌, ℕ, List, [], ◌∷◌, ◌++◌, Option, Some, None}
use Rattle.std.specs.List.{flat_map}
use Rattle.rpki_der.specs.Der.{Both, Each, IsSequence, Refines, sequence_value}
use Rattle.rpki_der.specs.declared.family.AddressFamily.{AddressFamily}
use Rattle.rpki_der.specs.declared.family.AddressFamily.TheVariants.{Ipv4, Ipv6}
use Rattle.rpki_der.specs.FamilyDer.{IsFamilyDer, family_der}

-- a pair of optional values: the first is that of IPv4, the second that of IPv6
abbrev pub ByFamily : Type 0 → Type 0
ByFamily X = Option X × Option X

-- the value of a family, if it has one
abbrev pub of_family : {X : Type 0} → AddressFamily → ByFamily X → Option X
of_family Ipv4 fs = fs.0
of_family Ipv6 fs = fs.1

-- ---- members

-- the content is a family and its claim, and nothing else
abbrev pub SaysMember : {X : Type 0} → (AddressFamily → List ℕ → X → Type 0) → List ℕ → AddressFamily × X → Type 0
SaysMember G content member = Both IsFamilyDer (G member.0) content member.0 member.1

-- a SEQUENCE of a family and its claim (2.2.3.2)
abbrev pub IsMember : {X : Type 0} → (AddressFamily → List ℕ → X → Type 0) → List ℕ → AddressFamily × X → Type 0
IsMember G = Refines IsSequence (SaysMember G)

-- the claim of a member, if it is one of the family
abbrev pub claim_if : {X : Type 0} → AddressFamily → AddressFamily × X → List X
claim_if Ipv4 (Ipv4, x) = x ∷ []
claim_if Ipv4 (Ipv6, x) = []
claim_if Ipv6 (Ipv4, x) = []
claim_if Ipv6 (Ipv6, x) = x ∷ []

-- the claims of the members of a family, in order
abbrev pub claims_among : {X : Type 0} → AddressFamily → List (AddressFamily × X) → List X
claims_among family members = flat_map (claim_if family) members

-- ---- families

-- an optional value as a list of at most one item
abbrev pub listed : {X : Type 0} → Option X → List X
listed None = []
listed (Some x) = x ∷ []

-- each family occurs at most once among the members (2.2.3.3), and has the claim of its member
abbrev pub AreGathered : {X : Type 0} → List (AddressFamily × X) → ByFamily X → Type 0
AreGathered members fs = (family : AddressFamily) → claims_among family members ≡ listed (of_family family fs)

-- at least one member, in any order
abbrev pub SaysFamilies : {X : Type 0} → (AddressFamily → List ℕ → X → Type 0) → List ℕ → ByFamily X → Type 0
SaysFamilies {X} G content fs =
    (members : List (AddressFamily × X)) × Each (IsMember G) content members × (members ≢ []) × AreGathered members fs

-- a SEQUENCE of families, each with its claim, and nothing else (2.2.3.1)
abbrev pub IsFamilies : {X : Type 0} → (AddressFamily → List ℕ → X → Type 0) → List ℕ → ByFamily X → Type 0
IsFamilies G = Refines IsSequence (SaysFamilies G)

-- ---- the meaning of octets

-- both have nothing, or both have something, and C relates them
abbrev pub SaysOption : {X Y : Type 0} → (Y → X → Type 0) → Option Y → Option X → Type 0
SaysOption C None None = Unit {0}
SaysOption C None (Some x) = ⊥
SaysOption C (Some y) None = ⊥
SaysOption C (Some y) (Some x) = C y x

-- SaysOption for each family
abbrev pub SaysByFamily : {X Y : Type 0} → (Y → X → Type 0) → ByFamily Y → ByFamily X → Type 0
SaysByFamily C found fs = SaysOption C found.0 fs.0 × SaysOption C found.1 fs.1

-- ---- encodings

-- a family and its claim in one SEQUENCE
abbrev pub member_der : {X : Type 0} → (X → List ℕ) → AddressFamily → X → List ℕ
member_der octets family x = sequence_value (family_der family ++ octets x)

-- the member of a family, or nothing if it has no claim
abbrev pub option_der : {X : Type 0} → (X → List ℕ) → AddressFamily → Option X → List ℕ
option_der octets family None = []
option_der octets family (Some x) = member_der octets family x

-- the families in one SEQUENCE, IPv4 first
abbrev pub families_der : {X : Type 0} → (X → List ℕ) → ByFamily X → List ℕ
families_der octets fs = sequence_value (option_der octets Ipv4 fs.0 ++ option_der octets Ipv6 fs.1)

-- ---- by the mode

-- at least one member, in order: IPv4, if it has one, and then IPv6, if it has one
abbrev pub AreInOrder : {X : Type 0} → (AddressFamily → List ℕ → X → Type 0) → List ℕ → Option X → Option X → Type 0
AreInOrder G content None None = ⊥
AreInOrder G content (Some x) None = IsMember G content (Ipv4, x)
AreInOrder G content None (Some y) = IsMember G content (Ipv6, y)
AreInOrder G content (Some x) (Some y) =
    Both (λ bytes z. IsMember G bytes (Ipv4, z)) (λ bytes z. IsMember G bytes (Ipv6, z)) content x y

-- a SEQUENCE of such members, and nothing else
abbrev pub IsFamiliesInOrder : {X : Type 0} → (AddressFamily → List ℕ → X → Type 0) → List ℕ → ByFamily X → Type 0
IsFamiliesInOrder G = Refines IsSequence (λ content fs. AreInOrder G content fs.0 fs.1)
