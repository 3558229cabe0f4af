-- Members of JSON objects (RFC 8259, 4). Some readers take the first of two members of one name, and some the last.
-- Therefore each required member must occur exactly once.
use Rattle.std.specs.Prelude.{◌≡◌, ◌⊎◌, ℕ, ◌<◌, List, [], ◌∷◌, MatchResult, Result, codes, length, if◌then◌else◌}
use Rattle.std.specs.Borrow.{Bor}
use Rattle.std.specs.Str.{bytes_eq}
use Rattle.json.specs.Json.{Json, number, string, object, Members, no_members, member}
use Rattle.json.specs.Value.{value_view}
use Rattle.json.specs.declared.value.Value.{Value}
use Rattle.roa_vrps.specs.declared.member.Member.{Member}
use Rattle.roa_vrps.specs.declared.member.Member.TheVariants.{Asn, Prefix, MaxLength}
use Rattle.roa_vrps.specs.declared.fault.MemberFault.{MemberFault}
use Rattle.roa_vrps.specs.declared.fault.MemberFault.TheVariants.{Missing, Repeated, Kind}

-- the values of the members of this name, in their order
abbrev pub values_in : List ℕ → Members → List Json
values_in name no_members = []
values_in name (member key value more) = if bytes_eq key name then value ∷ values_in name more else values_in name more

-- the values of the members of this name of any value; a value that is not an object has no members
abbrev pub named_values : List ℕ → Json → List Json
named_values name (object ms) = values_in name ms
named_values name value = []

-- the fault of the values of a member that must occur exactly once and be of a kind
abbrev pub AreWrong : (Json → Type 0) → List Json → MemberFault → Type 0
AreWrong IsKind values Missing = values ≡ []
AreWrong IsKind values Repeated = 1 < length values
AreWrong IsKind values Kind = (value : Json) × (values ≡ value ∷ []) × ¬ IsKind value

-- the result of a search for a member: its only value, or Missing or Repeated
abbrev pub IsFound : {A : Type 0} → List Json → Result (Bor (Value A)) MemberFault → Type 0
IsFound values found =
    MatchResult found (λ value. values ≡ value_view value.now ∷ []) (AreWrong (λ value. Unit {0}) values)

-- the name of a member of an item
abbrev pub name_of : Member → List ℕ
name_of Asn = codes "asn"
name_of Prefix = codes "prefix"
name_of MaxLength = codes "maxLength"

-- the value of a member has this text: an AS number is a number or a string, a prefix a string, a maximum length a
-- number
abbrev pub Writes : Member → List ℕ → Json → Type 0
Writes Asn text value = (value ≡ number text) ⊎ (value ≡ string text)
Writes Prefix text value = value ≡ string text
Writes MaxLength text value = value ≡ number text

-- an item has exactly one such member, and this is its text
abbrev pub HasText : Member → Json → List ℕ → Type 0
HasText part item text = (value : Json) × (named_values (name_of part) item ≡ value ∷ []) × Writes part text value

-- the member is missing, repeated, or of another kind
abbrev pub HasMemberFault : Member → Json → MemberFault → Type 0
HasMemberFault part item fault =
    AreWrong (λ value. (text : List ℕ) × Writes part text value) (named_values (name_of part) item) fault
