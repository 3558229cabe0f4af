-- The entries of a JSON file (RFC 8259): the items of its member `roas`.
use Rattle.std.specs.Prelude.{◌≡◌, ◌⊎◌, ℕ, ◌+◌, Bool, List, [], ◌∷◌, MatchOption, MatchResult, Option, Result}
use Rattle.std.specs.Prelude.{Some, codes}
use Rattle.std.specs.Str.{IsUtf8}
use Rattle.json.specs.Json.{Json, array, object, Items, no_items, item, Members, document}
use Rattle.rpki_prefix.specs.MaxLen.{MaxLenValue}
use Rattle.roa_vrps.specs.Entries.{Entry, IsFoundIn, item_entry}
use Rattle.roa_vrps.specs.Members.{AreWrong, HasMemberFault, HasText, values_in}
use Rattle.roa_vrps.specs.Rows.{AreVrpTexts, HaveFault}
use Rattle.roa_vrps.specs.declared.fault.FileFault.{FileFault}
use Rattle.roa_vrps.specs.declared.fault.FileFault.TheVariants.{Item, NotObject, Roas}
use Rattle.roa_vrps.specs.declared.fault.ItemFault.{ItemFault}
use Rattle.roa_vrps.specs.declared.fault.ItemFault.TheVariants.{Member, Vrp}
use Rattle.roa_vrps.specs.declared.fault.MemberFault.{MemberFault}
use Rattle.roa_vrps.specs.declared.found.Found.{Found}
use Rattle.roa_vrps.specs.declared.member.Member.TheVariants.{Asn, Prefix, MaxLength}

-- the three required members of an item have these texts
pub record HasTexts (value : Json) (asn_text prefix_text max_text : List ℕ) : Type 0 where
  pub asn : HasText Asn value asn_text
  pub prefix : HasText Prefix value prefix_text
  pub max_length : HasText MaxLength value max_text

-- an item gives this VRP
abbrev pub IsItem : Json → MaxLenValue × ℕ → Type 0
IsItem value vrp =
    (asn : List ℕ) × (prefix : List ℕ) × (max : List ℕ) × HasTexts value asn prefix max
    × AreVrpTexts asn prefix max vrp.0 vrp.1

-- the first fault of an item: of its members, in their order, and then of the VRP that they give
abbrev pub HasItemFault : Json → ItemFault → Type 0
HasItemFault value (Member Asn f) = HasMemberFault Asn value f
HasItemFault value (Member Prefix f) = ((asn : List ℕ) × HasText Asn value asn) × HasMemberFault Prefix value f
HasItemFault value (Member MaxLength f) =
    ((asn : List ℕ) × HasText Asn value asn) × ((prefix : List ℕ) × HasText Prefix value prefix)
    × HasMemberFault MaxLength value f
HasItemFault value (Vrp f) =
    (asn : List ℕ) × (prefix : List ℕ) × (max : List ℕ) × HasTexts value asn prefix max × HaveFault asn prefix max f

-- the values of an array, in their order
abbrev pub list_of : Items → List Json
list_of no_items = []
list_of (item value items) = value ∷ list_of items

-- the values of an array give these entries; place is the number of the first value
abbrev pub AreItems : ℕ → List Json → List Entry → Type 0
AreItems place [] entries = entries ≡ []
AreItems place (value ∷ values) entries =
    (vrp : MaxLenValue × ℕ) × IsItem value vrp
    × ((more : List Entry) × AreItems (place + 1) values more × (entries ≡ item_entry vrp place value ∷ more))

-- the first invalid item and its fault; place is the number of the first value
abbrev pub HaveWrongItem : ℕ → List Json → FileFault → Type 0
HaveWrongItem place [] fault = ⊥
HaveWrongItem place (value ∷ values) fault =
    ((wrong : ItemFault) × HasItemFault value wrong × (fault ≡ Item place wrong))
    ⊎ ((vrp : MaxLenValue × ℕ) × IsItem value vrp × HaveWrongItem (place + 1) values fault)

-- what a reader of the values of an array found, or the fault that it returns
abbrev pub AreItemsRead : {A : Type 0} → Bool → List Json → Found A → Option FileFault → Type 0
AreItemsRead asked values found fault =
    MatchOption fault (IsFoundIn asked (AreItems 1 values) found) (HaveWrongItem 1 values)

-- the text is UTF-8 and a JSON text, and its value is an object of these members (RFC 8259, 2 and 4)
abbrev pub IsJsonObject : List ℕ → Members → Type 0
IsJsonObject text members = IsUtf8 text × (document text ≡ Some (object members))

-- the name of the member that has the VRPs
abbrev pub roas : List ℕ
roas = codes "roas"

-- the values of a member are one array, of these items
abbrev pub IsOneArray : List Json → Items → Type 0
IsOneArray values items = values ≡ array items ∷ []

-- the values of `roas` are one array, whose items give these entries
abbrev pub WriteRoas : List Json → List Entry → Type 0
WriteRoas values entries = (items : Items) × IsOneArray values items × AreItems 1 (list_of items) entries

-- the values of `roas` are not a single array
abbrev pub AreNoArray : List Json → FileFault → Type 0
AreNoArray values fault =
    (wrong : MemberFault) × AreWrong (λ value. (items : Items) × (value ≡ array items)) values wrong
    × (fault ≡ Roas wrong)

-- the values of `roas` are not a single array, or one of its items is invalid (the first item has number 1)
abbrev pub HaveRoasFault : List Json → FileFault → Type 0
HaveRoasFault values fault =
    AreNoArray values fault ⊎ ((items : Items) × IsOneArray values items × HaveWrongItem 1 (list_of items) fault)

-- the result of a reader of the values of `roas`
abbrev pub IsRoasResult : {A : Type 0} → Bool → List Json → Result (Found A) FileFault → Type 0
IsRoasResult asked values outcome = MatchResult outcome (IsFoundIn asked (WriteRoas values)) (HaveRoasFault values)

-- the text is a JSON object whose member `roas` has these entries
abbrev pub AreJsonEntries : List ℕ → List Entry → Type 0
AreJsonEntries text entries =
    (members : Members) × IsJsonObject text members × WriteRoas (values_in roas members) entries

-- the text is no JSON object
abbrev pub IsNoObject : List ℕ → FileFault → Type 0
IsNoObject text fault = ((members : Members) → ¬ IsJsonObject text members) × (fault ≡ NotObject)

-- the text is no JSON object, or its member `roas` is invalid
abbrev pub HasJsonFault : List ℕ → FileFault → Type 0
HasJsonFault text fault =
    IsNoObject text fault
    ⊎ ((members : Members) × IsJsonObject text members × HaveRoasFault (values_in roas members) fault)
