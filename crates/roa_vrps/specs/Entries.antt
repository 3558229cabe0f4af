-- The entries of a file of VRPs, lines of CSV or items of JSON, with the VRP and the expiry of each.
use Rattle.std.specs.Prelude.{◌≡◌, ◌≢◌, ◌⊎◌, ℕ, Bool, IsTrue, List, [], ◌∷◌, MatchResult, Option, Result, Some, None}
use Rattle.std.specs.Prelude.{◌-◌, ◌^◌, Vec, codes, map}
use Rattle.json.specs.Json.{Json, number}
use Rattle.rpki_prefix.specs.MaxLen.{MaxLenValue}
use Rattle.rpki_text.specs.Numbers.{IsNumberText}
use Rattle.roa_vrps.specs.Columns.{field}
use Rattle.roa_vrps.specs.Members.{AreWrong, named_values}
use Rattle.roa_vrps.specs.declared.fault.ExpiresFault.{ExpiresFault}
use Rattle.roa_vrps.specs.declared.fault.ExpiresFault.TheVariants.{Member, Number}
use Rattle.roa_vrps.specs.declared.fault.ExpiryFault.{ExpiryFault}
use Rattle.roa_vrps.specs.declared.fault.ExpiryFault.TheVariants.{Line, Item}
use Rattle.roa_vrps.specs.declared.fault.MemberFault.TheVariants.{Missing}
use Rattle.roa_vrps.specs.declared.found.Found.{Found}

-- a VRP and its line: the line's number, the index of the column `Expires`, if there is one, and the line; or a VRP and
-- its item: the item's number, and the item
pub data Entry : Type 0 where
  line_entry : MaxLenValue × ℕ → ℕ → Option ℕ → List ℕ → Entry
  item_entry : MaxLenValue × ℕ → ℕ → Json → Entry

abbrev pub vrp_of : Entry → MaxLenValue × ℕ
vrp_of (line_entry vrp place column line) = vrp
vrp_of (item_entry vrp place value) = vrp

-- the VRPs of entries
abbrev pub vrps_of : List Entry → List (MaxLenValue × ℕ)
vrps_of entries = map vrp_of entries

-- the text is a number of 64 bits, in decimal digits
abbrev pub IsTimeText : List ℕ → ℕ → Type 0
IsTimeText text time = IsNumberText (2 ^ 64 - 1) text time

-- the expiry of a line: the time in the column, or None if there is no column or the field is empty
abbrev pub IsLineExpiry : Option ℕ → List ℕ → Option ℕ → Type 0
IsLineExpiry None line expiry = expiry ≡ None
IsLineExpiry (Some n) line None = field n line ≡ []
IsLineExpiry (Some n) line (Some time) = IsTimeText (field n line) time

-- the field in the column is neither empty nor a time
abbrev pub HasLineExpiryFault : Option ℕ → List ℕ → Type 0
HasLineExpiryFault None line = ⊥
HasLineExpiryFault (Some n) line = (field n line ≢ []) × ((time : ℕ) → ¬ IsTimeText (field n line) time)

-- the name of the member that has the expiry of an item
abbrev pub expires_name : List ℕ
expires_name = codes "expires"

-- the value is a number of JSON
abbrev pub IsNumeric : Json → Type 0
IsNumeric value = (text : List ℕ) × (value ≡ number text)

-- an item has no member `expires`, or exactly one, which is a number that gives this time
abbrev pub IsItemExpiry : Json → Option ℕ → Type 0
IsItemExpiry value None = named_values expires_name value ≡ []
IsItemExpiry value (Some time) =
    (text : List ℕ) × (named_values expires_name value ≡ number text ∷ []) × IsTimeText text time

-- the member is repeated or no number, or its number is no time
abbrev pub HasExpiresFault : Json → ExpiresFault → Type 0
HasExpiresFault value (Member wrong) = (wrong ≢ Missing) × AreWrong IsNumeric (named_values expires_name value) wrong
HasExpiresFault value Number =
    (text : List ℕ) × (named_values expires_name value ≡ number text ∷ []) × ((time : ℕ) → ¬ IsTimeText text time)

-- the expiry of an entry, or None
abbrev pub HasExpiry : Entry → Option ℕ → Type 0
HasExpiry (line_entry vrp place column line) expiry = IsLineExpiry column line expiry
HasExpiry (item_entry vrp place value) expiry = IsItemExpiry value expiry

-- the fault of the expiry of an entry
abbrev pub HasEntryFault : Entry → ExpiryFault → Type 0
HasEntryFault (line_entry vrp place column line) fault = HasLineExpiryFault column line × (fault ≡ Line place)
HasEntryFault (item_entry vrp place value) fault =
    (wrong : ExpiresFault) × HasExpiresFault value wrong × (fault ≡ Item place wrong)

-- entries have these expiries, one each, in their order
abbrev pub AreExpiries : List Entry → List (Option ℕ) → Type 0
AreExpiries [] expiries = expiries ≡ []
AreExpiries (entry ∷ entries) expiries =
    (expiry : Option ℕ) × HasExpiry entry expiry
    × ((more : List (Option ℕ)) × AreExpiries entries more × (expiries ≡ expiry ∷ more))

-- the first entry whose expiry is invalid has this fault
abbrev pub HaveWrongExpiry : List Entry → ExpiryFault → Type 0
HaveWrongExpiry [] fault = ⊥
HaveWrongExpiry (entry ∷ entries) fault =
    HasEntryFault entry fault ⊎ ((expiry : Option ℕ) × HasExpiry entry expiry × HaveWrongExpiry entries fault)

-- what a reader found is the expiries of entries, or their first fault, if it was asked for them
abbrev pub AreRead : {A : Type 0} → Bool → List Entry → Result (Vec (Option ℕ) A) ExpiryFault → Type 0
AreRead asked entries found =
    IsTrue asked → MatchResult found (λ expiries. AreExpiries entries expiries.items) (HaveWrongExpiry entries)

-- what a reader found: the VRPs of the entries of a text, and their expiries or first fault, if it was asked for them
pub record IsFoundIn {A : Type 0} (asked : Bool) (AreEntries : List Entry → Type 0) (found : Found A) : Type 0 where
  pub entries : List Entry
  pub entries_are : AreEntries entries
  pub vrps_are : found.vrps.items ≡ vrps_of entries
  pub read : AreRead asked entries found.expiries
