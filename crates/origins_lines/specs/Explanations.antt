-- The VRPs that cover a route, and the relation of each to the route (RFC 6811, 2).
use Rattle.std.specs.Prelude.{◌≡◌, ◌⊎◌, ◌↔◌, ◌<◌, ◌≤◌, ℕ, Bool, true, false, List, [], ◌∷◌, ◌++◌, Option, Some, None}
use Rattle.std.specs.Prelude.{AllPairs, Contains, codes, decimal, map}
use Rattle.rpki_text.specs.Cuts.{dash}
use Rattle.rpki_base.specs.AsnText.{asn_text}
use Rattle.rpki_prefix.specs.PrefixText.{prefix_text}
use Rattle.rpki_prefix.specs.Values.{FamilyPrefix}
use Rattle.roa_origin.specs.Vrps.{CoversRoute, HasAs, Vrp, longest, prefix_len}
use Rattle.roa_origin.specs.Tables.{as_sent}
use Rattle.origins_lines.specs.declared.explanation.Form.{Form}
use Rattle.origins_lines.specs.declared.explanation.Form.TheVariants.{Json, Words}
use Rattle.origins_lines.specs.declared.explanation.Reason.{Reason}
use Rattle.origins_lines.specs.declared.explanation.Reason.TheVariants.{Match, Length, As}

-- The relation of a VRP that covers a route to the route. Match: it has the AS, and allows the length. Length: it has
-- the AS, and its maximum length is too short. As: it doesn't have the AS, at any length.
abbrev pub IsReason : FamilyPrefix → ℕ → Vrp → Reason → Type 0
IsReason route asn vrp Match = HasAs asn vrp × (route.len ≤ longest vrp)
IsReason route asn vrp Length = HasAs asn vrp × (longest vrp < route.len)
IsReason route asn vrp As = ¬ HasAs asn vrp

-- the text printed for a relation
abbrev pub reason_text : Reason → List ℕ
reason_text Match = codes "match"
reason_text Length = codes "length"
reason_text As = codes "as"

-- one VRP is listed before another: the longer prefix first, then the lesser AS number, then the longer maximum length
abbrev pub IsExplainedBefore : Vrp → Vrp → Type 0
IsExplainedBefore p q =
    (prefix_len q < prefix_len p)
    ⊎ ((prefix_len q ≡ prefix_len p) × ((p.1 < q.1) ⊎ ((p.1 ≡ q.1) × (longest q < longest p))))

-- the VRPs of a list that cover a route, as they are sent, in the order of explanations and therefore each once
pub record IsExplanation (route : FamilyPrefix) (vrps explained : List Vrp) : Type 0 where
  pub ordered : AllPairs IsExplainedBefore explained
  pub members : (p : Vrp) → Contains explained p ↔ (CoversRoute route p × Contains (map as_sent vrps) p)

-- the text printed for a VRP: a space, its relation to the route, and the prefix with its length, the maximum length,
-- and the AS
abbrev pub reason_and_vrp_text : Reason → Vrp → List ℕ
reason_and_vrp_text reason p = codes " " ++ reason_text reason ++ codes ":" ++ prefix_text p.0.prefix ++ dash
    ∷ decimal (longest p) ++ codes ":" ++ asn_text p.1

-- the beginning of an object of JSON (RFC 8259) for a VRP: its relation to the route, and the key of its prefix
abbrev pub object_start : Reason → List ℕ
object_start Match = codes "{\"reason\":\"match\",\"prefix\":\""
object_start Length = codes "{\"reason\":\"length\",\"prefix\":\""
object_start As = codes "{\"reason\":\"as\",\"prefix\":\""

-- the texts before the maximum length and before the AS in this object
unfoldable pub max_length_key : List ℕ
max_length_key = codes "\",\"max_length\":"

unfoldable pub asn_key : List ℕ
asn_key = codes ",\"asn\":\""

-- a VRP as an object of JSON: its relation to the route, its prefix, its maximum length, and its AS
abbrev pub vrp_object : Reason → Vrp → List ℕ
vrp_object reason p =
    object_start reason ++ prefix_text p.0.prefix ++ max_length_key ++ decimal (longest p) ++ asn_key ++ asn_text p.1
    ++ codes "\"}"

-- the text of a VRP in an explanation; a comma is before each object of JSON except the first
abbrev pub item_text : Form → Bool → Reason → Vrp → List ℕ
item_text Words first reason p = reason_and_vrp_text reason p
item_text Json true reason p = vrp_object reason p
item_text Json false reason p = codes "," ++ vrp_object reason p

-- the text printed for the VRPs of a list, one after the other; the first of them is the first of an explanation or not
abbrev pub AreReasonTexts : Form → Bool → FamilyPrefix → ℕ → List Vrp → List ℕ → Type 0
AreReasonTexts form first route asn [] text = text ≡ []
AreReasonTexts form first route asn (p ∷ explained) text =
    (reason : Reason) × IsReason route asn p reason × (more : List ℕ) × (text ≡ item_text form first reason p ++ more)
    × AreReasonTexts form false route asn explained more

-- the VRP is the same, as it is sent, as the one before it
abbrev pub IsSentAgain : Option Vrp → Vrp → Type 0
IsSentAgain None p = ⊥
IsSentAgain (Some before) p = as_sent before ≡ as_sent p

-- whether there is no VRP before
abbrev pub is_first : Option Vrp → Bool
is_first None = true
is_first (Some before) = false

-- the text printed for a VRP and its relation to the route after the VRP before it; it is empty if both are sent alike
abbrev pub IsNextText : Form → Reason → Option Vrp → Vrp → List ℕ → Type 0
IsNextText form reason last p text =
    (IsSentAgain last p × (text ≡ []))
    ⊎ ((¬ IsSentAgain last p) × (text ≡ item_text form (is_first last) reason p))

-- the text is the explanation of a route
abbrev pub IsExplanationText : Form → FamilyPrefix → ℕ → List Vrp → List ℕ → Type 0
IsExplanationText form route asn vrps text =
    (explained : List Vrp) × IsExplanation route vrps explained × AreReasonTexts form true route asn explained text
