-- The texts of VRPs and routes.
use Rattle.std.specs.Prelude.{◌≡◌, ◌⊎◌, ℕ, List, ◌∷◌, ◌++◌}
use Rattle.std.specs.Str.{IsUtf8, trim}
use Rattle.rpki_base.specs.AsnText.{IsAsnText, asn_text}
use Rattle.rpki_prefix.specs.MaxLen.{HasMaxLenTextFault, IsMaxLenText, MaxLenValue, max_len_text}
use Rattle.rpki_prefix.specs.PrefixText.{prefix_text}
use Rattle.rpki_prefix.specs.Values.{FamilyPrefix}
use Rattle.rpki_prefix.specs.declared.error.ParseMaxLenPrefixError.TheVariants.{InvalidPrefix, InvalidMaxLenFormat}
use Rattle.rpki_prefix.specs.declared.error.ParseMaxLenPrefixError.TheVariants.{InvalidMaxLenValue}
use Rattle.roa_vrps.specs.declared.fault.VrpFault.{VrpFault}
use Rattle.roa_vrps.specs.declared.fault.VrpFault.TheVariants.{Asn, MaxLen, MaxLenFormat, NotUtf8, Prefix}
use Rattle.roa_routes.specs.Routes.{IsNoAsnText, origin_word, prefix_word}

-- ---- printed

-- a VRP as it is printed: its prefix with its maximum length, a space, and its AS
abbrev pub vrp_text : MaxLenValue × ℕ → List ℕ
vrp_text vrp = max_len_text vrp.0 ++ 32 ∷ asn_text vrp.1

-- a route as it is printed: its prefix, a space, and its AS
abbrev pub route_text : FamilyPrefix → ℕ → List ℕ
route_text prefix asn = prefix_text prefix ++ 32 ∷ asn_text asn

-- ---- read

-- two texts are the prefix of the VRP with its maximum length, and its AS number
pub record AreVrpWords (prefix asn : List ℕ) (vrp : MaxLenValue × ℕ) : Type 0 where
  pub prefix_is : IsMaxLenText prefix vrp.0
  pub asn_is : IsAsnText asn vrp.1

-- the first fault of two texts: the second is not an AS number, or it is one and the first is not a prefix with a
-- maximum length
abbrev pub HaveVrpWordsFault : List ℕ → List ℕ → VrpFault → Type 0
HaveVrpWordsFault prefix asn (Asn f) = IsNoAsnText asn
HaveVrpWordsFault prefix asn (Prefix f) = ((n : ℕ) × IsAsnText asn n) × HasMaxLenTextFault prefix (InvalidPrefix f)
HaveVrpWordsFault prefix asn (MaxLenFormat f) =
    ((n : ℕ) × IsAsnText asn n) × HasMaxLenTextFault prefix (InvalidMaxLenFormat f)
HaveVrpWordsFault prefix asn (MaxLen f) =
    ((n : ℕ) × IsAsnText asn n) × HasMaxLenTextFault prefix (InvalidMaxLenValue f)
HaveVrpWordsFault prefix asn fault = ⊥

-- the text is that of the VRP
abbrev pub IsVrpText : List ℕ → MaxLenValue × ℕ → Type 0
IsVrpText text vrp = IsUtf8 text × AreVrpWords (prefix_word (trim text)) (origin_word (trim text)) vrp

-- the first fault of a text that is that of no VRP
abbrev pub HasVrpTextFault : List ℕ → VrpFault → Type 0
HasVrpTextFault text fault =
    ((¬ IsUtf8 text) × (fault ≡ NotUtf8))
    ⊎ (IsUtf8 text × HaveVrpWordsFault (prefix_word (trim text)) (origin_word (trim text)) fault)
