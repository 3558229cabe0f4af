-- Texts of prefixes: an address, a slash, and a length (RFC 4632, 3.1; RFC 4291, 2.3).
use Rattle.std.specs.Prelude.{◌≡◌, ℕ, ◌-◌, ◌^◌, ◌≢◌, ◌⊎◌, List, [], ◌∷◌, ◌++◌, decimal, Result, Ok, MatchResult}
use Rattle.rpki_addr.specs.AddressText.{IsIpText}
use Rattle.rpki_text.specs.Cuts.{HasNo, Around, slash}
use Rattle.rpki_text.specs.Numbers.{IsNumberText, HasNumberFault}
use Rattle.rpki_addr.specs.PrintedAddress.{ip_text}
use Rattle.rpki_text.specs.Reading.{Answers}
use Rattle.rpki_addr.specs.declared.addr.AddrParseError.TheVariants.{Ip}
use Rattle.rpki_addr.specs.declared.addr.IpAddr.{IpAddr}
use Rattle.rpki_prefix.specs.Values.{FamilyPrefix, IsFamilyPrefix, IsPrefixOf, IsRelaxedPrefixOf, HasPrefixError}
use Rattle.rpki_prefix.specs.Values.{HasRelaxedPrefixError}
use Rattle.rpki_prefix.specs.declared.error.PrefixError.{PrefixError}
use Rattle.rpki_prefix.specs.declared.error.ParsePrefixError.{ParsePrefixError}
use Rattle.rpki_prefix.specs.declared.error.ParsePrefixError.TheVariants.{Empty, MissingLen, InvalidAddr, InvalidLen}
use Rattle.rpki_prefix.specs.declared.error.ParsePrefixError.TheVariants.{InvalidPrefix}

-- the texts are an address and a number of 8 bits
pub record AreParts (left right : List ℕ) (a : IpAddr) (len : ℕ) : Type 0 where
  pub addr_text : IsIpText left a
  pub len_text : IsNumberText (2 ^ 8 - 1) right len

-- an address is before the first slash, and a length after it
abbrev pub HasParts : List ℕ → IpAddr → ℕ → Type 0
HasParts text a len = Around slash text (λ left right. AreParts left right a len)

-- why the text has no such parts: its first fault
abbrev pub HasNoParts : List ℕ → ParsePrefixError → Type 0
HasNoParts text Empty = text ≡ []
HasNoParts text MissingLen = (text ≢ []) × HasNo slash text
HasNoParts text (InvalidAddr f) = Around slash text (λ left right. ((a : IpAddr) → ¬ IsIpText left a) × (f ≡ Ip))
HasNoParts text (InvalidLen f) =
    Around slash text (λ left right. (a : IpAddr) × IsIpText left a × HasNumberFault (2 ^ 8 - 1) right f)
HasNoParts text (InvalidPrefix f) = ⊥

-- the parts are found, or the text has no such parts
abbrev pub FindsParts : List ℕ → Result (IpAddr × ℕ) ParsePrefixError → Type 0
FindsParts text r = MatchResult r (λ x. HasParts text x.0 x.1) (HasNoParts text)

-- the text is an address and a length, and p is a prefix of them by the rule
pub record IsTextBy (Rule : IpAddr → ℕ → FamilyPrefix → Type 0) (text : List ℕ) (p : FamilyPrefix) : Type 0 where
  pub addr : IpAddr
  pub len : ℕ
  pub parts : HasParts text addr len
  pub prefix : Rule addr len p

-- this is the first fault of the text: of its parts, or, by Fails, of the address and the length
abbrev pub HasTextFaultBy : (IpAddr → ℕ → PrefixError → Type 0) → List ℕ → ParsePrefixError → Type 0
HasTextFaultBy Fails text e =
    HasNoParts text e
    ⊎ ((a : IpAddr) × (len : ℕ) × (f : PrefixError) × HasParts text a len × Fails a len f × (e ≡ InvalidPrefix f))

-- the text is that of a prefix whose host bits are zero
abbrev pub IsPrefixText : List ℕ → FamilyPrefix → Type 0
IsPrefixText = IsTextBy IsPrefixOf

-- this is the first fault of a text that is not that of a prefix whose host bits are zero
abbrev pub HasPrefixTextFault : List ℕ → ParsePrefixError → Type 0
HasPrefixTextFault = HasTextFaultBy HasPrefixError

-- the text is that of a prefix, whose host bits may be set and are cleared
abbrev pub IsRelaxedPrefixText : List ℕ → FamilyPrefix → Type 0
IsRelaxedPrefixText = IsTextBy IsRelaxedPrefixOf

-- this is the first fault of a text that is not that of a prefix with any host bits
abbrev pub HasRelaxedPrefixTextFault : List ℕ → ParsePrefixError → Type 0
HasRelaxedPrefixTextFault = HasTextFaultBy HasRelaxedPrefixError

-- the printed text of a prefix: its address and, always, its length
abbrev pub prefix_text : FamilyPrefix → List ℕ
prefix_text p = ip_text p.addr ++ slash ∷ decimal p.len

-- The text is read as a prefix if and only if it writes one. Otherwise the error is its first fault. The printed text
-- of a prefix is read as that prefix.
pub record ReadsPrefix (text : List ℕ) (r : Result FamilyPrefix ParsePrefixError) : Type 0 where
  pub exact : Answers (IsPrefixText text) (HasPrefixTextFault text) r
  pub reads_back : (p : FamilyPrefix) → IsFamilyPrefix p → text ≡ prefix_text p → r ≡ Ok p
