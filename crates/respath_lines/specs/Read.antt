-- The answer to `read`: the resources that octets in hexadecimal encode in DER, or the fault of the octets.
use Rattle.std.specs.Prelude.{◌≡◌, ◌≢◌, ◌⊎◌, ℕ, List, [], Option, Some, None, Result, Ok, Err, codes}
use Rattle.rpki_der.specs.Der.{HasNone}
use Rattle.rpki_der.specs.Faults.{fault_text}
use Rattle.rpki_der.specs.declared.error.DerError.{DerError}
use Rattle.rpki_der.specs.declared.error.DerError.TheVariants.{TrailingData}
use Rattle.rpki_der.specs.SequenceReading.{only}
use Rattle.rpki_text.specs.declared.memory.OrMemory.{OrMemory}
use Rattle.rpki_text.specs.declared.memory.OrMemory.TheVariants.{Refused, Memory}
use Rattle.rpki_chain.specs.Claims.{Claim}
use Rattle.rpki_chain.specs.declared.choice.ResourcesChoice.TheVariants.{Missing, Inherit, Blocks}
use Rattle.rpki_as.specs.AsDer.{IsAsResources}
use Rattle.rpki_as.specs.AsDerReading.{as_choice_at}
use Rattle.rpki_as.specs.ResourcesText.{as_resources_text}
use Rattle.rpki_der.specs.FamiliesDer.{ByFamily, of_family}
use Rattle.rpki_der.specs.declared.family.AddressFamily.{AddressFamily}
use Rattle.rpki_ipres.specs.ResourcesDer.{IsIpFamilies, ip_families_at}
use Rattle.rpki_ipres.specs.SetText.{set_text}
use Rattle.respath_lines.specs.Hexadecimal.{IsHexadecimal}
use Rattle.respath_lines.specs.Kinds.{IsByKind}
use Rattle.respath_lines.specs.Shown.{error_line}

-- the result after a value was decoded: the value if no octets are left, and else TrailingData; an error stays the same
abbrev pub IsEnded : {V : Type 0} → Result V (OrMemory DerError) → List ℕ → Result V (OrMemory DerError) → Type 0
IsEnded (Ok value) rest (Ok answer) = (answer ≡ value) × (rest ≡ [])
IsEnded (Ok value) rest (Err (Refused fault)) = (rest ≢ []) × (fault ≡ TrailingData)
IsEnded (Ok value) rest (Err (Memory error)) = ⊥
IsEnded (Err fault) rest answer = answer ≡ Err fault

-- the octets are not the encoding of a value, and this is the first fault of the reading
abbrev pub HasFault : {V Y : Type 0} → (List ℕ → V → Type 0) → (List ℕ → Result (Y × List ℕ) DerError) → List ℕ
    → DerError → Type 0
HasFault Is reading octets fault = HasNone Is octets × (only reading octets ≡ Err fault)

-- The answer is the text of the value that the octets encode. If the octets are invalid, it is `error: ` and the text
-- of their first fault.
abbrev pub ShowsOctets : {V Y : Type 0} → (List ℕ → V → Type 0) → (List ℕ → Result (Y × List ℕ) DerError) → (V → List ℕ)
    → List ℕ → List ℕ → Type 0
ShowsOctets {V} Is reading value_text octets answer =
    ((value : V) × Is octets value × (answer ≡ value_text value))
    ⊎ ((fault : DerError) × HasFault Is reading octets fault × (answer ≡ error_line (fault_text fault)))

-- the answer to octets in hexadecimal; for any other text it is `error: bad hex`
pub record ShowsHexadecimal {V Y : Type 0} (Is : List ℕ → V → Type 0) (reading : List ℕ → Result (Y × List ℕ) DerError)
    (value_text : V → List ℕ) (text answer : List ℕ) : Type 0 where
  pub octets : (octets : List ℕ) → IsHexadecimal text octets → ShowsOctets Is reading value_text octets answer
  pub none : ((octets : List ℕ) → ¬ IsHexadecimal text octets) → answer ≡ codes "error: bad hex"

-- the answer to `read` for octets of AS resources
abbrev pub IsReadAs : List ℕ → List ℕ → Type 0
IsReadAs = ShowsHexadecimal IsAsResources as_choice_at as_resources_text

-- ---- resources of a family

-- the text printed for the resources of a family, which may be absent
abbrev pub family_text : AddressFamily → Option Claim → List ℕ
family_text family None = codes "missing"
family_text family (Some Missing) = codes "missing"
family_text family (Some Inherit) = codes "inherit"
family_text family (Some (Blocks set)) = set_text family set

-- the answer to octets of families, which shows the resources of one family
abbrev pub ShowsFamily : AddressFamily → List ℕ → List ℕ → Type 0
ShowsFamily family =
    ShowsOctets IsIpFamilies ip_families_at (λ (found : ByFamily Claim). family_text family (of_family family found))

-- the answer to `read` for octets of families, which shows the resources of one family
abbrev pub IsReadIp : AddressFamily → List ℕ → List ℕ → Type 0
IsReadIp family =
    ShowsHexadecimal IsIpFamilies ip_families_at
    (λ (found : ByFamily Claim). family_text family (of_family family found))

-- the answer to `read` for resources of this kind
abbrev pub IsReadAnswer : List ℕ → List ℕ → List ℕ → Type 0
IsReadAnswer kind text = IsByKind (IsReadAs text) (λ family. IsReadIp family text) kind
