-- The answer to `norm`: the set of a list, as its canonical list of blocks, or the fault of the list.
use Rattle.std.specs.Prelude.{ℕ, List}
use Rattle.rpki_as_block.specs.Faults as AsFaults
use Rattle.rpki_as.specs.ListText.{IsAsListText, HasAsListFault, as_list_text}
use Rattle.rpki_ip.specs.Faults as IpFaults
use Rattle.rpki_der.specs.declared.family.AddressFamily.{AddressFamily}
use Rattle.rpki_ip_block.specs.ListText.{HasBlocks, HasBlocksFault}
use Rattle.rpki_ipres.specs.SetText.{IsSetOf, set_text}
use Rattle.respath_lines.specs.Kinds.{IsByKind}
use Rattle.respath_lines.specs.Shown.{ShowsValueOrFault}

-- the text is the answer to `norm` for a list of AS blocks
abbrev pub IsNormAs : List ℕ → List ℕ → Type 0
IsNormAs list text =
    ShowsValueOrFault (IsAsListText list) as_list_text (HasAsListFault list) AsFaults.as_from_str_error_text text

-- the text is the answer to `norm` for a list of blocks of addresses of a family
abbrev pub IsNormIp : AddressFamily → List ℕ → List ℕ → Type 0
IsNormIp family list text =
    ShowsValueOrFault (IsSetOf (HasBlocks family list)) (set_text family) (HasBlocksFault family list)
    IpFaults.ip_from_str_error_text text

-- the text is the answer to `norm` for a list of blocks of this kind
abbrev pub IsNormAnswer : List ℕ → List ℕ → List ℕ → Type 0
IsNormAnswer kind list = IsByKind (IsNormAs list) (λ family. IsNormIp family list) kind
