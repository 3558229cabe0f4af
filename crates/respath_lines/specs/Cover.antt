-- The answer to `cover`: the shortest list of prefixes with the addresses of a list of blocks, or the fault of the
-- list.
use Rattle.std.specs.Prelude.{◌≡◌, ℕ, Bool, if◌then◌else◌, List, ◌∷◌, ◌++◌, map, codes, decimal}
use Rattle.rpki_text.specs.Cuts.{slash}
use Rattle.rpki_text.specs.Lists.{joined}
use Rattle.rpki_cover.specs.Prefixes.{PrefixValue}
use Rattle.rpki_chain.specs.Runs.{Runs, Holds}
use Rattle.rpki_cover.specs.Covers.{IsShortestCover}
use Rattle.rpki_ip.specs.Faults as IpFaults
use Rattle.rpki_ip.specs.PrintedText.{addr_text}
use Rattle.rpki_der.specs.declared.family.AddressFamily.{AddressFamily}
use Rattle.rpki_ip_block.specs.ListText.{HasBlocks, HasBlocksFault}
use Rattle.rpki_ipres.specs.SetText.{IsSetOf}
use Rattle.respath_lines.specs.Kinds.{IsByKind}
use Rattle.respath_lines.specs.Shown.{ShowsValueOrFault}

-- the text printed for a prefix: its address, a slash, and its length, even if that is the family's maximum
abbrev pub prefix_with_length : AddressFamily → PrefixValue → List ℕ
prefix_with_length family p = addr_text family p.first ++ slash ∷ decimal p.len

-- the text printed for a prefix in a list; a comma and a space precede it unless it is the first
abbrev pub listed_text : Bool → AddressFamily → PrefixValue → List ℕ
listed_text is_first family p =
    if is_first then prefix_with_length family p else codes ", " ++ prefix_with_length family p

-- the text printed for a list of prefixes
abbrev pub cover_text : AddressFamily → List PrefixValue → List ℕ
cover_text family ps = joined (map (prefix_with_length family) ps)

-- the prefixes are the shortest cover of the set of a list of blocks of the family
abbrev pub IsCoverOf : AddressFamily → List ℕ → List PrefixValue → Type 0
IsCoverOf family list ps = (set : Runs) × IsSetOf (HasBlocks family list) set × IsShortestCover 128 (Holds set) ps

-- the text is the answer to `cover` for a list of blocks of a family
abbrev pub IsCoverIp : AddressFamily → List ℕ → List ℕ → Type 0
IsCoverIp family list text =
    ShowsValueOrFault (IsCoverOf family list) (cover_text family) (HasBlocksFault family list)
    IpFaults.ip_from_str_error_text text

-- the text is the answer to `cover` for a list of blocks of this kind; AS numbers have no prefixes
abbrev pub IsCoverAnswer : List ℕ → List ℕ → List ℕ → Type 0
IsCoverAnswer kind list =
    IsByKind (λ text. text ≡ codes "error: unknown kind") (λ family. IsCoverIp family list) kind
