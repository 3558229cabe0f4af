-- Texts of sets of the three kinds, and of the changes between two sets, as the Rust crate `rpki` 0.20.1 prints them.
use Rattle.std.specs.Prelude.{ℕ, List, [], ◌++◌, codes, if◌then◌else◌}
use Rattle.rpki_as.specs.ListText.{IsAsListText, as_list_text}
use Rattle.rpki_chain.specs.Runs.{Runs}
use Rattle.rpki_ip.specs.declared.error.FromStrError.{FromStrError}
use Rattle.rpki_der.specs.declared.family.AddressFamily.TheVariants.{Ipv4, Ipv6}
use Rattle.rpki_ip_block.specs.ListText.{HasBlocks, HasBlocksFault}
use Rattle.rpki_ipres.specs.SetText.{IsSetOf, set_text}
use Rattle.rpki_resources.specs.Triples.{Triple, Changes, is_none, is_no_triple}

-- the text is a list of IPv4 blocks that denotes the set
abbrev pub IsIpv4ListText : List ℕ → Runs → Type 0
IsIpv4ListText text = IsSetOf (HasBlocks Ipv4 text)

-- the text is a list of IPv6 blocks that denotes the set
abbrev pub IsIpv6ListText : List ℕ → Runs → Type 0
IsIpv6ListText text = IsSetOf (HasBlocks Ipv6 text)

-- the text has this fault as a list of IPv4 blocks
abbrev pub HasIpv4ListFault : List ℕ → FromStrError → Type 0
HasIpv4ListFault = HasBlocksFault Ipv4

-- the text has this fault as a list of IPv6 blocks
abbrev pub HasIpv6ListFault : List ℕ → FromStrError → Type 0
HasIpv6ListFault = HasBlocksFault Ipv6

-- each list is a text of the set of its kind
pub record IsTripleText (a b c : List ℕ) (t : Triple) : Type 0 where
  pub asn : IsAsListText a t.asn
  pub ipv4 : IsIpv4ListText b t.ipv4
  pub ipv6 : IsIpv6ListText c t.ipv6

-- ---- printed texts

-- the printed list of a set of IPv4 addresses
abbrev pub ipv4_list_text : Runs → List ℕ
ipv4_list_text = set_text Ipv4

-- the printed list of a set of IPv6 addresses
abbrev pub ipv6_list_text : Runs → List ℕ
ipv6_list_text = set_text Ipv6

-- the printed text of a set: each kind with its list in quotes
abbrev pub triple_text : Triple → List ℕ
triple_text t = codes "asn: '" ++ as_list_text t.asn ++ codes "', ipv4: '" ++ ipv4_list_text t.ipv4
    ++ codes "', ipv6: '" ++ ipv6_list_text t.ipv6 ++ codes "'"

-- a kind and its list, or nothing if the list is empty
abbrev pub kind_text : List ℕ → (Runs → List ℕ) → Runs → List ℕ
kind_text kind text set = if is_none set then [] else kind ++ text set

-- a word, and then each kind that is not empty with its list
abbrev pub change_text : List ℕ → Triple → List ℕ
change_text word t = word ++ kind_text (codes " asn: ") as_list_text t.asn
    ++ kind_text (codes " ipv4: ") ipv4_list_text t.ipv4 ++ kind_text (codes " ipv6: ") ipv6_list_text t.ipv6

-- the printed text of changes: the added and the removed resources, each if there are any, with a space between them
abbrev pub changes_text : Changes → List ℕ
changes_text d =
    if is_no_triple d.added
    then
    (if is_no_triple d.removed then codes "<no changes in resources>" else change_text (codes "Removed:") d.removed)
    else (if is_no_triple d.removed then change_text (codes "Added:") d.added
    else change_text (codes "Added:") d.added ++ codes " " ++ change_text (codes "Removed:") d.removed)
