-- Texts of sets of addresses, as the Rust crate `rpki` 0.20.1 reads and prints them.
use Rattle.std.specs.Prelude.{ℕ, List, ◌++◌, map, codes}
use Rattle.rpki_chain.specs.BlockSets.{IsBlockSet}
use Rattle.rpki_chain.specs.Runs.{Runs, Holds, IsSetOfBlocks}
use Rattle.rpki_ip.specs.Whole.{IsWhole}
use Rattle.rpki_der.specs.declared.family.AddressFamily.{AddressFamily}
use Rattle.rpki_der.specs.declared.family.AddressFamily.TheVariants.{Ipv4, Ipv6}
use Rattle.rpki_ip_block.specs.Blocks.{ip_bounds, new_ip_block}
use Rattle.rpki_ip_block.specs.PrintedBlocks.{block_list_text}
use Rattle.rpki_ip_block.specs.declared.block.IpBlock.{IpBlock}

-- the set has the addresses of the blocks of a list for which the predicate holds
abbrev pub IsSetOf : (List IpBlock → Type 0) → Runs → Type 0
IsSetOf = IsSetOfBlocks ip_bounds

-- the printed text of a set as a set of the family: the blocks of its runs, each as `new_ip_block` makes it
abbrev pub set_text : AddressFamily → Runs → List ℕ
set_text family set = block_list_text family (map new_ip_block set)

-- the printed text of claimed addresses that the issuer doesn't have, as addresses of a family
abbrev pub overclaimed_ip_text : AddressFamily → Runs → List ℕ
overclaimed_ip_text Ipv4 excess = codes "overclaimed IPv4 resources: " ++ set_text Ipv4 excess
overclaimed_ip_text Ipv6 excess = codes "overclaimed IPv6 resources: " ++ set_text Ipv6 excess

-- the runs are those of a set of addresses, all below 2 ^ 128
abbrev pub IsIpSet : Runs → Type 0
IsIpSet set = IsBlockSet 0 340282366920938463463374607431768211455 set

-- the set is a set of the family: any set in IPv6, and a set of whole addresses in IPv4
abbrev pub IsFamilySet : AddressFamily → Runs → Type 0
IsFamilySet Ipv4 set = IsIpSet set × IsWhole (Holds set)
IsFamilySet Ipv6 set = IsIpSet set
