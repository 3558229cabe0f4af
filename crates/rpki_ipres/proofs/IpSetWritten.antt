-- What is written of sets of addresses, and that it is read back.
use Rattle.rpki_ipres.proofs.Common.{List, [], ap, arith, eqb, false, length, map, refl, sym, ℕ, ◌++◌, ◌↔◌, ◌∙◌, ◌∷◌}
use Rattle.rpki_ipres.proofs.Common.{◌≡◌, ◌≤◌, recursion_from_All, pow_pos, AllByRecursion, one_content, written_alike}
use Rattle.rpki_ipres.proofs.Common.{octets_of_all, sequence_octets, bits_of, family_der, AddressFamily, Ipv4, Ipv6}
use Rattle.rpki_ipres.proofs.Common.{IsRunsOf-unique, Holds, IsRunsOfBlocks, Runs, Covers, sequence_value}
use Rattle.rpki_ipres.proofs.Common.{new_block_fits, IsBlockWithin, IsIpBlockDer, ip_block_der, new_ip_block_bounds}
use Rattle.rpki_ipres.proofs.Common.{ip_block_at, ip_block_has_octets, ip_block_reading, ip_bounds, new_ip_block}
use Rattle.rpki_ipres.proofs.Common.{IsBlock, IpBlock, ip_family_der, ip_run_der, ip_set_der, IsFamilySet, IsIpSet}
use Rattle.rpki_ipres.proofs.Common.{block_written}
use Rattle.std.proofs.lemmas.List.Folds.{flat_map-map}
use Rattle.rpki_ip.specs.RangeDer.{IsRangeWithin}
use Rattle.rpki_ip.proofs.PrefixDerWritten.{few_bits}
use Rattle.rpki_ipres.proofs.SetTextLemmas.{alike_as_numbers, blocks_bounds}
use Rattle.rpki_ipres.proofs.WholeRunLemmas.{whole_runs}

-- ---- runs and their blocks

-- the run is a range whose bounds need no more bits than the limit
abbrev pub IsRunWithin : ℕ → ℕ × ℕ → Type 0
IsRunWithin limit run = IsRangeWithin limit (record { min = run.0; max = run.1 })

-- the block of a run
pub made_within : (limit : ℕ) (run : ℕ × ℕ) (block : IpBlock) → limit ≤ 128 → ip_bounds block ≡ run → IsBlock block
    → IsRunWithin limit run → IsBlockWithin limit block
made_within limit run block le bounds fits is = grind (arith, few_bits, pow_pos)

-- what is written of runs is their blocks
runs_written : (limit : ℕ) (set : Runs) → limit ≤ 128 → AllByRecursion (IsRunWithin limit) set
    → AllByRecursion (λ x. IsIpBlockDer limit (ip_block_der x) x) (map new_ip_block set)
runs_written limit [] le all = tt
runs_written limit (run ∷ set) le all =
    (grind (arith, block_written, made_within, new_block_fits, new_ip_block_bounds), runs_written limit set le all.1)

-- what is written of the blocks of runs is what is written of the runs
pub written_as_runs : (set : Runs) (blocks : List IpBlock) → blocks ≡ map new_ip_block set
    → octets_of_all ip_block_der blocks ≡ octets_of_all ip_run_der set
written_as_runs set blocks made = ap (octets_of_all ip_block_der) made ∙ flat_map-map ip_block_der new_ip_block set

-- with the family before them, where there are some
pub family_written : (family : AddressFamily) (set : Runs) (blocks : List IpBlock) → blocks ≡ map new_ip_block set
    → eqb (length blocks) 0 ≡ false
    → sequence_value (family_der family ++ sequence_octets ip_block_der blocks) ≡ ip_family_der family set
family_written family set blocks made some = grind (arith, written_as_runs)

-- blocks stand for one set
pub one_set : (blocks : List IpBlock) (a b : Runs) → IsRunsOfBlocks ip_bounds blocks a
    → IsRunsOfBlocks ip_bounds blocks b → a ≡ b
one_set blocks a b = IsRunsOf-unique (Covers ip_bounds blocks) a b

-- the runs of a set of a family need no more bits than the family's addresses
pub family_runs : (family : AddressFamily) (set : Runs) → IsFamilySet family set
    → AllByRecursion (IsRunWithin (bits_of family)) set
family_runs Ipv4 set (is, whole) = recursion_from_All (IsRunWithin 32) set (λ k d small.
    grind (arith, is.are_runs.ordered k d small, is.below k d small, whole_runs set is.are_runs whole k d small))
family_runs Ipv6 set is = grind (arith, recursion_from_All)

-- sets that are written alike are one
pub set_alike : (a b : Runs) → IsIpSet a → IsIpSet b → ip_set_der a ≡ ip_set_der b → a ≡ b
set_alike a b is also same =
    let content : octets_of_all ip_run_der a ≡ octets_of_all ip_run_der b = one_content (octets_of_all ip_run_der a)
    (octets_of_all ip_run_der b) same in
    let all = runs_written 128 a (omega arith) (family_runs Ipv6 a is) in
    let more = runs_written 128 b (omega arith) (family_runs Ipv6 b also) in
    let blocks = written_alike (IsIpBlockDer 128) ip_block_der (ip_block_at 128) (ip_block_reading 128)
    (ip_block_has_octets 128) (map new_ip_block a) (map new_ip_block b) all more
    (written_as_runs a _ refl ∙ content ∙ sym (written_as_runs b _ refl)) in
    sym (blocks_bounds a is) ∙ ap (λ (t : List IpBlock). map ip_bounds t) blocks ∙ blocks_bounds b also

-- so they have the same addresses, and sets of the same addresses are written alike
pub written_as_numbers : (a b : Runs) → IsIpSet a → IsIpSet b
    → (ip_set_der a ≡ ip_set_der b) ↔ ((n : ℕ) → Holds a n ↔ Holds b n)
written_as_numbers a b is also = alike_as_numbers ip_set_der a b is also (set_alike a b is also)
