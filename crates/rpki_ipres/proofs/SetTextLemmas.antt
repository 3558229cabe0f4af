-- A list writes one set at most, or has one fault, and what is printed of a set is read as that set.
use Rattle.rpki_ipres.proofs.Common.{ap, ℕ, ◌↔◌, same_numbers, Holds, Err, List, Ok, arith, get_or, map, subst, sym}
use Rattle.rpki_ipres.proofs.Common.{◌∙◌, ◌≡◌, ◌≤◌, All-map, All, AddressFamily, Ipv4, Ipv6, IsRunsOf-unique}
use Rattle.rpki_ipres.proofs.Common.{IsRunsOfBlocks-bounds, bounds_made, IsRunsOfBlocks, Runs, Covers, HasWholeBounds}
use Rattle.rpki_ipres.proofs.Common.{new_block_fits, new_ip_block_bounds, ip_bounds, new_ip_block, IsBlockOf, IpBlock}
use Rattle.rpki_ipres.proofs.Common.{OrMemory, IsFamilySet, IsIpSet, IsSetOf}
use Rattle.rpki_text.specs.Reading.{AnswersOrMemory}
use Rattle.rpki_ipres.proofs.WholeRunLemmas.{whole_runs}

module _ {V E : Type 0} (view : V → List IpBlock) (Has : List IpBlock → Type 0) (Fails : E → Type 0) where
  -- the set of the blocks that were read is the one that the text writes
  pub set_answers : (v : V) (set : Runs) → AnswersOrMemory view Has Fails (Ok v) → IsRunsOfBlocks ip_bounds (view v) set
      → AnswersOrMemory (λ (s : Runs). s) (IsSetOf Has) Fails (Ok set)
  set_answers v set h covered = record {
    found = record { blocks = view v; are_written = h.found; covered = covered };
    each_value = λ other is. (
        let same : view v ≡ is.blocks = h.each_value is.blocks is.are_written in
        IsRunsOf-unique (Covers ip_bounds is.blocks) set other
        (subst (λ blocks. IsRunsOfBlocks ip_bounds blocks set) same covered) is.covered);
    each_fault = h.each_fault;
  }

  -- a refusal is that of the list
  pub set_refused : (e : OrMemory E) → AnswersOrMemory view Has Fails (Err e)
      → AnswersOrMemory (λ (s : Runs). s) (IsSetOf Has) Fails (Err e)
  set_refused e h =
      record
      { found = h.found; each_value = λ set is. h.each_value is.blocks is.are_written; each_fault = h.each_fault }

-- the blocks that are made of runs have their bounds
pub blocks_bounds : (set : Runs) → IsIpSet set → map ip_bounds (map new_ip_block set) ≡ set
blocks_bounds =
    bounds_made ip_bounds new_ip_block 0 340282366920938463463374607431768211455
    (λ b from ordered to. new_ip_block_bounds b)

-- the blocks of a set of addresses are blocks of addresses
blocks_fit : (set : Runs) → IsIpSet set → All (IsBlockOf Ipv6) (map new_ip_block set)
blocks_fit set is = All-map (IsBlockOf Ipv6) new_ip_block set (λ k d small.
    let below : (get_or set k d).1 ≤ 340282366920938463463374607431768211455 = is.below k d small in
    new_block_fits (get_or set k d) (is.are_runs.ordered k d small) (omega (arith, below)))

-- and those of a set of the family are of the family
pub blocks_of_family : (family : AddressFamily) (set : Runs) → IsFamilySet family set
    → All (IsBlockOf family) (map new_ip_block set)
blocks_of_family Ipv6 set is = blocks_fit set is
blocks_of_family Ipv4 set (is, whole) = λ k d small. (blocks_fit set is k d small, whole_blocks k d small)
  where
    whole_blocks : All (λ x. HasWholeBounds (ip_bounds x)) (map new_ip_block set)
    whole_blocks = All-map (λ x. HasWholeBounds (ip_bounds x)) new_ip_block set (λ k d small.
        subst HasWholeBounds (sym (new_ip_block_bounds (get_or set k d))) (whole_runs set is.are_runs whole k d small))

-- a set of the family is a set of addresses
pub is_ip_set : (family : AddressFamily) (set : Runs) → IsFamilySet family set → IsIpSet set
is_ip_set family set is = grind arith

-- so the set that was read from blocks with their bounds is that set
pub read_as : (family : AddressFamily) (xs : List IpBlock) (set read : Runs) → IsFamilySet family set
    → map ip_bounds xs ≡ map ip_bounds (map new_ip_block set) → IsRunsOfBlocks ip_bounds xs read → read ≡ set
read_as family xs set read is bounds covered =
    let own = is_ip_set family set is in
    IsRunsOf-unique (Covers ip_bounds xs) read set covered
    (IsRunsOfBlocks-bounds ip_bounds xs set (bounds ∙ blocks_bounds set own) own.are_runs)

-- what is made of sets is alike exactly where they have the same addresses, if it tells the set
pub alike_as_numbers : (made : Runs → List ℕ) (a b : Runs) → IsIpSet a → IsIpSet b → (made a ≡ made b → a ≡ b)
    → (made a ≡ made b) ↔ ((n : ℕ) → Holds a n ↔ Holds b n)
alike_as_numbers made a b is also one = (
  λ alike n. subst (λ (set : Runs). Holds a n ↔ Holds set n) (one alike) (λ held. held, λ held. held),
  λ same. ap made (same_numbers a b is.are_runs also.are_runs same),
)
