-- What is printed of a set is a list text with that set, a list text has one set at most, and so sets of the same
-- addresses alone print alike.
use Rattle.rpki_ipres.proofs.Common.{List, map, refl, subst, ℕ, ◌↔◌, ◌∙◌, ◌≡◌, AddressFamily, IsRunsOf-unique}
use Rattle.rpki_ipres.proofs.Common.{IsRunsOfBlocks-bounds, Holds, Runs, Covers, ip_bounds, new_ip_block, HasBlocks}
use Rattle.rpki_ipres.proofs.Common.{HasIpBlocks, IpBlock, IsFamilySet, IsIpSet, IsSetOf, set_text, same_blocks}
use Rattle.rpki_ip_block.proofs.PrintedLists.{family_list, list_with_its_family}
use Rattle.rpki_ipres.proofs.SetTextLemmas.{alike_as_numbers, blocks_bounds, blocks_of_family, is_ip_set}

module _ (Has : List IpBlock → Type 0) where
  -- blocks with the bounds of a set's are those of the set
  set_of : (set : Runs) (xs : List IpBlock) → IsIpSet set → Has xs
      → map ip_bounds xs ≡ map ip_bounds (map new_ip_block set) → IsSetOf Has set
  set_of set xs is has bounds =
      let covered = IsRunsOfBlocks-bounds ip_bounds xs set (bounds ∙ blocks_bounds set is) is.are_runs in
      record { blocks = xs; are_written = has; covered = covered }

  -- one list of blocks has one set
  pub one_set : ((xs ys : List IpBlock) → Has xs → Has ys → xs ≡ ys) → (a b : Runs) → IsSetOf Has a → IsSetOf Has b
      → a ≡ b
  one_set one a b h k =
      let same = one k.blocks h.blocks k.are_written h.are_written in
      IsRunsOf-unique (Covers ip_bounds h.blocks) a b h.covered (rw same at k.covered)

-- lists of a family
pub family_written : (family : AddressFamily) (set : Runs) → IsFamilySet family set
    → IsSetOf (HasBlocks family (set_text family set)) set
family_written family set is =
    let all = family_list family (set_text family set) (map new_ip_block set) (blocks_of_family family set is) refl in
    set_of (HasBlocks family (set_text family set)) set all.values (is_ip_set family set is) all.have all.bounds

-- lists that tell no family
pub either_written : (family : AddressFamily) (set : Runs) → IsFamilySet family set
    → IsSetOf (HasIpBlocks (set_text family set)) set
either_written family set is =
    let ensured =
    list_with_its_family family (set_text family set) (map new_ip_block set) (blocks_of_family family set is)
    refl in
    let all = ensured.writes in
    set_of (HasIpBlocks _) set all.values (is_ip_set family set is) (ensured.family, ensured.is, all.have) all.bounds

-- sets of a family
pub printed_as_numbers : (family : AddressFamily) (a b : Runs) → IsFamilySet family a → IsFamilySet family b
    → (set_text family a ≡ set_text family b) ↔ ((n : ℕ) → Holds a n ↔ Holds b n)
printed_as_numbers family a b is also =
    alike_as_numbers (set_text family) a b (is_ip_set family a is) (is_ip_set family b also) (λ printed.
    one_set (HasBlocks family (set_text family b)) (same_blocks family (set_text family b)) a b
    (subst (λ text. IsSetOf (HasBlocks family text) a) printed (family_written family a is))
    (family_written family b also))
