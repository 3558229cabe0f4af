-- The numbers of the blocks of a set, and how many they are.
use Rattle.rpki_as.proofs.Common.{flat_map, sym, take_all, Runs, List, ap, arith, get_or, length, map, subst, take, ℕ}
use Rattle.rpki_as.proofs.Common.{◌+◌, ◌<◌, ◌^◌, ◌∙◌, ◌≡◌, ◌≤◌, length-append, flat_map-map, length-flat_map-take}
use Rattle.rpki_as.proofs.Common.{length-numbers_within, as_bounds, IsListOf, IsSizeOf, numbers_of, numbers_within}
use Rattle.rpki_as.proofs.Common.{AsBlock, Holds, IsAsSet, written_more}
use Rattle.rpki_as.proofs.RunNumberLemmas.{runs_listed, size_below}

-- the numbers of the blocks, block by block, are those of the set
pub numbers_listed : (blocks : List AsBlock) (runs : Runs) → map as_bounds blocks ≡ runs → IsAsSet runs
    → IsListOf (Holds runs) (numbers_of blocks)
numbers_listed blocks runs bounds set =
    subst (IsListOf (Holds runs))
    (ap (flat_map numbers_within) (sym bounds) ∙ flat_map-map numbers_within as_bounds blocks)
    (runs_listed runs set.are_runs.ordered set.are_runs.apart)

-- so they are as many
pub numbers_counted : (blocks : List AsBlock) (runs : Runs) (i count : ℕ) → map as_bounds blocks ≡ runs → IsAsSet runs
    → length blocks ≤ i → count ≡ length (numbers_of (take i blocks)) → IsSizeOf (Holds runs) count
numbers_counted blocks runs i count bounds set all is = record {
  list = numbers_of blocks;
  is_list = numbers_listed blocks runs bounds set;
  size = sym (is ∙ ap (λ (xs : List AsBlock). length (numbers_of xs)) (take_all i blocks all));
}

-- one more block is counted
pub count_step : (blocks : List AsBlock) (i count k : ℕ) (x : AsBlock) → i < length blocks → x ≡ get_or blocks i x
    → count ≡ length (numbers_of (take i blocks)) → k + (as_bounds x).0 ≡ (as_bounds x).1 + 1
    → count + k ≡ length (numbers_of (take (i + 1) blocks))
count_step blocks i count k x small here so_far is =
    let more = ap length (written_more (λ (y : AsBlock). numbers_within (as_bounds y)) blocks i x small here) in
    grind (arith, length-append, length-numbers_within, more)

-- and all of them are no more than there are AS numbers
pub count_fits : (blocks : List AsBlock) (runs : Runs) (i count k : ℕ) (x : AsBlock) → map as_bounds blocks ≡ runs
    → IsAsSet runs → i < length blocks → x ≡ get_or blocks i x → count ≡ length (numbers_of (take i blocks))
    → k + (as_bounds x).0 ≡ (as_bounds x).1 + 1 → count + k ≤ 2 ^ 32
count_fits blocks runs i count k x bounds set small here so_far is =
    let all = numbers_counted blocks runs (length blocks) (length (numbers_of blocks)) bounds set (omega arith)
    (ap (λ (xs : List AsBlock). length (numbers_of xs)) (sym (take_all (length blocks) blocks (omega arith)))) in
    let fits = size_below (2 ^ 32) (Holds runs) (length (numbers_of blocks)) all (λ n (j, b, inside, there, within).
    let limit : (get_or runs j b).1 ≤ 4294967295 = set.below j b inside in
    let greatest = ap (λ (y : ℕ × ℕ). y.1) there in
    omega (arith, within.1)) in
    let part = length-flat_map-take (λ (y : AsBlock). numbers_within (as_bounds y)) blocks i x small in
    let long = length-numbers_within (as_bounds x) in
    let same = ap (λ (y : AsBlock). length (numbers_within (as_bounds y))) here in
    omega arith
