-- The shortest prefixes that begin or end with an address.
use Rattle.rpki_ip.proofs.Common.{cleared_first, IsPrefix, PrefixValue, last_of, ap, arith, refl, sym, ℕ, ◌+◌, ◌-◌, ◌<◌}
use Rattle.rpki_ip.proofs.Common.{◌^◌, ◌∙◌, ◌≡◌, ◌≤◌, div-mul-add, pow_pos, trailing_le, bit_not, trailing_ones}
use Rattle.rpki_ip.proofs.Common.{trailing_zeros, w128, count_trailing_zeros, cleared, IsMultiple, mod_multiple}
use Rattle.rpki_ip.proofs.Common.{multiple_diff, multiple_least, multiple_mod, multiple_self, multiple_smaller}
use Rattle.rpki_ip.proofs.Common.{multiple_sum, zeros_divide, zeros_greatest, IsShortestFrom, IsShortestTo}
use Rattle.rpki_ip.proofs.Common.{without_end_ones, without_end_zeros}

-- ---- a first address

-- an address without the zeros at its end is the shortest prefix that begins with it
pub shortest_from_is : (a : ℕ) → a < 2 ^ 128 → IsShortestFrom a (without_end_zeros a)
shortest_from_is a lt =
    let few : count_trailing_zeros 128 a ≤ 128 = trailing_le 128 a in
    let back : 128 - (128 - count_trailing_zeros 128 a) ≡ count_trailing_zeros 128 a = omega arith in
    let whole = multiple_mod (2 ^ count_trailing_zeros 128 a) a (pow_pos _) (zeros_divide 128 a) in
    record {
      is_prefix = record { short = omega arith; aligned = rw back whole; below = lt };
      begins = refl;
      shortest = λ q is e.
          let m = mod_multiple (128 - q.len) q.first is.aligned in
          omega (arith, is.short, zeros_greatest 128 a (128 - q.len) (omega arith) (rw e at m));
    }

-- clearing the bits behind it changes nothing
pub cleared_from : (a : ℕ) → a < 2 ^ 128 → cleared 128 a (128 - trailing_zeros w128 a) ≡ a
cleared_from a lt = cleared_first 128 (without_end_zeros a) (shortest_from_is a lt).is_prefix

-- ---- a last address

-- a power of 2 that divides what is left up to a greater one divides the rest
rest_multiple : (w k a b : ℕ) → k ≤ w → a + b ≡ 2 ^ w → IsMultiple (2 ^ k) a → IsMultiple (2 ^ k) b
rest_multiple w k a b le sum m =
    grind (arith, multiple_diff (2 ^ k) a (2 ^ w) m, multiple_self, multiple_smaller k w (2 ^ w) le)

-- the number behind an address is a multiple of the power of 2 that its ones at the end are
ones_end : (a : ℕ) → a < 2 ^ 128 → IsMultiple (2 ^ trailing_ones w128 a) (a + 1)
ones_end a lt =
    rest_multiple 128 _ (bit_not w128 a) (a + 1) (trailing_le 128 _) (omega arith) (zeros_divide 128 (bit_not w128 a))

-- an address without the ones at its end is the shortest prefix that ends with it
pub shortest_to_is : (a : ℕ) → a < 2 ^ 128 → IsShortestTo a (without_end_ones a)
shortest_to_is a lt =
    let few : trailing_ones w128 a ≤ 128 = trailing_le 128 (bit_not w128 a) in
    let back : 128 - (128 - trailing_ones w128 a) ≡ trailing_ones w128 a = omega arith in
    let m : IsMultiple (2 ^ trailing_ones w128 a) (a + 1) = ones_end a lt in
    let pos = pow_pos (trailing_ones w128 a) in
    let enough = multiple_least (2 ^ trailing_ones w128 a) a m in
    let first = multiple_diff _ _ (a + 1) (multiple_self (2 ^ trailing_ones w128 a)) m in
    record {
      is_prefix = record { short = omega arith; aligned = rw back (multiple_mod _ _ pos first); below = omega arith };
      ends = rw back (omega arith);
      shortest = λ q is e.
          let some : 0 < 2 ^ (128 - q.len) = pow_pos (128 - q.len) in
          let z = multiple_sum _ _ _ (mod_multiple (128 - q.len) q.first is.aligned) (multiple_self _) in
          let next : q.first + 2 ^ (128 - q.len) ≡ a + 1 = omega (arith, e, some) in
          let n = rest_multiple 128 (128 - q.len) (a + 1) (bit_not w128 a) (omega arith) (omega arith) (rw next at z) in
          omega (arith, is.short, zeros_greatest 128 (bit_not w128 a) (128 - q.len) (omega arith) n);
    }

-- clearing the bits of a prefix's last number that are behind its length gives the first
cleared_last : (p : PrefixValue) → IsPrefix 128 p → cleared 128 (last_of 128 p) p.len ≡ p.first
cleared_last p is =
    let m = mod_multiple (128 - p.len) p.first is.aligned in
    let count : 0 < 2 ^ (128 - p.len) = pow_pos (128 - p.len) in
    grind (arith, div-mul-add m.times (2 ^ (128 - p.len)) (2 ^ (128 - p.len) - 1))

-- so clearing the bits behind it clears these ones
pub cleared_to : (a : ℕ) → a < 2 ^ 128 → cleared 128 a (128 - trailing_ones w128 a) ≡ a + 1 - 2 ^ trailing_ones w128 a
cleared_to a lt =
    let to = shortest_to_is a lt in
    ap (λ n. cleared 128 n (128 - trailing_ones w128 a)) (sym to.ends) ∙ cleared_last (without_end_ones a) to.is_prefix
