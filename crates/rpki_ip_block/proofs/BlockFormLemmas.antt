-- Which blocks are in new form, and prefixes of a family as prefixes of 128 bits.
use Rattle.rpki_ip_block.proofs.Common.{V4, V6, None, Option, Some, arith, refl, suc, true, zero, ℕ, ◌<◌, ◌^◌, ◌≡◌, ◌≤◌}
use Rattle.rpki_ip_block.proofs.Common.{cases_order, eq-eqb, pow_below, pow_pos, cleared_first, first_of, cleared}
use Rattle.rpki_ip_block.proofs.Common.{IsPrefix, PrefixValue, IpAddr, IsRangeOf, RangeValue, range_bounds}
use Rattle.rpki_ip_block.proofs.Common.{FamilyPrefix, IsFamilyPrefix, block_from, has_length, length_of, length_upto}
use Rattle.rpki_ip_block.proofs.Common.{new_ip_block, prefix_bounds, IsBlock, Prefix, Range}
use Rattle.rpki_ip.proofs.Common.{widened_prefix}
use Rattle.rpki_ip_block.specs.BlockFormLaws.{bounds_of_length, found_length}

-- where no length is found, none up to the limit is had
no_length : (n k : ℕ) (b : ℕ × ℕ) → k ≤ n → length_upto n b ≡ None → has_length b k ≡ true → ⊥
unfolding length_upto
no_length zero k b small none has = grind (arith)
no_length (suc n) k b small none has = grind (arith, cases_order, no_length n k b)

-- so it is the block of its bounds
pub new_prefix : (p : PrefixValue) → IsPrefix 128 p → Prefix p ≡ new_ip_block (prefix_bounds p)
unfolding length_of has_length
new_prefix p is = by_length (length_of (prefix_bounds p)) refl
  where
    by_length : (o : Option ℕ) → length_of (prefix_bounds p) ≡ o → Prefix p ≡ block_from (prefix_bounds p) o
    by_length None e = absurd (no_length 128 p.len (prefix_bounds p) is.short e (grind (arith, eq-eqb, pow_pos)))
    by_length (Some len) e =
        let (short, has) = found_length 128 (prefix_bounds p) len e in
        grind (arith, bounds_of_length (prefix_bounds p) len has, cases_order p.len len, pow_below, pow_pos)

-- bounds with a length begin a prefix of that length
prefix_of_length : (b : ℕ × ℕ) (len : ℕ) → b.1 < 2 ^ 128 → len ≤ 128 → has_length b len ≡ true
    → IsPrefix 128 (record { first = b.0; len = len })
unfolding has_length
prefix_of_length b len below short has = grind arith

-- a range of no prefix is the block of its bounds
pub new_range : (r : RangeValue) → r.max < 2 ^ 128 → ((p : PrefixValue) → IsPrefix 128 p → IsRangeOf p r → ⊥)
    → Range r ≡ new_ip_block (range_bounds r)
unfolding length_of
new_range r below no_prefix = by_length (length_of (range_bounds r)) refl
  where
    by_length : (o : Option ℕ) → length_of (range_bounds r) ≡ o → Range r ≡ block_from (range_bounds r) o
    by_length None e = refl
    by_length (Some len) e =
        let (short, has) = found_length 128 (range_bounds r) len e in
        let p : PrefixValue = record { first = r.min; len = len } in
        absurd (no_prefix p (prefix_of_length (range_bounds r) len below short has)
        (grind (arith, bounds_of_length (range_bounds r) len has)))

-- a block that is made of the bounds of addresses is one of addresses
pub new_block_fits : (b : ℕ × ℕ) → b.0 ≤ b.1 → b.1 < 2 ^ 128 → IsBlock (new_ip_block b)
unfolding length_of
new_block_fits b ordered below = grind (arith, found_length, prefix_of_length)

-- a prefix of either family is one of 128 bits, in IPv4 with 96 zeros behind its address
prefix_of : (a : IpAddr) (len : ℕ) → IsFamilyPrefix (record { addr = a; len = len })
    → IsPrefix 128 (record { first = first_of a; len = len })
prefix_of (V4 n) len is = widened_prefix (record { first = n; len = len }) (grind arith)
prefix_of (V6 n) len is = grind arith

-- whose address has no bits behind its length
pub family_prefix : (p : FamilyPrefix) → IsFamilyPrefix p → cleared 128 (first_of p.addr) p.len ≡ first_of p.addr
family_prefix p is = cleared_first 128 (record { first = first_of p.addr; len = p.len }) (prefix_of p.addr p.len is)
