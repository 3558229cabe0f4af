-- The block of given bounds has these bounds.
use Rattle.std.proofs.Common.{◌≡◌, ℕ, zero, suc, ◌+◌, ◌-◌, ◌^◌, ◌≤◌, Bool, true, false, ◌&&◌, refl, ap, sym, ◌∙◌, arith}
use Rattle.std.proofs.Common.{Option, Some, None}
use Rattle.std.specs.Prelude.{◌%◌, ◌==◌, if◌then◌else◌}
use Rattle.std.proofs.lemmas.Bool.{eqb-true}
use Rattle.rpki_ip_block.specs.Blocks.{prefix_bounds, ip_bounds, has_length, length_upto, length_of, block_from}
use Rattle.rpki_ip_block.specs.Blocks.{new_ip_block}

-- both parts of a test that succeeds
pub both_pass : (a b : Bool) → (a && b) ≡ true → (a ≡ true) × (b ≡ true)
both_pass true b h = (refl, h)
both_pass false b h = absurd (let z : false ≡ true = h in cc)

-- bounds with a length are those of a prefix of that length
pub bounds_of_length : (b : ℕ × ℕ) (len : ℕ) → has_length b len ≡ true
    → prefix_bounds (record { first = b.0; len = len }) ≡ b
unfolding has_length
bounds_of_length b len has =
    let count : b.0 + 2 ^ (128 - len) ≡ b.1 + 1 =
    eqb-true _ _ (both_pass (b.0 % 2 ^ (128 - len) == 0) (b.0 + 2 ^ (128 - len) == b.1 + 1) has).1 in
    let last : b.0 + 2 ^ (128 - len) - 1 ≡ b.1 = omega (arith, count) in
    λ i. (b.0, last i)

-- a length that is found for bounds is one that they have
pub found_length : (n : ℕ) (b : ℕ × ℕ) (len : ℕ) → length_upto n b ≡ Some len → (len ≤ n) × (has_length b len ≡ true)
unfolding length_upto
found_length zero b len found = by_test (has_length b zero) refl
  where
    by_test : (t : Bool) → has_length b zero ≡ t → (len ≤ zero) × (has_length b len ≡ true)
    by_test true here =
        let same : Some zero ≡ Some len = ap (λ (t : Bool). if t then Some zero else None) (sym here) ∙ found in
        let is : zero ≡ len = cc in
        (omega (arith, is), ap (has_length b) (sym is) ∙ here)
    by_test false here =
        let none : None ≡ Some len = ap (λ (t : Bool). if t then Some zero else None) (sym here) ∙ found in
        absurd cc
found_length (suc n) b len found = by_test (has_length b (suc n)) refl (found_length n b len)
  where
    by_test : (t : Bool) → has_length b (suc n) ≡ t
        → (length_upto n b ≡ Some len → (len ≤ n) × (has_length b len ≡ true))
        → (len ≤ suc n) × (has_length b len ≡ true)
    by_test true here before =
        let same : Some (suc n) ≡ Some len =
        ap (λ (t : Bool). if t then Some (suc n) else length_upto n b) (sym here) ∙ found in
        let is : suc n ≡ len = cc in
        (omega (arith, is), ap (has_length b) (sym is) ∙ here)
    by_test false here before =
        let (small, has) = before (ap (λ (t : Bool). if t then Some (suc n) else length_upto n b) (sym here) ∙ found) in
        (omega (arith, small), has)

-- the block of given bounds has these bounds
pub new_ip_block_bounds : (b : ℕ × ℕ) → ip_bounds (new_ip_block b) ≡ b
unfolding length_of
new_ip_block_bounds b = by_length (length_of b) refl
  where
    by_length : (o : Option ℕ) → length_of b ≡ o → ip_bounds (block_from b o) ≡ b
    by_length None e = refl
    by_length (Some len) e = bounds_of_length b len (found_length 128 b len e).1
