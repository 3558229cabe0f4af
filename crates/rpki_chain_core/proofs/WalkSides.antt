-- One side of a walk over two chains: the block at hand, and the numbers before it.
use Rattle.rpki_chain_core.proofs.Common.{List, MatchOption, None, Option, Some, ap, arith, get_or, length, ℕ, ◌+◌, ◌<◌}
use Rattle.rpki_chain_core.proofs.Common.{◌≡◌, ◌≤◌, cases_lt, option_map, Before, Covers, HoldsBlock, IsChain, numbers}
use Rattle.rpki_chain_core.proofs.Chains.{Covers-at, element_at, ascends}

-- the block at an index is at hand, or none is at the end of the list
abbrev pub IsAt : {B : Type 0} → (B → ℕ × ℕ) → List B → ℕ → Option (ℕ × ℕ) → Type 0
IsAt {B} f xs i block = MatchOption block (i ≡ length xs) (λ b. (i < length xs) × ((d : B) → f (get_or xs i d) ≡ b))

-- the numbers of what was read
abbrev pub bounds_of : {I : Type 0} → (I → ℕ) → Option (I × I) → Option (ℕ × ℕ)
bounds_of number b = option_map (numbers number) b

-- what was read is the block at hand
pub IsAt-from : {B I : Type 0} (f : B → ℕ × ℕ) (number : I → ℕ) (last : ℕ) (xs : List B) (i : ℕ)
    (block : Option (I × I)) → HoldsBlock f number last xs i block → IsAt f xs i (bounds_of number block)
IsAt-from f number last xs i block h = grind (arith)

module _ {B : Type 0} (f : B → ℕ × ℕ) (form : ℕ × ℕ → B) where
  module _ (xs : List B) (i : ℕ) (b : ℕ × ℕ) (h : IsChain f form xs) (at : IsAt f xs i (Some b)) where
    -- the block at hand, by some element
    pub low_at : (d : B) → (f (get_or xs i d)).0 ≡ b.0
    low_at d = ap (λ (p : ℕ × ℕ). p.0) (at.1 d)

    pub high_at : (d : B) → (f (get_or xs i d)).1 ≡ b.1
    high_at d = ap (λ (p : ℕ × ℕ). p.1) (at.1 d)

    pub ordered_at : b.0 ≤ b.1
    ordered_at = let x = (element_at xs i at.0).0 in grind (arith, h.ordered i x, at.1 x)

    pub covers_at : (n : ℕ) → b.0 ≤ n → n ≤ b.1 → Covers f xs n
    covers_at n from to = let x = (element_at xs i at.0).0 in Covers-at f xs i n x at.0 (rw (at.1 x) (from, to))

    -- which block a number is in
    pub index_before : (k : ℕ) (x : B) → k < length xs → (f (get_or xs k x)).0 < b.0 → k < i
    index_before k x lt less = grind (arith, cases_lt, ascends, low_at)

    -- there is a gap before the block at hand
    pub gap_before : (n : ℕ) → Covers f xs n → n < b.0 → n + 1 < b.0
    gap_before n c less = grind (arith, cases_lt, low_at, index_before)

  -- a number that comes before the block at an index lies in an earlier block
  pub lies_before : (xs : List B) (i : ℕ) (b : Option (ℕ × ℕ)) → IsChain f form xs → IsAt f xs i b → (n : ℕ)
      → (c : Covers f xs n) → Before b n → c.0 < i
  lies_before xs i None h at n c before = grind (arith)
  lies_before xs i (Some b) h at n c before = index_before xs i b h at c.0 c.1 c.2 (grind (arith))

  module _ (xs : List B) (i : ℕ) (b : ℕ × ℕ) (h : IsChain f form xs) (at : IsAt f xs i (Some b)) where
    -- what comes before the next block ends with this one
    pub up_to : (next : Option (ℕ × ℕ)) → IsAt f xs (i + 1) next → (n : ℕ) → Covers f xs n → Before next n → n ≤ b.1
    up_to next after n c before = grind (arith, cases_lt, high_at, lies_before xs (i + 1) next h after n c before)

    -- and the other way round
    pub before_next : (next : Option (ℕ × ℕ)) → IsAt f xs (i + 1) next → (n : ℕ) → n ≤ b.1 → Before next n
    before_next None after n le = tt
    before_next (Some c) after n le =
        let x = (element_at xs i at.0).0 in
        grind (arith, h.apart i (i + 1) x, at.1 x, after.1 x)
