-- Prefixes inside ranges and inside one another.
use Rattle.rpki_cover.proofs.Common.{arith, ℕ, ◌+◌, ◌-◌, ◌<◌, ◌^◌, ◌≤◌, ◌⊎◌, cases_lt, pow_pos, IsIn, IsParent}
use Rattle.rpki_cover.proofs.Common.{IsPrefix, LiesIn, PrefixValue}
use Rattle.rpki_cover.proofs.Multiples.{IsMultiple, mod_multiple, multiple_gap, multiple_self, multiple_smaller}
use Rattle.rpki_cover.proofs.Multiples.{multiple_sum}
use Rattle.rpki_cover.proofs.PrefixNumbers.{cleared_prefix, cleared_holds}
use Rattle.rpki_cover.specs.Bits.{cleared}

-- the numbers from a to b
abbrev pub InRange : ℕ → ℕ → ℕ → Type 0
InRange a b n = (a ≤ n) × (n ≤ b)

-- the prefix lies from a to b, by its bounds
pub record Within (w : ℕ) (p : PrefixValue) (a b : ℕ) : Type 0 where
  pub from : a ≤ p.first
  pub upto : p.first + 2 ^ (w - p.len) ≤ b + 1

-- a prefix has its first number, and its last
pub first_in : (w : ℕ) (p : PrefixValue) → IsIn w p p.first
first_in w p = grind (arith, pow_pos)

pub last_in : (w : ℕ) (p : PrefixValue) → IsIn w p (p.first + 2 ^ (w - p.len) - 1)
last_in w p = grind (arith, pow_pos)

-- a prefix is inside the range exactly where its bounds are
pub within_of : (w a b : ℕ) (p : PrefixValue) → LiesIn w (InRange a b) p → Within w p a b
within_of w a b p i = grind (arith, first_in, pow_pos)

pub of_within : (w a b : ℕ) (p : PrefixValue) → Within w p a b → LiesIn w (InRange a b) p
of_within w a b p i n h = (omega (arith, i.from, h.from), omega (arith, i.upto, h.upto))

-- its first number is a multiple of how many it has
pub multiple_at : (w : ℕ) (p : PrefixValue) → IsPrefix w p → IsMultiple (2 ^ (w - p.len)) p.first
multiple_at w p is = mod_multiple (w - p.len) p.first is.aligned

-- of two prefixes that share a number the longer lies in the other: the other begins and ends at multiples of its size
pub longer_inside : {w : ℕ} {p q : PrefixValue} → IsPrefix w p → IsPrefix w q → (n : ℕ) → IsIn w p n → IsIn w q n
    → q.len ≤ p.len → LiesIn w (IsIn w q) p
longer_inside {w} {p} {q} is_p is_q n in_p in_q shorter m in_m =
    let begins = multiple_at w q is_q in
    let at = multiple_at w p is_p in
    let smaller = multiple_smaller (w - p.len) (w - q.len) in
    let before = multiple_gap _ p.first q.first at (smaller _ (omega arith) begins) in
    let behind = multiple_gap _ p.first _ at (smaller _ (omega arith) (multiple_sum _ _ _ begins (multiple_self _))) in
    grind (arith, before, behind, cases_lt p.first q.first)

pub prefixes_nested : (w : ℕ) (p q : PrefixValue) → IsPrefix w p → IsPrefix w q → (n : ℕ) → IsIn w p n → IsIn w q n
    → LiesIn w (IsIn w p) q ⊎ LiesIn w (IsIn w q) p
prefixes_nested w p q is_p is_q n in_p in_q =
    grind (arith, cases_lt p.len q.len, longer_inside is_p is_q n in_p in_q, longer_inside is_q is_p n in_q in_p)

-- where one lies in the other, they share its first number
pub nested_share : (w : ℕ) (p q : PrefixValue) → LiesIn w (IsIn w p) q ⊎ LiesIn w (IsIn w q) p
    → (n : ℕ) × IsIn w p n × IsIn w q n
nested_share w p q h = grind (arith, first_in)

-- a prefix of positive length has a parent
pub parent_of : (w : ℕ) (p : PrefixValue) → IsPrefix w p → 0 < p.len → (q : PrefixValue) × IsParent w q p
parent_of w p is pos =
    let q : PrefixValue = record { first = cleared w p.first (p.len - 1); len = p.len - 1 } in
    let prefix : IsPrefix w q = cleared_prefix w p.first (p.len - 1) (omega (arith, is.short)) is.below in
    let held : IsIn w q p.first = cleared_holds w p.first (p.len - 1) in
    let holds = longer_inside is prefix p.first (first_in w p) held (omega arith) in
    (q, record { is_prefix = prefix; shorter = omega arith; holds = holds })
