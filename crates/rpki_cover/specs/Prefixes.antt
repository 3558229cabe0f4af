-- Prefixes of a width: 32 bits for IPv4, 128 bits for IPv6 and for addresses of either family.
use Rattle.std.specs.Prelude.{◌≡◌, ℕ, ◌+◌, ◌-◌, ◌%◌, ◌^◌, ◌<◌, ◌≤◌}

-- the model of a prefix: its first number, and the number of its leading bits that are fixed
pub record PrefixValue : Type 0 where
  pub first : ℕ
  pub len : ℕ

-- p is a prefix of width w: its first number, of w bits, is a multiple of the number of its numbers (RFC 3779, 2.1.1)
pub record IsPrefix (w : ℕ) (p : PrefixValue) : Type 0 where
  pub short : p.len ≤ w
  pub aligned : p.first % 2 ^ (w - p.len) ≡ 0
  pub below : p.first < 2 ^ w

-- n is one of the numbers of the prefix p of width w
pub record IsIn (w : ℕ) (p : PrefixValue) (n : ℕ) : Type 0 where
  pub from : p.first ≤ n
  pub upto : n < p.first + 2 ^ (w - p.len)

-- each number of p is in the set S
abbrev pub LiesIn : ℕ → (ℕ → Type 0) → PrefixValue → Type 0
LiesIn w S p = (n : ℕ) → IsIn w p n → S n

-- q is the parent of p: it is one bit shorter, and holds p
pub record IsParent (w : ℕ) (q p : PrefixValue) : Type 0 where
  pub is_prefix : IsPrefix w q
  pub shorter : p.len ≡ q.len + 1
  pub holds : LiesIn w (IsIn w q) p

-- p is a maximal prefix inside S: it has no parent inside S
pub record IsMaximal (w : ℕ) (S : ℕ → Type 0) (p : PrefixValue) : Type 0 where
  pub is_prefix : IsPrefix w p
  pub inside : LiesIn w S p
  pub greatest : (q : PrefixValue) → IsParent w q p → ¬ LiesIn w S q

-- the highest number of a prefix
abbrev pub last_of : ℕ → PrefixValue → ℕ
last_of w p = p.first + 2 ^ (w - p.len) - 1
