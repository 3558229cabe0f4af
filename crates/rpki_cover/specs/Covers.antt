-- Covers: lists of prefixes that have exactly the numbers of a set. w is the width, which is the number of bits of
-- the numbers.
use Rattle.std.specs.Prelude.{◌≡◌, ℕ, ◌+◌, ◌-◌, ◌*◌, ◌^◌, ◌≤◌, ◌↔◌, List, [], ◌∷◌, length, map}
use Rattle.std.specs.List.{All, Contains}
use Rattle.rpki_cover.specs.Prefixes.{PrefixValue, IsPrefix, IsIn, IsMaximal}

-- the prefixes ascend: each ends before the later ones begin, so no two have a number in common
abbrev pub Ascends : ℕ → List PrefixValue → Type 0
Ascends w [] = Unit {0}
Ascends w (p ∷ ps) = All (λ q. p.first + 2 ^ (w - p.len) ≤ q.first) ps × Ascends w ps

-- the cover list of S: the ascending list of all maximal prefixes inside S
pub record IsCoverList (w : ℕ) (S : ℕ → Type 0) (ps : List PrefixValue) : Type 0 where
  pub ascending : Ascends w ps
  pub members : (p : PrefixValue) → Contains ps p ↔ IsMaximal w S p

-- n is a number of at least one prefix of the list
abbrev pub IsInSome : ℕ → List PrefixValue → ℕ → Type 0
IsInSome w ps n = (p : PrefixValue) × Contains ps p × IsIn w p n

-- the union of the prefixes is S
abbrev pub HasUnion : ℕ → (ℕ → Type 0) → List PrefixValue → Type 0
HasUnion w S ps = (n : ℕ) → S n ↔ IsInSome w ps n

-- no list of prefixes, of any lengths, with the union S is shorter
abbrev pub IsShortest : ℕ → (ℕ → Type 0) → List PrefixValue → Type 0
IsShortest w S ps = (qs : List PrefixValue) → All (IsPrefix w) qs → HasUnion w S qs → length ps ≤ length qs

-- The shortest cover of S is its cover list. It has the union S, no shorter list of prefixes has this union, and S
-- has no other cover list.
pub record IsShortestCover (w : ℕ) (S : ℕ → Type 0) (ps : List PrefixValue) : Type 0 where
  pub list : IsCoverList w S ps
  pub union : HasUnion w S ps
  pub shortest : IsShortest w S ps
  pub only : (qs : List PrefixValue) → IsCoverList w S qs → qs ≡ ps

-- a prefix of IPv4 addresses as a prefix of addresses of 128 bits: 96 bits follow those of an IPv4 address
abbrev pub widened : PrefixValue → PrefixValue
widened p = record { first = p.first * 2 ^ 96; len = p.len }

-- the cover list, at width 32, of a set of IPv4 addresses, as prefixes of addresses of 128 bits
pub record IsV4CoverList (S : ℕ → Type 0) (ps : List PrefixValue) : Type 0 where
  pub short : List PrefixValue
  pub lists : IsCoverList 32 S short
  pub widens : ps ≡ map widened short
