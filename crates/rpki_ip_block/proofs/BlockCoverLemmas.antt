-- Covers of blocks: those of their bounds, one after the other.
use Rattle.rpki_ip_block.proofs.Common.{List, Option, arith, ℕ, ◌++◌, ◌-◌, ◌<◌, ◌^◌, ◌≡◌, ◌≤◌, pow_pos, PrefixValue}
use Rattle.rpki_ip_block.proofs.Common.{ip_bounds, IpBlock, IsBlock, Prefix, Range}
use Rattle.std.specs.Iterator.{YieldsFirst}
use Rattle.rpki_block.specs.Bounds.{IsWithin}
use Rattle.rpki_cover.proofs.Multiples.{mod_multiple, multiple_gap, multiple_self, multiple_smaller}
use Rattle.rpki_cover.proofs.ShortestCover.{range_cover}
use Rattle.rpki_cover.specs.Covers.{IsShortestCover}
use Rattle.rpki_cover.specs.Walk.{cover_list}

-- a block has addresses of 128 bits
pub block_below : (b : IpBlock) → IsBlock b → (ip_bounds b).1 < 2 ^ 128
block_below (Prefix p) is =
    let all = multiple_smaller (128 - p.len) 128 (2 ^ 128) (omega arith) (multiple_self (2 ^ 128)) in
    let whole = mod_multiple (128 - p.len) p.first is.aligned in
    let fits = multiple_gap (2 ^ (128 - p.len)) p.first (2 ^ 128) whole all is.below in
    omega (arith, fits, pow_pos (128 - p.len))
block_below (Range r) is = is.below

-- what is left is the shortest cover of a range, and then others: a step at the former is a step
pub set_step : (o : Option PrefixValue) (old current new rest : List PrefixValue) (b : ℕ × ℕ) → b.0 ≤ b.1
    → b.1 < 2 ^ 128 → IsShortestCover 128 (IsWithin b) current
    → YieldsFirst (λ (ps : List PrefixValue). ps) current o new → old ≡ cover_list 128 b.0 b.1 ++ rest
    → YieldsFirst (λ (ps : List PrefixValue). ps) old o (new ++ rest)
set_step o old current new rest b order below is first e =
    let same = is.only (cover_list 128 b.0 b.1) (range_cover 128 b.0 b.1 below).list in
    -- the cover list of a range has a prefix
    let some = (is.union b.0).0 (omega arith, order) in
    grind (arith, same, some)
