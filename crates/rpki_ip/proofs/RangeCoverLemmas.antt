-- Covers of ranges of addresses.
use Rattle.rpki_ip.proofs.Common.{List, arith, ℕ, ◌%◌, ◌*◌, ◌^◌, ◌≡◌, cleared_first, cleared, IsPrefix, PrefixValue}
use Rattle.rpki_ip.proofs.Common.{IsWithin, widened_prefix, IsShortestCover, widened}
use Rattle.rpki_cover.proofs.NestedPrefixes.{InRange}

-- the cover of a range of other numbers that are the same
pub range_of : (w a b x y : ℕ) (ps : List PrefixValue) → x ≡ a → y ≡ b → IsShortestCover w (InRange x y) ps
    → IsShortestCover w (IsWithin (a, b)) ps
range_of w a b x y ps e f k = rw (← e, ← f) k

-- 96 bits behind the first number of a prefix of IPv4 addresses lose none, and clearing the bits behind its length
-- changes nothing: so `Prefix::new` makes that prefix of them
pub widened_made : (p q : PrefixValue) (n first len : ℕ) → IsPrefix 32 p
    → q ≡ record { first = cleared 128 n len; len = len } → n ≡ first * 2 ^ 96 % 2 ^ 128 → first ≡ p.first → len ≡ p.len
    → q ≡ widened p
widened_made p q n first len is e f g h = grind (arith, cleared_first 128 (widened p) (widened_prefix p is))
