-- A prefix covers another exactly where its bounds lie round the other's, and then it isn't before it.
use Rattle.rpki_prefix.proofs.Common.{Bool, arith, false, true, ◌-◌, ◌≡◌, ◌≤◌, le-leb, leb-true, is_lt, LiesRound}
use Rattle.rpki_prefix.proofs.Common.{last_bits, prefix_cmp, CoversPrefix, FamilyPrefix, address_number, last_addr}
use Rattle.rpki_prefix.proofs.Common.{width}
use Rattle.std.proofs.lemmas.Nat.{pow_pos, pow_below}
use Rattle.std.proofs.lemmas.Bool.Decides.{nat_tests}
use mathlib.Core.Bool.{beq}

-- where the bounds of p lie round those of q, p covers q
pub covers_round : (p q : FamilyPrefix) → LiesRound p q → CoversPrefix p q
covers_round p q r = grind (arith, pow_pos)

-- and where p covers q, they do
pub round_covers : (p q : FamilyPrefix) → CoversPrefix p q → LiesRound p q
round_covers p q c = grind (arith, pow_pos)

-- a prefix that covers another isn't before it
pub not_before : (p q : FamilyPrefix) → p.len ≤ width p.addr → LiesRound p q → is_lt (prefix_cmp p q) ≡ false
not_before p q short r = grind (arith, nat_tests, pow_below, pow_pos)

-- the test of two families says that they are the same
pub same_bool : (a b : Bool) → beq a b ≡ true → a ≡ b
same_bool a b e = grind (arith)

-- and is met where they are
pub beq_same : (a b : Bool) → a ≡ b → beq a b ≡ true
beq_same a b e = grind (arith)

-- the number of the greatest address
pub bits_last : (p : FamilyPrefix) → address_number (last_addr p) ≡ last_bits p
bits_last p = grind (arith)

-- what tells whether a prefix covers another
pub ruleset covering = (beq_same, bits_last, covers_round, le-leb, leb-true, not_before, round_covers, same_bool)
