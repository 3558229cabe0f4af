-- The test of where a block may begin says so.
use Rattle.std.proofs.Common.{Option, arith, true, ℕ, ◌≡◌}
use Rattle.std.proofs.lemmas.Bool.{lt-ltb, ltb-true}
use Rattle.rpki_block.specs.Beyond.{IsBeyond, is_beyond}

pub beyond_is : (before : Option ℕ) (n : ℕ) → is_beyond before n ≡ true → IsBeyond before n
beyond_is before n e = grind (arith, ltb-true)

pub is_beyond_of : (before : Option ℕ) (n : ℕ) → IsBeyond before n → is_beyond before n ≡ true
is_beyond_of before n e = grind (arith, lt-ltb)
