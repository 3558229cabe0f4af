-- What a checked sink does to the bytes that are known to be written.
use Rattle.lines_engine.proofs.Common.{Bool, List, Option, arith, true, ℕ, ◌++◌, ◌≡◌, Appends}
use Rattle.lines_engine.proofs.Common.{IfSome, Keeps}
use Rattle.lines_engine.specs.Device.{known_if}

-- it grows as the sink in it does
pub known_more : (old new : Option (List ℕ)) (sees after : List ℕ → Bool) (more : List ℕ) → Appends old new more
    → ((bytes : List ℕ) → sees bytes ≡ true → after (bytes ++ more) ≡ true)
    → Appends (known_if sees old) (known_if after new) more
known_more old new sees after more grew each = grind (arith)

pub known_kept : (old new : Option (List ℕ)) (sees : List ℕ → Bool) → Keeps old new
    → Keeps (known_if sees old) (known_if sees new)
known_kept old new sees kept = grind (arith)

-- what holds of all bytes that a state sees holds of the known ones
pub known_found : (known : Option (List ℕ)) (sees : List ℕ → Bool) (P : List ℕ → Type 0)
    → ((bytes : List ℕ) → sees bytes ≡ true → P bytes) → IfSome (known_if sees known) P
known_found known sees P each = grind (arith)
