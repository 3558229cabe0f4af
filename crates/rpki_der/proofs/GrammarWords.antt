-- Grammars and their readings, as the proofs name them.
use Rattle.std.proofs.Common.{List, Result, ℕ}
use Rattle.rpki_der.specs.declared.error.DerError.{DerError}

-- which octets are a value, and which value they are
abbrev pub Grammar : Type 0 → Type 1
Grammar X = List ℕ → X → Type 0

-- the value at the front of octets and what follows it, or a fault
abbrev pub Reading : Type 0 → Type 0
Reading X = List ℕ → Result (X × List ℕ) DerError
