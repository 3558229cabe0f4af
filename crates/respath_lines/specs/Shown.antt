-- How an answer shows the result of a call.
use Rattle.std.specs.Prelude.{◌≡◌, ◌⊎◌, ℕ, List, ◌++◌, Option, IfSome, Result, Ok, Err, codes}
use Rattle.rpki_text.specs.declared.memory.OrMemory.{OrMemory}
use Rattle.rpki_text.specs.declared.memory.OrMemory.TheVariants.{Refused, Memory}

-- the text of a fault after `error: `
abbrev pub error_line : List ℕ → List ℕ
error_line fault = codes "error: " ++ fault

-- the text is that of a value for which Has holds, or `error: ` and that of a fault for which Fails holds
abbrev pub ShowsValueOrFault : {V E : Type 0} → (V → Type 0) → (V → List ℕ) → (E → Type 0) → (E → List ℕ) → List ℕ
    → Type 0
ShowsValueOrFault {V} {E} Has value_text Fails fault_text text =
    ((value : V) × Has value × (text ≡ value_text value))
    ⊎ ((fault : E) × Fails fault × (text ≡ error_line (fault_text fault)))

-- The text is that of the result of a call, whose value or fault prints a text if the text is known. An out-of-memory
-- error has no text.
abbrev pub ShowsResult : {V E : Type 0} → (V → Option (List ℕ)) → (E → Option (List ℕ)) → Result V (OrMemory E)
    → List ℕ → Type 0
ShowsResult value_output fault_output (Ok value) text = IfSome (value_output value) (λ printed. text ≡ printed)
ShowsResult value_output fault_output (Err (Refused fault)) text =
    IfSome (fault_output fault) (λ printed. text ≡ error_line printed)
ShowsResult value_output fault_output (Err (Memory error)) text = ⊥
