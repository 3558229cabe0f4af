-- What is seen of octets when one more comes.
use Rattle.origins_lines.proofs.Common.{List, [], arith, inl, inr, length, refl, true, ℕ, ◌++◌, ◌∷◌, ◌≡◌, ◌<◌, ◌↔◌}
use Rattle.origins_lines.proofs.Common.{HasFound, IsFaultInitial, IsTrue}
use Rattle.std.proofs.lemmas.Bool.{or_cases}
use Rattle.std.specs.Prelude.{◌+◌, ◌||◌, min, slice_index_or, suc, take, zero}
use Rattle.origins_lines.specs.Checks.{column_after, column_with, is_found_at, is_found_in}
use Rattle.origins_lines.specs.Checks.{is_state_after, next_column, seen_with}
use Rattle.origins_lines.specs.declared.check.Seen.{Seen}

-- the column after one more octet
column_push : (column : ℕ) (octets : List ℕ) (octet : ℕ)
    → column_after column (octets ++ octet ∷ []) ≡ next_column (column_after column octets) octet
column_push column [] octet = refl
column_push column (first ∷ octets) octet = column_push (next_column column first) octets octet

-- what is looked for is among the octets, or is one more
found_push : (place column : ℕ) (octets : List ℕ) (octet : ℕ) → is_found_in place column (octets ++ octet ∷ [])
    ≡ (is_found_in place column octets || is_found_at place (column_after column octets) octet)
found_push place column [] octet = grind (arith)
found_push place column (first ∷ octets) octet =
    grind (arith, found_push place (next_column column first) octets octet)

-- what `HasFound` says, if `column` octets of its line are before the first octet
abbrev HasFoundFrom : ℕ → ℕ → List ℕ → Type 0
HasFoundFrom place column octets = (at : ℕ) × (at < length octets) × (column_after column (take at octets) ≡ place)
    × IsFaultInitial (slice_index_or octets at 0)

-- the recursion finds an octet if and only if one has such an index
index_of : (place column : ℕ) (octets : List ℕ) → IsTrue (is_found_in place column octets)
    → HasFoundFrom place column octets
index_of place column [] found = absurd (grind arith)
index_of place column (first ∷ octets) found = elim (or_cases (is_found_at place column first) _ found) [
  | inl here ↦ (0, omega arith, grind (arith), grind (arith))
  | inr later ↦ let (at, less, there, is) = index_of place (next_column column first) octets later in
      (suc at, omega (arith, less), there, is)
]

found_of : (place column : ℕ) (octets : List ℕ) → HasFoundFrom place column octets
    → IsTrue (is_found_in place column octets)
found_of place column [] (at, less, there, is) = absurd (omega (arith, less))
found_of place column (first ∷ octets) (zero, less, there, is) = grind (arith)
found_of place column (first ∷ octets) (suc at, less, there, is) =
    grind (arith, found_of place (next_column column first) octets (at, omega (arith, less), there, is))

-- what a state says
state_parts : (seen : Seen) (octets : List ℕ) → is_state_after seen octets ≡ true
    → (seen.column ≡ min (column_after 0 octets) (seen.place + 1))
    × (seen.has_found ≡ is_found_in seen.place 0 octets)
state_parts seen octets is = grind (arith)

state_of : (seen : Seen) (octets : List ℕ) → seen.column ≡ min (column_after 0 octets) (seen.place + 1)
    → seen.has_found ≡ is_found_in seen.place 0 octets → is_state_after seen octets ≡ true
state_of seen octets column found = grind (arith)

-- its column and its place, if `column` octets of the line are before the octet
module _ (seen : Seen) (column octet : ℕ) (at : seen.column ≡ min column (seen.place + 1)) where
  column_next : column_with seen octet ≡ min (next_column column octet) (seen.place + 1)
  column_next = grind (arith)

  found_at : is_found_at seen.place seen.column octet ≡ is_found_at seen.place column octet
  found_at = grind (arith)

-- the state after octets and one more
pub state_with : (seen : Seen) (octets : List ℕ) (octet : ℕ) → is_state_after seen octets ≡ true
    → is_state_after (seen_with seen octet) (octets ++ octet ∷ []) ≡ true
state_with seen octets octet so_far =
    let (column, found) = state_parts seen octets so_far in
    let at = column_after 0 octets in
    state_of (seen_with seen octet) (octets ++ octet ∷ [])
    (rw (column_push 0 octets octet) (column_next seen at octet column))
    (rw (found_push seen.place 0 octets octet, found, found_at seen at octet column) refl)

-- what the state says of octets
pub state_found : (seen : Seen) (octets : List ℕ) → is_state_after seen octets ≡ true
    → IsTrue seen.has_found ↔ HasFound seen.place octets
state_found seen octets so_far =
    rw (state_parts seen octets so_far).1 (index_of seen.place 0 octets, found_of seen.place 0 octets)
