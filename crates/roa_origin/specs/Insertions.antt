-- A list of VRPs in which one is being moved to its place in a table's order.
use Rattle.std.specs.Prelude.{◌≢◌, ℕ, ◌<◌, ◌≤◌, List, slice_index_or}
use Rattle.roa_origin.specs.Vrps.{Vrp}
use Rattle.roa_origin.specs.Places.{table_place}

-- the first n VRPs are in a table's order
abbrev pub RisesTo : ℕ → List Vrp → Type 0
RisesTo n xs =
    (i j : ℕ) (d : Vrp) → i ≤ j → j < n → table_place (slice_index_or xs i d) ≤ table_place (slice_index_or xs j d)

-- The VRPs up to index `at` are in a table's order, except for the one at index `place`. It comes by those after it.
pub record IsInserting (xs : List Vrp) (place at : ℕ) : Type 0 where
  pub within : place ≤ at
  pub others : (i j : ℕ) (d : Vrp) → i ≤ j → j ≤ at → i ≢ place → j ≢ place
      → table_place (slice_index_or xs i d) ≤ table_place (slice_index_or xs j d)
  pub later : (j : ℕ) (d : Vrp) → place < j → j ≤ at
      → table_place (slice_index_or xs place d) ≤ table_place (slice_index_or xs j d)
