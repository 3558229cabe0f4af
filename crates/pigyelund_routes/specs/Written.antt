-- Elements of arrays that are written into a caller's buffer.
use Rattle.std.specs.Prelude.{◌≡◌, ◌⊎◌, ◌<◌, ℕ, List, ◌++◌, length, drop}

-- The items are at the front of a buffer, and the rest of it is unchanged.
abbrev pub IsPut : {X : Type 0} → List X → List X → List X → Type 0
IsPut items before after = after ≡ items ++ drop (length items) before

-- Items for which P holds are at the front of a buffer, and the rest of it is unchanged.
abbrev pub IsPutFor : {X : Type 0} → (List X → Type 0) → List X → List X → Type 0
IsPutFor {X} P before after = (items : List X) × P items × IsPut items before after

-- The items are written whole and the status is 0, or the buffer is unchanged and the status is 256. The length is the
-- number of items.
abbrev pub AreWritten : {X : Type 0} → List X → List X → List X → ℕ → ℕ → Type 0
AreWritten items before after len result =
    (len ≡ length items)
    × (((result ≡ 256) × (after ≡ before) × (length before < len)) ⊎ ((result ≡ 0) × IsPut items before after))

-- Two lists are written whole and the status is 0, or both buffers are unchanged, one of them is too small and the
-- status is 256. The lengths are those of the lists.
abbrev pub AreBothWritten : {X : Type 0} → List X → List X → List X → List X → ℕ → List X → List X → ℕ → ℕ → Type 0
AreBothWritten ones others before after len other_before other_after other_len result =
    (len ≡ length ones) × (other_len ≡ length others)
    × (((result ≡ 256) × (after ≡ before) × (other_after ≡ other_before)
    × ((length before < len) ⊎ (length other_before < other_len)))
    ⊎ ((result ≡ 0) × IsPut ones before after × IsPut others other_before other_after))

-- Items for which P holds are returned. Otherwise the status is that of a reason for which N holds, or 512, and nothing
-- is written.
abbrev pub IsAnswered : {X : Type 0} → (R : Type 0) → (List X → Type 0) → (R → ℕ) → (R → Type 0) → List X → List X → ℕ
    → ℕ → Type 0
IsAnswered {X} R P status N before after len result =
    ((items : List X) × P items × AreWritten items before after len result)
    ⊎ (((reason : R) × N reason × (result ≡ status reason) × (after ≡ before) × (len ≡ 0))
    ⊎ ((result ≡ 512) × (after ≡ before) × (len ≡ 0)))
