-- A router's table after the changes that a cache sends (RFC 8210, 5.3, 5.6, 5.7, 5.11 and 12).
use Rattle.std.specs.Prelude.{◌≡◌, ℕ, ◌+◌, ◌*◌, ◌^◌, ◌<◌, ◌≤◌, ◌⊎◌, List, ◌++◌, All, Any, length, map, slice_index_or}
use Rattle.std.specs.Prelude.{take}
use Rattle.std.specs.List.Sorted.{IsNonDecreasingBy, IsPermutation}
use Rattle.roa_origin.specs.Coverings.{AreThose}
use Rattle.roa_origin.specs.Vrps.{IsLawfulVrp, Vrp}
use Rattle.roa_origin.specs.Places.{sent_place, max_len_flag}
use Rattle.roa_origin.specs.Tables.{as_sent}
use Rattle.roa_origin.specs.declared.updates.Change.{Change}
use Rattle.roa_origin.specs.declared.updates.ChangeFault.{ChangeFault}
use Rattle.roa_origin.specs.declared.updates.ChangeFault.TheVariants.{DuplicateAnnouncement, UnknownWithdrawal}

-- the list has the VRP, compared as VRPs are sent
abbrev pub IsSentIn : List Vrp → Vrp → Type 0
IsSentIn vrps p = Any (λ q. as_sent q ≡ as_sent p) vrps

-- the VRP withdrawn at this index isn't in the table, or is withdrawn before ('Withdrawal of Unknown Record')
pub record IsUnknownWithdrawal (table withdrawn : List Vrp) (n : ℕ) : Type 0 where
  pub within : n < length withdrawn
  pub unknown : (d : Vrp)
      → (¬ IsSentIn table (slice_index_or withdrawn n d)) ⊎ IsSentIn (take n withdrawn) (slice_index_or withdrawn n d)

-- the VRP announced at this index is in the table and isn't withdrawn, or is announced before ('Duplicate Announcement
-- Received')
pub record IsDuplicateAnnouncement (table announced withdrawn : List Vrp) (n : ℕ) : Type 0 where
  pub within : n < length announced
  pub duplicate : (d : Vrp)
      → (IsSentIn table (slice_index_or announced n d) × ¬ IsSentIn withdrawn (slice_index_or announced n d))
      ⊎ IsSentIn (take n announced) (slice_index_or announced n d)

-- P holds for n, and for no lower number
pub record IsFirst (P : ℕ → Type 0) (n : ℕ) : Type 0 where
  pub here : P n
  pub none : (k : ℕ) → k < n → ¬ P k

-- the first fault of changes: withdrawals are checked first, each list in its order
abbrev pub HasChangeFault : List Vrp → List Vrp → List Vrp → ChangeFault → Type 0
HasChangeFault table announced withdrawn (UnknownWithdrawal n) = IsFirst (IsUnknownWithdrawal table withdrawn) n
HasChangeFault table announced withdrawn (DuplicateAnnouncement n) =
    ((k : ℕ) → ¬ IsUnknownWithdrawal table withdrawn k) × IsFirst (IsDuplicateAnnouncement table announced withdrawn) n

-- the changes have no fault: each withdrawal is known, and no announcement is a duplicate
pub record AreUpdates (table announced withdrawn : List Vrp) : Type 0 where
  pub known : (n : ℕ) → ¬ IsUnknownWithdrawal table withdrawn n
  pub fresh : (n : ℕ) → ¬ IsDuplicateAnnouncement table announced withdrawn n

-- the next table has the VRPs of the table that aren't withdrawn, as often as they are listed, and the announced VRPs
-- as they are sent
pub record IsUpdated (table announced withdrawn next : List Vrp) : Type 0 where
  pub kept : List Vrp
  pub stays : AreThose (λ p. ¬ IsSentIn withdrawn p) table kept
  pub has : IsPermutation (kept ++ map as_sent announced) next

-- ---- changes in order

-- the VRP of a change is lawful and has a maximum length, as it is sent, and the index has 64 bits
pub record IsLawfulChange (change : Change) : Type 0 where
  pub vrp : IsLawfulVrp change.vrp
  pub sent : max_len_flag change.vrp.0.max_len ≡ 1
  pub number : change.place < 2 ^ 64

-- the sort key of a change: by the VRP, then by the index
abbrev pub change_place : Change → ℕ
change_place change = sent_place change.vrp * 2 ^ 64 + change.place

-- the changes are the VRPs of a list as they are sent, each with its index in the list
pub record AreChangesOf (vrps : List Vrp) (changes : List Change) : Type 0 where
  pub lawful : All IsLawfulChange changes
  pub permutation : IsPermutation (map as_sent vrps) (map (λ change. change.vrp) changes)
  pub at_place : All
      (λ change. (change.place < length vrps)
      × ((d : Vrp) → as_sent (slice_index_or vrps change.place d) ≡ change.vrp)) changes
  pub each : (n : ℕ) (d : Vrp) → n < length vrps
      → Any (λ change. (change.vrp ≡ as_sent (slice_index_or vrps n d)) × (change.place ≡ n)) changes

-- the changes are lawful, and in the order of their sort keys
pub record AreSorted (changes : List Change) : Type 0 where
  pub lawful : All IsLawfulChange changes
  pub ordered : IsNonDecreasingBy change_place changes

-- the sort key of a change's VRP as it is sent
abbrev pub sent_change : Change → ℕ
sent_change change = sent_place change.vrp

-- a search for the number t stops at an index: before it the keys of the list are less than t, and from it on they
-- aren't
pub record IsSearched {X : Type 0} (f : X → ℕ) (xs : List X) (t at : ℕ) : Type 0 where
  pub before : (k : ℕ) (d : X) → k < at → k < length xs → f (slice_index_or xs k d) < t
  pub from : (k : ℕ) (d : X) → at ≤ k → k < length xs → t ≤ f (slice_index_or xs k d)

-- the change is one of the VRP p, compared as VRPs are sent
abbrev pub IsOf : Vrp → Change → Type 0
IsOf p change = sent_place change.vrp ≡ sent_place p

-- the change is one of the VRP p, and its index is lower than n
abbrev pub IsOfBefore : Vrp → ℕ → Change → Type 0
IsOfBefore p n change = IsOf p change × (change.place < n)

-- n is the lowest index of a change of the VRP p
pub record IsFirstPlace (changes : List Change) (p : Vrp) (n : ℕ) : Type 0 where
  pub there : Any (λ change. IsOf p change × (change.place ≡ n)) changes
  pub first : All (λ change. IsOf p change → n ≤ change.place) changes

-- the list has the VRPs of the table that no withdrawn change is one of, and the VRPs of the announced changes
pub record IsMergedOf (table : List Vrp) (withdrawn announced : List Change) (next : List Vrp) : Type 0 where
  pub kept : List Vrp
  pub stays : AreThose (λ p. ¬ Any (IsOf p) withdrawn) table kept
  pub has : IsPermutation (kept ++ map (λ change. change.vrp) announced) next
