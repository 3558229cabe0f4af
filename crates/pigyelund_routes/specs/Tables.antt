-- Tables that stay between calls: the results of calls on them.
use Rattle.std.specs.Prelude.{◌≡◌, ◌⊎◌, ℕ, ◌+◌, List, Option, Some, length, map}
use Rattle.std.specs.List.Sorted.{IsPermutation}
use Rattle.std.specs.Ptr.{Ptr, null_ptr}
use denote.RawPtr.{InBlock}
use Rattle.roa_origin.specs.Vrps.{Vrp}
use Rattle.roa_origin.specs.Updates.{AreUpdates, HasChangeFault, IsUpdated}
use Rattle.roa_origin.specs.declared.updates.ChangeFault.{ChangeFault}
use Rattle.roa_origin.specs.declared.updates.ChangeFault.TheVariants.{DuplicateAnnouncement, UnknownWithdrawal}
use Rattle.pigyelund_routes.specs.Origins.{AreEach, IsFirstElementError, element_error_index, element_error_status}
use Rattle.pigyelund_routes.specs.Routes.{IsNoVrp, IsNoRoute, IsVrp, route_error_status}
use Rattle.pigyelund_routes.specs.Written.{AreWritten, IsAnswered}
use Rattle.pigyelund_routes.specs.ReturnedVrps.{AreCoveringsOf, handed_of, route_status}
use Rattle.pigyelund_routes.specs.declared.origin.ElementError.{ElementError}
use Rattle.pigyelund_routes.specs.declared.change.ChangeTableError.{ChangeTableError}
use Rattle.pigyelund_routes.specs.declared.change.ChangeTableError.TheVariants.{Announced, Withdrawn, Fault}
use Rattle.pigyelund_routes.specs.declared.route.Covering.{Covering}
use Rattle.pigyelund_routes.specs.declared.route.RawVrp.{RawVrp as Handed}
use Rattle.pigyelund_routes.specs.declared.route.Route.{Route}
use Rattle.pigyelund_routes.specs.declared.route.RouteError.{RouteError}

-- ---- made

-- The table has the VRPs that are passed, with their duplicates.
abbrev pub IsTableOfHanded : List Handed → List Vrp → Type 0
IsTableOfHanded handed table = (vrps : List Vrp) × AreEach IsVrp handed vrps × IsPermutation vrps table

-- The handle of a table for which P holds is returned. Otherwise the status and the index belong to a reason for which
-- N holds, or the status is 512, and the handle is null.
abbrev pub IsTableReturned : (R : Type 0) → (List Vrp → Type 0) → (R → ℕ) → (R → ℕ) → (R → Type 0)
    → Option (List Vrp) → Ptr → ℕ → ℕ → Type 0
IsTableReturned R P status index_of N given at index result =
    ((table : List Vrp) × P table × (given ≡ Some table) × InBlock at × (index ≡ 0) × (result ≡ 0))
    ⊎ (((reason : R) × N reason × (result ≡ status reason) × (index ≡ index_of reason) × (at ≡ null_ptr))
    ⊎ ((result ≡ 512) × (index ≡ 0) × (at ≡ null_ptr)))

-- A table of VRPs that are passed is returned.
abbrev pub IsMadeTableReturned : List Handed → Option (List Vrp) → Ptr → ℕ → ℕ → Type 0
IsMadeTableReturned handed =
    IsTableReturned ElementError (IsTableOfHanded handed) element_error_status element_error_index
    (IsFirstElementError IsVrp IsNoVrp handed)

-- ---- read

-- Either the handle is that of a table and T holds, or it is null, U holds, and the status is 1033.
abbrev pub IsAsked : Ptr → Type 0 → Type 0 → ℕ → Type 0
IsAsked at T U result = (InBlock at × T) ⊎ ((at ≡ null_ptr) × U × (result ≡ 1033))

-- The VRPs that cover a route are returned.
abbrev pub AreCoveringsReturned : Ptr → List Vrp → Route → List Covering → List Covering → ℕ → ℕ → Type 0
AreCoveringsReturned at table route before after len result =
    IsAsked at
    (IsAnswered RouteError (AreCoveringsOf table route) route_status (IsNoRoute route) before after len result)
    ((after ≡ before) × (len ≡ 0)) result

-- The number of VRPs is returned.
abbrev pub IsCountReturned : Ptr → List Vrp → ℕ → ℕ → Type 0
IsCountReturned at table len result = IsAsked at ((len ≡ length table) × (result ≡ 0)) (len ≡ 0) result

-- All VRPs are returned, in the table's order.
abbrev pub AreVrpsReturned : Ptr → List Vrp → List Handed → List Handed → ℕ → ℕ → Type 0
AreVrpsReturned at table before after len result =
    IsAsked at
    (AreWritten (map handed_of table) before after len result ⊎ ((result ≡ 512) × (after ≡ before) × (len ≡ 0)))
    ((after ≡ before) × (len ≡ 0)) result

-- ---- changed

-- The announced and the withdrawn VRPs are those that the caller passes.
pub record AreHanded (announced withdrawn : List Handed) (in_order : List Vrp × List Vrp) : Type 0 where
  pub announced_are : AreEach IsVrp announced in_order.0
  pub withdrawn_are : AreEach IsVrp withdrawn in_order.1

-- The next table is the table after the changes.
abbrev pub IsChangedTable : List Vrp → List Handed → List Handed → List Vrp → Type 0
IsChangedTable table announced withdrawn next =
    (changes : List Vrp × List Vrp) × AreHanded announced withdrawn changes
    × AreUpdates table changes.0 changes.1 × IsUpdated table changes.0 changes.1 next

-- An announced VRP is invalid, or else a withdrawn one is, or else this is the first impossible change.
abbrev pub HasChangeTableError : List Vrp → List Handed → List Handed → ChangeTableError → Type 0
HasChangeTableError table announced withdrawn (Announced first) = IsFirstElementError IsVrp IsNoVrp announced first
HasChangeTableError table announced withdrawn (Withdrawn first) =
    ((vrps : List Vrp) × AreEach IsVrp announced vrps) × IsFirstElementError IsVrp IsNoVrp withdrawn first
HasChangeTableError table announced withdrawn (Fault fault) =
    (changes : List Vrp × List Vrp) × AreHanded announced withdrawn changes
    × HasChangeFault table changes.0 changes.1 fault

-- The status of an impossible change.
abbrev pub fault_status : ChangeFault → ℕ
fault_status (UnknownWithdrawal at) = 65542
fault_status (DuplicateAnnouncement at) = 65543

-- The index of an impossible change in its array.
abbrev pub fault_index : ChangeFault → ℕ
fault_index (UnknownWithdrawal at) = at
fault_index (DuplicateAnnouncement at) = at

-- The status of the reason why there is no table after changes: 16777216 is added for a withdrawn VRP.
abbrev pub change_table_error_status : ChangeTableError → ℕ
change_table_error_status (Announced first) = route_error_status first.reason
change_table_error_status (Withdrawn first) = 16777216 + route_error_status first.reason
change_table_error_status (Fault fault) = fault_status fault

-- The index of the VRP at fault in its array.
abbrev pub change_table_error_index : ChangeTableError → ℕ
change_table_error_index (Announced first) = first.at
change_table_error_index (Withdrawn first) = first.at
change_table_error_index (Fault fault) = fault_index fault

-- The table after changes is returned.
abbrev pub IsChangedTableReturned : Ptr → List Vrp → List Handed → List Handed → Option (List Vrp) → Ptr → ℕ → ℕ
    → Type 0
IsChangedTableReturned at table announced withdrawn given next index result =
    IsAsked at (IsTableReturned ChangeTableError (IsChangedTable table announced withdrawn) change_table_error_status
    change_table_error_index (HasChangeTableError table announced withdrawn) given next index result)
    ((next ≡ null_ptr) × (index ≡ 0)) result
