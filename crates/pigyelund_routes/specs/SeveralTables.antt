-- The validity of routes by several tables at once: by the VRPs of all of them together (RFC 6811, 2).
use Rattle.std.specs.Prelude.{◌≡◌, ◌↔◌, ◌⊎◌, ◌<◌, ℕ, All, IsTrue, List, flat_map, length, slice_index_or, take}
use Rattle.std.specs.Ptr.{null_ptr}
use denote.RawPtr.{InBlock}
use Rattle.rpki_prefix.specs.Values.{FamilyPrefix}
use Rattle.roa_origin.specs.Validities.{HasCoveringAsn, IsValidity}
use Rattle.roa_origin.specs.Vrps.{Vrp}
use Rattle.roa_origin.specs.declared.validation.Validity.{Validity}
use Rattle.roa_origin.specs.declared.validation.Validity.TheVariants.{Valid, Invalid, NotFound}
use Rattle.roa_origin.specs.declared.validation.ValidityAndAsn.{ValidityAndAsn}
use Rattle.pigyelund_routes.specs.Validities.{AreRoutesValidated}
use Rattle.pigyelund_routes.specs.declared.route.Route.{Route}
use Rattle.pigyelund_routes.specs.declared.table_handle.TableRef.{TableRef}

-- The VRPs of all tables: those of the first, then those of the second, and so on.
abbrev pub all_vrps : List TableRef → List Vrp
all_vrps tables = flat_map (λ it. it.vrps) tables

-- No handle is null.
abbrev pub AreThere : List TableRef → Type 0
AreThere tables = All (λ it. InBlock it.at) tables

-- The handle at an index is null, and none before it is.
pub record IsFirstNull (tables : List TableRef) (at : ℕ) : Type 0 where
  pub within : at < length tables
  pub before : AreThere (take at tables)
  pub null : (none : TableRef) → (slice_index_or tables at none).at ≡ null_ptr

-- The validity of a route by two lists of VRPs together, by its validity by each.
abbrev pub joined_validity : Validity → Validity → Validity
joined_validity Valid other = Valid
joined_validity NotFound other = other
joined_validity Invalid Valid = Valid
joined_validity Invalid NotFound = Invalid
joined_validity Invalid Invalid = Invalid

-- The validity of the route by VRPs, and whether one of them that covers the route has its AS.
pub record IsFound (route : FamilyPrefix) (asn : ℕ) (vrps : List Vrp) (found : ValidityAndAsn) : Type 0 where
  pub is_validity : IsValidity route asn vrps found.validity
  pub has_asn : IsTrue found.has_covering_asn ↔ HasCoveringAsn route asn vrps

-- The validities of routes by the VRPs of all tables, and their reasons, are returned. Or the status is 1033, the index
-- is that of the first null handle, and nothing is written.
abbrev pub AreOriginsByTablesReturned : List TableRef → List Route → List ℕ → List ℕ → List ℕ → List ℕ → ℕ → ℕ → ℕ
    → Type 0
AreOriginsByTablesReturned tables routes before after why_before why_after len index result =
    (AreThere tables
    × AreRoutesValidated (all_vrps tables) routes before after why_before why_after len index result)
    ⊎ (IsFirstNull tables index × (result ≡ 1033) × (after ≡ before) × (why_after ≡ why_before) × (len ≡ 0))
