-- VRPs after the filters and assertions of a SLURM file.
use Rattle.std.specs.Prelude.{◌≡◌, ◌↔◌, ℕ, List, ◌++◌, Any, Bool, IsTrue, filter}
use Rattle.rpki_prefix.specs.MaxLen.{MaxLenValue}
use Rattle.rpki_prefix.specs.Values.{CoversPrefix}
use Rattle.roa_slurm.specs.declared.filter.PrefixFilter.{PrefixFilter}
use Rattle.roa_slurm.specs.declared.filter.PrefixFilter.TheVariants.{ByAsn, ByBoth, ByPrefix}

-- the filter matches a VRP (RFC 8416, 3.3.1): its prefix is the VRP's or covers it, its AS is the VRP's, or both hold
abbrev pub IsRemovedBy : MaxLenValue × ℕ → PrefixFilter → Type 0
IsRemovedBy vrp (ByPrefix prefix) = CoversPrefix prefix vrp.0.prefix
IsRemovedBy vrp (ByAsn asn) = vrp.1 ≡ asn
IsRemovedBy vrp (ByBoth prefix asn) = (vrp.1 ≡ asn) × CoversPrefix prefix vrp.0.prefix

-- some filter matches the VRP
abbrev pub IsRemoved : List PrefixFilter → MaxLenValue × ℕ → Type 0
IsRemoved filters vrp = Any (IsRemovedBy vrp) filters

-- The VRPs after the filters and the assertions (RFC 8416, 3.2 to 3.4): those that no filter matches, in their order,
-- and then the assertions, in theirs. No filter removes an assertion.
pub record IsApplied (filters : List PrefixFilter) (assertions before after : List (MaxLenValue × ℕ)) : Type 0 where
  pub stays : MaxLenValue × ℕ → Bool
  pub unmatched : (vrp : MaxLenValue × ℕ) → IsTrue (stays vrp) ↔ (¬ IsRemoved filters vrp)
  pub result : after ≡ filter stays before ++ assertions
