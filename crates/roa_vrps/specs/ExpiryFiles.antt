-- The expiries of the VRPs of a file, their faults, and the VRPs of a file without the expired ones.
use Rattle.std.specs.Prelude.{◌≡◌, ◌⊎◌, ℕ, Bool, false, not, nat_lt, List, Option, Some, None, filter, map, zip}
use Rattle.std.specs.List.{count_by}
use Rattle.rpki_prefix.specs.MaxLen.{MaxLenValue}
use Rattle.roa_vrps.specs.Entries.{AreExpiries, Entry, HaveWrongExpiry, vrps_of}
use Rattle.roa_vrps.specs.Files.{AreFileEntries, HasFileFault}
use Rattle.roa_vrps.specs.declared.expiry.UnexpiredVrps.{UnexpiredVrps}
use Rattle.roa_vrps.specs.declared.fault.ExpiryFault.{ExpiryFault}
use Rattle.roa_vrps.specs.declared.fault.ExpiryFault.TheVariants.{File}
use Rattle.roa_vrps.specs.declared.fault.FileFault.{FileFault}

-- one of the entries of the file has an invalid expiry; this is the first fault of one
abbrev pub HasWrongExpiry : List ℕ → ExpiryFault → Type 0
HasWrongExpiry file fault = (entries : List Entry) × AreFileEntries file entries × HaveWrongExpiry entries fault

-- the fault of the file as a file of VRPs; if it has none, its first invalid expiry
abbrev pub HasExpiryFault : List ℕ → ExpiryFault → Type 0
HasExpiryFault file fault =
    ((wrong : FileFault) × HasFileFault file wrong × (fault ≡ File wrong)) ⊎ HasWrongExpiry file fault

-- the VRPs of the entries of a file, and their expiries: each VRP has the expiry of the same index
abbrev pub AreDated : List ℕ → List (MaxLenValue × ℕ) → List (Option ℕ) → Type 0
AreDated file vrps expiries =
    (entries : List Entry) × AreFileEntries file entries × ((vrps ≡ vrps_of entries) × AreExpiries entries expiries)

-- Whether a VRP with this expiry has expired at the time `time`. Like a certificate, it is valid through the second of
-- its expiry (RFC 5280, 4.1.2.5). A VRP without an expiry doesn't expire.
abbrev pub is_expired : ℕ → Option ℕ → Bool
is_expired time None = false
is_expired time (Some expiry) = nat_lt expiry time

-- the VRPs that have not expired, in their order; each VRP has the expiry of the same index
abbrev pub unexpired_of : ℕ → List (MaxLenValue × ℕ) → List (Option ℕ) → List (MaxLenValue × ℕ)
unexpired_of time vrps expiries =
    map (λ dated. dated.0) (filter (λ dated. not (is_expired time dated.1)) (zip vrps expiries))

-- the model of `UnexpiredVrps`: the VRPs that have not expired, and the number of the expired ones
abbrev pub unexpired_value : {A : Type 0} → UnexpiredVrps A → List (MaxLenValue × ℕ) × ℕ
unexpired_value unexpired = (unexpired.vrps.items, unexpired.expired)

-- the VRPs of a file that have not expired at the time `time`, in their order, and the number of the expired ones
pub record IsUnexpiredFile (file : List ℕ) (time : ℕ) (kept : List (MaxLenValue × ℕ)) (expired : ℕ) : Type 0 where
  pub vrps : List (MaxLenValue × ℕ)
  pub expiries : List (Option ℕ)
  pub dated : AreDated file vrps expiries
  pub kept_are : kept ≡ unexpired_of time vrps expiries
  pub expired_are : expired ≡ count_by (is_expired time) expiries
