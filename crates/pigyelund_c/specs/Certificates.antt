-- Certificate extensions as a caller passes them.
use Rattle.std.specs.Prelude.{◌≡◌, ◌≢◌, ◌⊎◌, ℕ, ◌+◌, ◌<◌, ◌≤◌, List, length, slice_range}
use Rattle.rpki_chain.specs.declared.path.Overclaim.{Overclaim}
use Rattle.rpki_extensions.specs.Claims.{octets_of_addresses, octets_of_numbers}
use Rattle.rpki_extensions.specs.declared.encoding.Encoding.{Encoding}
use Rattle.rpki_extensions.specs.declared.extensions.Extensions.{Extensions}
use Rattle.pigyelund_c.specs.Numbers.{addresses_there, mode_number, numbers_there, present_number}
use Rattle.pigyelund_c.specs.declared.certificate.Certificate.{Certificate}
use Rattle.pigyelund_c.specs.declared.encodings.Present.{Present}
use Rattle.pigyelund_c.specs.declared.refusal.ArgumentError.{ArgumentError}
use Rattle.pigyelund_c.specs.declared.refusal.ArgumentError.TheVariants.{NoEncoding, NoMode, NoPresence, NoFamily}
use Rattle.pigyelund_c.specs.declared.refusal.ArgumentError.TheVariants.{Outside}

-- ---- as octets and numbers

-- The certificate has the octets of the extensions that are present, the encoding, and the mode with this number.
pub record IsCertificate (present : ℕ) (numbers addresses : List ℕ) (encoding : Encoding) (mode : ℕ)
    (certificate : Extensions) : Type 0 where
  pub there : Present
  pub is_there : present ≡ present_number there
  pub numbers_are : octets_of_numbers certificate ≡ numbers_there there numbers
  pub addresses_are : octets_of_addresses certificate ≡ addresses_there there addresses
  pub is_read : certificate.encoding ≡ encoding
  pub is_mode : mode ≡ mode_number certificate.mode

-- The number of the extensions that are present is unknown, or else the number of the mode is.
abbrev pub IsArgumentError : ℕ → ℕ → ArgumentError → Type 0
IsArgumentError present mode NoPresence = (there : Present) → present ≢ present_number there
IsArgumentError present mode NoMode =
    ((there : Present) × (present ≡ present_number there)) × ((m : Overclaim) → mode ≢ mode_number m)
IsArgumentError present mode NoEncoding = ⊥
IsArgumentError present mode NoFamily = ⊥
IsArgumentError present mode Outside = ⊥

-- ---- as ranges of a run of octets

-- The ranges of both extensions lie in the run.
pub record LiesInRun (run : List ℕ) (c : Certificate) : Type 0 where
  pub numbers : c.as_start + c.as_len ≤ length run
  pub addresses : c.ip_start + c.ip_len ≤ length run

-- The certificate has the octets of the two ranges of the run.
pub record IsCertificateAt (run : List ℕ) (encoding : Encoding) (c : Certificate) (certificate : Extensions)
    : Type 0 where
  pub inside : LiesInRun run c
  pub says : IsCertificate c.present (slice_range run c.as_start (c.as_start + c.as_len))
      (slice_range run c.ip_start (c.ip_start + c.ip_len)) encoding c.mode certificate

-- A range does not lie in the run, or else a number of the certificate is unknown.
abbrev pub IsArgumentErrorAt : List ℕ → Certificate → ArgumentError → Type 0
IsArgumentErrorAt run c Outside = (length run < c.as_start + c.as_len) ⊎ (length run < c.ip_start + c.ip_len)
IsArgumentErrorAt run c NoPresence = LiesInRun run c × IsArgumentError c.present c.mode NoPresence
IsArgumentErrorAt run c NoMode = LiesInRun run c × IsArgumentError c.present c.mode NoMode
IsArgumentErrorAt run c NoEncoding = ⊥
IsArgumentErrorAt run c NoFamily = ⊥
