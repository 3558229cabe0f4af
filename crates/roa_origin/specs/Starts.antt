-- The indices in a table at which VRPs begin whose addresses have the same first bits.
use Rattle.std.specs.Prelude.{◌≡◌, ℕ, ◌+◌, ◌-◌, ◌*◌, ◌/◌, ◌^◌, ◌<◌, ◌≤◌, List, length, slice_index, slice_index_or}
use Rattle.rpki_prefix.specs.Values.{FamilyPrefix, address_number, width}
use Rattle.roa_origin.specs.Vrps.{Vrp}
use Rattle.roa_origin.specs.Places.{family_place}

-- the number that the first n bits of a prefix's address write, plus 2 ^ n for IPv6
abbrev pub first_bits : ℕ → FamilyPrefix → ℕ
first_bits n p = family_place p.addr * 2 ^ n + address_number p.addr / 2 ^ (width p.addr - n)

-- an index in a table: the first n bits of the addresses before it write less than the number, and those from it on
-- don't
pub record IsStart (n : ℕ) (xs : List Vrp) (number start : ℕ) : Type 0 where
  pub within : start ≤ length xs
  pub before : (k : ℕ) (d : Vrp) → k < start → first_bits n (slice_index_or xs k d).0.prefix < number
  pub from : (k : ℕ) (d : Vrp) → start ≤ k → k < length xs → number ≤ first_bits n (slice_index_or xs k d).0.prefix

-- the starts of all numbers of n bits of both families, and the end; n is 1 to 20
pub record AreStarts (n : ℕ) (xs : List Vrp) (starts : List ℕ) : Type 0 where
  pub some : 1 ≤ n
  pub few : n ≤ 20
  pub as_many : length starts ≡ 2 * 2 ^ n + 1
  pub each : (number : ℕ) → number < length starts → IsStart n xs number (slice_index starts number)
