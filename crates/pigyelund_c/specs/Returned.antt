-- What a verification returns: verified resources in one pair of buffers, and overclaimed resources in another.
use Rattle.std.specs.Prelude.{◌≡◌, ◌≢◌, ℕ, List, Result, Ok, Err}
use Rattle.rpki_text.specs.declared.memory.OrMemory.{OrMemory}
use Rattle.rpki_text.specs.declared.memory.OrMemory.TheVariants.{Refused, Memory}
use Rattle.rpki_resources.specs.Triples.{Triple}
use Rattle.pigyelund_c.specs.Sets.{IsNothingReturned, IsSetReturned}
use Rattle.pigyelund_c.specs.Statuses.{excess_of, refusal_status}
use Rattle.pigyelund_c.specs.declared.refusal.Refusal.{Refusal}

-- The verified resources are returned with the status 0, and no overclaimed resources. Or the status is that of the
-- reason, the overclaimed resources are returned, and no verified ones. Or the status is 512, and nothing is returned.
-- The lists and lengths are those of the buffers for verified resources, and then those for overclaimed resources.
abbrev pub IsOutcomeReturned : Result Triple (OrMemory Refusal) → List ℕ → List ℕ → List ℕ → List ℕ → ℕ → ℕ
    → List ℕ → List ℕ → List ℕ → List ℕ → ℕ → ℕ → ℕ → Type 0
IsOutcomeReturned (Ok set) as_before ip_before as_after ip_after as_len ip_len
    over_as_before over_ip_before over_as_after over_ip_after over_as_len over_ip_len result =
    IsSetReturned 0 set as_before ip_before as_after ip_after as_len ip_len result
    × IsNothingReturned over_as_before over_ip_before over_as_after over_ip_after over_as_len over_ip_len
IsOutcomeReturned (Err (Refused reason)) as_before ip_before as_after ip_after as_len ip_len
    over_as_before over_ip_before over_as_after over_ip_after over_as_len over_ip_len result =
    IsSetReturned (refusal_status reason) (excess_of reason) over_as_before over_ip_before over_as_after over_ip_after
    over_as_len over_ip_len result
    × IsNothingReturned as_before ip_before as_after ip_after as_len ip_len
IsOutcomeReturned (Err (Memory error)) as_before ip_before as_after ip_after as_len ip_len
    over_as_before over_ip_before over_as_after over_ip_after over_as_len over_ip_len result =
    (result ≡ 512)
    × IsNothingReturned as_before ip_before as_after ip_after as_len ip_len
    × IsNothingReturned over_as_before over_ip_before over_as_after over_ip_after over_as_len over_ip_len

-- The number is n, or 0 if the status is 512.
pub record IsCountReturned (n count result : ℕ) : Type 0 where
  pub counted : result ≢ 512 → count ≡ n
  pub nothing : result ≡ 512 → count ≡ 0
