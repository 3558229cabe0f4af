-- At most one outcome: one input gives a call one value or one refusal. Out of memory is no outcome here.
use Rattle.std.specs.Prelude.{◌≡◌, ◌<◌, ◌^◌, IfSome, length}
use Rattle.rpki_extensions.specs.Claims.{octets_of_addresses}
use Rattle.rpki_extensions.specs.declared.extensions.Extensions.{Extensions}

-- two values are equal, two refusals are equal, and a value and a refusal exclude each other
pub record OneOutcome {V E : Type 0} (Has : V → Type 0) (Refuses : E → Type 0) : Type 0 where
  pub one_value : (a b : V) → Has a → Has b → a ≡ b
  pub one_refusal : (d e : E) → Refuses d → Refuses e → d ≡ e
  pub apart : (a : V) (e : E) → Has a → Refuses e → ⊥

-- the IP address blocks, if they are present, have fewer than 2 ^ 64 octets, as each slice has
abbrev pub HasFewOctets : Extensions → Type 0
HasFewOctets certificate = IfSome (octets_of_addresses certificate) (λ octets. length octets < 2 ^ 64)
