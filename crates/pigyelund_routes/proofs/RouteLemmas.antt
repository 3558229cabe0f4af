-- On the check of routes.
use Rattle.pigyelund_routes.proofs.Common.{List, ap, refl, subst, sym, ℕ, ◌<◌, ◌∙◌, ◌≡◌}
use Rattle.pigyelund_routes.specs.Routes.{HasPrefix, address_in}
use Rattle.rpki_der.specs.declared.family.AddressFamily.TheVariants.{Ipv4}
use Rattle.std.proofs.lemmas.Nat.{and_mask}
use Rattle.std.proofs.lemmas.Nat.Bits.{ones_shr}
use Rattle.std.specs.Int.{from_be_bytes, w32}
use Rattle.std.specs.Prelude.{◌-◌, ◌/◌, ◌%◌, ◌^◌, ◌≤◌, bit_and, slice_range}

-- the first four octets and a length are an IPv4 prefix if the bits after the length are clear
pub v4_prefix : (family : ℕ) (address : List ℕ) (len n : ℕ) → family ≡ 4 → len ≤ 32 → n < 2 ^ 32
    → n ≡ from_be_bytes w32 (slice_range address 0 4) → bit_and n (4294967295 / 2 ^ len) ≡ 0
    → HasPrefix family address len (record { addr = address_in Ipv4 address; len = len })
v4_prefix family address len n is short below same clear =
    let aligned : n % 2 ^ (32 - len) ≡ 0 =
    sym (and_mask n (32 - len)) ∙ ap (λ m. bit_and n m) (sym (ones_shr 32 len short)) ∙ clear in
    record {
      kind = Ipv4;
      is_kind = is;
      is = record {
        same_addr = refl;
        same_len = refl;
        is_prefix = record {
          short = short;
          aligned = subst (λ m. m % 2 ^ (32 - len) ≡ 0) same aligned;
          below = subst (λ m. m < 2 ^ 32) same below;
        };
      };
    }
