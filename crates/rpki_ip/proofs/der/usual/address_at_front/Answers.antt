-- The address of sixteen octets begins with the first of them.
use Rattle.rpki_ip.proofs.Common.{IsBytes, List, ap, arith, big_endian, length, length-take, take, ◌*◌, ◌-◌, ◌/◌, ◌^◌}
use Rattle.rpki_ip.proofs.Common.{ℕ, ◌∙◌}
use Rattle.std.proofs.lemmas.List.{take-take}
use Rattle.rpki_ip.proofs.UsualPrefixes.{first_octets_of, fits_take}
use Rattle.rpki_ip.proofs.der.usual.address_at_front.Goals as goal

pub returns-then-octets-lt16 : goal.returns-then-octets-lt16
returns-then-octets-lt16 c k few le =
    let fits : IsBytes c.args.octets.now = λ i. omega (arith, c.type_inv.octets i) in
    ap (λ n. n / 2 ^ (128 - 8 * k)) c.beginning_with.ensures
    ∙ first_octets_of c.args.octets.now k fits (omega (arith, c.if-octets-lt16.true)) le

pub returns : goal.returns
returns c k few le =
    let fits : IsBytes c.args.octets.now = λ i. omega (arith, c.type_inv.octets i) in
    let count = length-take 16 c.args.octets.now in
    ap (λ n. n / 2 ^ (128 - 8 * k)) c.beginning_with-2.ensures
    ∙ first_octets_of (take 16 c.args.octets.now) k (fits_take 16 c.args.octets.now fits) (omega (arith, count))
    (omega (arith, count, few, le))
    ∙ ap (λ (t : List ℕ). big_endian t) (take-take k 16 c.args.octets.now few)
