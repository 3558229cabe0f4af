-- The octets are a BIT STRING whose length has one octet.
use Rattle.rpki_ip.proofs.Common.{List, Ok, ap, arith, bits_of, drop, get_or, length, prefix_at, suc, take, ℕ, ◌-◌, ◌∙◌}
use Rattle.rpki_ip.proofs.Common.{◌∷◌, ◌≡◌}
use Rattle.rpki_ip.proofs.PrefixDerModes.{bits_few_enough}
use Rattle.rpki_ip.proofs.UsualPrefixes.{behind, three_and_more, usual_prefix_at}
use Rattle.rpki_ip.proofs.der.usual.prefix_at_front.Goals as goal

pub returns : goal.returns
returns c =
    let xs = c.args.octets.now in
    let limit = bits_of c.args.family in
    let after = take (length xs - 3) (drop 3 xs) in
    let count = get_or xs 1 0 - 1 in
    let unused = get_or xs 2 0 in
    let tag = c.if-tag-ne-BIT_STRING.false in
    let some = c.if-len-eq0.false in
    let few = c.if-unused-gt7.false in
    let enough = c.if-after-count.false in
    let less = c.if-count-unused.false in
    let short = c.if-bits-max_addr_len.false in
    let max = c.max_addr_len.ensures in
    let within = bits_few_enough c.args.family in
    let shape : xs ≡ 3 ∷ suc count ∷ unused ∷ after = grind (arith, three_and_more xs c.in-len3-up.len_at_least) in
    let number = c.address_at_front.ensures count (omega arith) (omega arith) in
    ap (λ t. prefix_at limit t) shape
    ∙ usual_prefix_at limit count unused c.address_at_front.result after within (omega arith) (omega arith)
    (omega arith) (omega arith) number
    ∙ grind (arith, behind count after, c.new-prefix.ensures.value)
