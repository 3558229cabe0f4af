-- The octets are a SEQUENCE whose length has one octet.
use Rattle.rpki_ip.proofs.Common.{IsBytes, IsBytes-rest, Ok, ap, arith, bits_of, drop, get_or, last_of, length}
use Rattle.rpki_ip.proofs.Common.{prefix_at, range_in, refined, subst, tagged_at, take, ◌-◌, ◌∙◌, ◌∷◌, ◌≡◌, ◌≤◌}
use Rattle.std.proofs.lemmas.Grind.{common_steps}
use Rattle.rpki_ip.proofs.UsualPrefixes.{two_and_more, usual_range_at}
use Rattle.rpki_ip.proofs.der.usual.range_at_front.Goals as goal

pub returns : goal.returns
returns c =
    let xs = c.args.octets.now in
    let limit = bits_of c.args.family in
    let content = take (length xs - 2) (drop 2 xs) in
    let len = get_or xs 1 0 in
    let tag = c.if-tag-ne-SEQUENCE.false in
    let shape : xs ≡ 48 ∷ len ∷ content = grind (arith, two_and_more xs c.in-len2-up.len_at_least) in
    let bytes : IsBytes xs = λ i. omega (arith, c.type_inv.octets i) in
    let fits : IsBytes content =
    IsBytes-rest len content (IsBytes-rest 48 (len ∷ content) (subst IsBytes shape bytes)) in
    let short = c.if-len-ge128.false in
    let enough = c.if-content-len.false in
    let end = c.if-rest-content.false in
    let order = c.if-gt.false in
    let test = c.if-gt.ensures in
    let min = c.min.ensures.value in
    let max = c.max.ensures.value in
    let two : prefix_at limit c.in-Some.rest.now
    ≡ Ok (c.in-Some-prefix_at_front.second, c.in-Some-prefix_at_front.rest.now) =
    grind (arith, c.in-Some-prefix_at_front.ensures, c.in-Some.rest-is) in
    let ends : length c.in-Some-prefix_at_front.rest.now ≡ length content - len =
    grind (arith, end, c.in-Some-prefix_at_front.rest-is) in
    let ordered : c.in-Some.first.first ≤ last_of 128 c.in-Some-prefix_at_front.second =
    grind (arith, common_steps, order, test, min, max, c.in-Some.first-is, c.in-Some-prefix_at_front.second-is) in
    ap (λ t. refined (tagged_at 48) (range_in limit) t) shape
    ∙ usual_range_at limit len content _ _ _ _ fits (omega arith) (omega arith) c.in-Some.ensures
    two ends ordered
    ∙ grind (arith, c.new.ensures, c.min-2.ensures.value, c.max-2.ensures.value, c.in-Some-prefix_at_front.rest-is)
