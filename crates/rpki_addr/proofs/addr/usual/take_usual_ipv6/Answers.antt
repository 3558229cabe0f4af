-- The groups before and behind two colons, or the eight groups, are the address that std's reader finds.
use Rattle.rpki_addr.proofs.Common.{List, ap, arith, drop, get_or, length, sym, take, ℕ, ◌+◌, ◌-◌, ◌<◌, ◌∙◌, ◌∷◌, ◌≡◌}
use Rattle.rpki_addr.proofs.Common.{◌≤◌}
use Rattle.std.proofs.Common.{rules}
use Rattle.std.proofs.lemmas.List.{take_rest}
use Rattle.rpki_addr.specs.GroupProgress.{EndsGroupAt}
use Rattle.rpki_addr.proofs.UsualGroups.{colons_at, eight_read, elided_read, ends_at_colon}
use Rattle.rpki_addr.proofs.addr.usual.take_usual_ipv6.Goals as goal

pub returns-then-front-eq8 : goal.returns-then-front-eq8
returns-then-front-eq8 c =
    let text = c.args.text.now in
    let front = c.usual_groups-front.result in
    let ends : EndsGroupAt text front.end =
    first_of (search (rules, c.ends_group.ensures), grind (arith, c.ends_group.ensures, c.if-not-ends_group.false)) in
    let read = rw c.if-front-eq8.true at (c.usual_groups-front.ensures.value ends) in
    rw take_rest (eight_read text front.bits front.end read)

pub returns : goal.returns
returns c =
    let text = c.args.text.now in
    let front = c.usual_groups-front.result in
    let back = c.usual_groups-back.result in
    let behind = take (length text - (front.end + 2)) (drop (front.end + 2) text) in
    let few : front.count < 8 = omega (arith, c.usual_groups-front.ensures.within, c.if-front-eq8.false) in
    let more : back.count ≤ 7 - front.count = c.usual_groups-back.ensures.within in
    let one : get_or text front.end 0 ≡ 58 = c.if-text-front-ne58.false in
    let two : get_or text (front.end + 1) 0 ≡ 58 = c.if-text-front-ne58-2.false in
    let within : front.end + 1 < length text =
    omega (arith, c.usual_groups-front.ensures.end, c.if-text-lt-ROOM.false, few) in
    let rest : behind ≡ drop (front.end + 2) text = take_rest text (front.end + 2) in
    let colons = colons_at text front.end within one two ∙ ap (λ (l : List ℕ). 58 ∷ 58 ∷ l) (sym rest) in
    let ends : EndsGroupAt behind back.end =
    first_of
    (search (rules, c.ends_group-2.ensures), grind (arith, c.ends_group-2.ensures, c.if-not-ends_group-2.false)) in
    let first = c.usual_groups-front.ensures.value (ends_at_colon text front.end one) in
    let second = c.usual_groups-back.ensures.value ends in
    rw (take_rest behind back.end, c.with_zeros.ensures)
    (elided_read text front.bits front.count front.end back.bits back.count behind
    (drop back.end behind) few more first colons second)
