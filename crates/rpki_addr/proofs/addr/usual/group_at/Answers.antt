-- The digits that were read write the group.
use Rattle.rpki_addr.proofs.Common.{arith, ◌<◌}
use Rattle.rpki_addr.proofs.UsualGroups.{one_digit, two_digits, three_digits, four_digits}
use Rattle.rpki_addr.proofs.addr.usual.group_at.Goals as goal

pub returns-then-second-ge16 : goal.returns-then-second-ge16
returns-then-second-ge16 c =
    let first : c.digit_at-first.result < 16 = omega arith in
    one_digit c.args.text.now c.args.at c.requires _ first
    (c.digit_at-first.ensures.digit first)

pub returns-then-third-ge16 : goal.returns-then-third-ge16
returns-then-third-ge16 c =
    let first : c.digit_at-first.result < 16 = omega arith in
    let second : c.digit_at-second.result < 16 = omega arith in
    two_digits c.args.text.now c.args.at c.requires _ _ first second
    (c.digit_at-first.ensures.digit first)
    (c.digit_at-second.ensures.digit second)

pub returns-then-fourth-ge16 : goal.returns-then-fourth-ge16
returns-then-fourth-ge16 c =
    let first : c.digit_at-first.result < 16 = omega arith in
    let second : c.digit_at-second.result < 16 = omega arith in
    let third : c.digit_at-third.result < 16 = omega arith in
    three_digits c.args.text.now c.args.at c.requires _ _ _ first second third
    (c.digit_at-first.ensures.digit first)
    (c.digit_at-second.ensures.digit second)
    (c.digit_at-third.ensures.digit third)

pub returns : goal.returns
returns c =
    let first : c.digit_at-first.result < 16 = omega arith in
    let second : c.digit_at-second.result < 16 = omega arith in
    let third : c.digit_at-third.result < 16 = omega arith in
    let fourth : c.digit_at-fourth.result < 16 = omega arith in
    four_digits c.args.text.now c.args.at c.requires _ _ _ _ first second third fourth
    (c.digit_at-first.ensures.digit first)
    (c.digit_at-second.ensures.digit second)
    (c.digit_at-third.ensures.digit third)
    (c.digit_at-fourth.ensures.digit fourth)
