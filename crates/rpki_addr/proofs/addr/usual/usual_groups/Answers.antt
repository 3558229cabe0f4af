-- What std's reader of groups finds, at each return.
use Rattle.rpki_addr.proofs.Common.{arith, get_or, length, lit<, ◌*◌, ◌+◌, ◌<◌, ◌≡◌}
use Rattle.rpki_addr.proofs.GroupLemmas.{one_more_fits}
use Rattle.rpki_addr.proofs.UsualGroups.{all_taken, colon_next, ends_at_colon, groups_end, none_more, one_more}
use Rattle.rpki_addr.proofs.addr.usual.usual_groups.Goals as goal

pub returns-in_default-clause-value : goal.returns-in_default-clause-value
returns-in_default-clause-value c ends =
    let now = c.loop-groups.groups in
    let kept = c.loop-groups.invariant in
    none_more c.args.max_count c.args.text.now now.bits now.count now.end c.loop-groups.at kept.so_far kept.next
    c.loop-groups-test.true c.in_default.ensures

pub overflow_mul-groups : goal.overflow_mul-groups
overflow_mul-groups c =
    let now = c.loop-groups.groups in
    let few : now.count < 8 = omega arith in
    omega (arith, one_more_fits now.bits now.count 0 c.loop-groups.invariant.small few (lit< tt))

pub overflow_add-groups : goal.overflow_add-groups
overflow_add-groups c =
    let now = c.loop-groups.groups in
    let few : now.count < 8 = omega arith in
    let group = c.in-Some.ensures in
    let value : c.from.result < 0x10000 = omega (arith, c.from.ensures, group.small) in
    omega (arith, one_more_fits now.bits now.count c.from.result c.loop-groups.invariant.small few value)

pub returns-then-text-end-ne58-clause-value : goal.returns-then-text-end-ne58-clause-value
returns-then-text-end-ne58-clause-value c ends =
    let n = c.args.max_count in
    let text = c.args.text.now in
    let now = c.loop-groups.groups in
    let kept = c.loop-groups.invariant in
    let group = c.in-Some.group in
    let end = c.in-Some.end in
    let read = c.in-Some.ensures in
    let is : c.from.result ≡ group = c.from.ensures in
    let step = one_more n text now.bits now.count now.end c.loop-groups.at kept.so_far kept.next
    c.loop-groups-test.true group end read ends in
    let within : end < length text = omega (arith, read.few) in
    rw is (groups_end n text (now.bits * 0x10000 + group) now.count end step within c.if-text-end-ne58.true)

pub loop-groups-preserved : goal.loop-groups-preserved
loop-groups-preserved c =
    let n = c.args.max_count in
    let text = c.args.text.now in
    let now = c.loop-groups.groups in
    let kept = c.loop-groups.invariant in
    let group = c.in-Some.group in
    let end = c.in-Some.end in
    let read = c.in-Some.ensures in
    let is : c.from.result ≡ group = c.from.ensures in
    let colon : get_or text end 0 ≡ 58 = c.if-text-end-ne58.false in
    let step = one_more n text now.bits now.count now.end c.loop-groups.at kept.so_far kept.next
    c.loop-groups-test.true group end read (ends_at_colon text end colon) in
    let within : end < length text = omega (arith, read.few) in (
    record {
      so_far = rw is step;
      small = rw is step.small;
      next = colon_next text now.count end within colon;
      place = omega (arith, read.few);
      last = omega (arith, read.few);
    }
    )

pub returns-clause-value : goal.returns-clause-value
returns-clause-value c ends =
    let now = c.loop-groups.groups in
    all_taken c.args.max_count c.args.text.now now.bits now.count now.end c.loop-groups.invariant.so_far
    c.loop-groups-test.false
