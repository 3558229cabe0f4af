use Rattle.roa_vrps.proofs.Common.{None, Some, ap, arith, left, members_end}
use Rattle.roa_vrps.proofs.Common.{read_key, read_key-shorter, skip_member, ◌-◌, ◌∙◌, ◌≡◌}
use Rattle.roa_vrps.proofs.roas.skip_members.Goals as goal

-- a member more
pub loop-reader-preserved : goal.loop-reader-preserved
loop-reader-preserved c =
    let (most, enough, same) = c.loop-reader.invariant.rest in
    let key = rw c.in-Some.is at c.in_ok-next_key.ensures.value in
    let less = read_key-shorter _ _ _ key in
    let shorter = c.in_ok-skip_value.ensures.shorter in
    let passed = skip_member _ most _ _ _ _ (omega (arith, enough, less)) key c.in_ok-skip_value.ensures.value in
    record {
      rest = (most - 1, omega (arith, enough, less, shorter), same ∙ passed);
      within = omega (arith, c.loop-reader.invariant.within, less, shorter);
    }

-- no member is left
pub returns-clause-read : goal.returns-clause-read
returns-clause-read c =
    let (most, enough, same) = c.loop-reader.invariant.rest in
    let end : read_key c.loop-reader.reader ≡ Some (None, c.next_key.new.self) = grind (arith) in
    same ∙ ap left (members_end _ most _ _ enough end)
