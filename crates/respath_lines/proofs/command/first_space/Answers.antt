use Rattle.respath_lines.proofs.Common.{arith, sym, is_space}
use Rattle.std.proofs.lemmas.List.Sums.{position_or_len_is}
use Rattle.respath_lines.proofs.command.first_space.Goals as goal

pub returns-after-loop-at : goal.returns-after-loop-at
returns-after-loop-at c =
    let turn = c.loop-at in
    sym (position_or_len_is is_space c.args.text.now turn.at 0 turn.invariant.within turn.invariant.none
    (λ small. absurd (omega arith)))
