use Rattle.rpki_prefix.proofs.Common.{ap, arith, ◌-◌, ◌^◌, ◌∙◌, ◌≡◌, host_ones}
use Rattle.rpki_prefix.proofs.prefix.host_mask.Goals as goal

pub returns-else-count-eq0 : goal.returns-else-count-eq0
returns-else-count-eq0 c =
    let count : 128 - (128 - c.args.count) ≡ c.args.count = omega arith in
    host_ones 128 (128 - c.args.count) (omega arith) ∙ ap (λ k. 2 ^ k) count
