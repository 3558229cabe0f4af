-- The list has one prefix.
use Rattle.std.proofs.Common.{ap, refl}
use Rattle.rpki_prefix.specs.MaxLen.{MaxLenValue}
use Rattle.pigyelund_c.proofs.TestLemmas.{no_truth, none_outside, one_outside}
use Rattle.pigyelund_c.proofs.set_lists.contains_prefix.Goals as goal

pub returns-in-None : goal.returns-in-None
returns-in-None c =
    let same = ap (λ (m : MaxLenValue). m.prefix) c.saturating_new.ensures.value in (
      λ _. none_outside c.args.set.now c.args.prefix c.saturating_new.result same c.in-None.ensures,
      λ _. refl,
    )

pub returns-in-Some : goal.returns-in-Some
returns-in-Some c =
    let same = ap (λ (m : MaxLenValue). m.prefix) c.saturating_new.ensures.value in (
      λ yes. absurd (no_truth yes),
      λ inside. absurd (one_outside c.args.set.now c.args.prefix c.saturating_new.result same c.in-Some._at
          c.in-Some.ensures.0 c.in-Some.ensures.1 inside),
    )
