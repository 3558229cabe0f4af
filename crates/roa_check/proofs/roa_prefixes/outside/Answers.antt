-- Each prefix is asked for in turn.
use Rattle.std.proofs.Common.{arith, ◌≡◌, inl, inr}
use Rattle.std.proofs.lemmas.Bool.{cases_lt}
use Rattle.std.proofs.lemmas.List.{get_or_default}
use Rattle.rpki_prefix.specs.MaxLen.{MaxLenValue}
use Rattle.roa_check.specs.Inside.{IsPrefixInside}
use Rattle.roa_check.proofs.roa_prefixes.outside.Goals as goal

pub returns-then-not-is_inside : goal.returns-then-not-is_inside
returns-then-not-is_inside g c =
    let x : MaxLenValue = c.index-prefixes-at.result in
    let outside : ¬ IsPrefixInside c.args.set.now x.prefix =
    λ h. (let yes = c.is_inside.ensures.1 (rw c.prefix.ensures.value h) in let no = c.if-not-is_inside.true in cc) in
    let here = c.loop-at-test.true in (
      here,
      λ d h. outside (rw (get_or_default c.args.prefixes.now c.loop-at.at d x here, ← c.index-prefixes-at.is) at h),
      λ k d from before. c.loop-at.invariant k d before,
    )

pub loop-at-preserved : goal.loop-at-preserved
loop-at-preserved g c k d small =
    let at = c.loop-at.at in
    let x : MaxLenValue = c.index-prefixes-at.result in
    let inside : IsPrefixInside c.args.set.now x.prefix =
    rw c.prefix.ensures.value at (c.is_inside.ensures.0 c.if-not-is_inside.false) in
    elim (cases_lt k at) [
      | inl before ↦ c.loop-at.invariant k d before
      | inr after ↦
          let last : k ≡ at = omega arith in
          rw (last, get_or_default c.args.prefixes.now at d x c.loop-at-test.true, ← c.index-prefixes-at.is) inside
    ]
