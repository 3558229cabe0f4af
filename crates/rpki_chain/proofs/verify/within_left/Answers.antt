use Rattle.rpki_chain.proofs.IssuedClaims.{within_or_exceeds}
use Rattle.rpki_chain.proofs.verify.within_left.Goals as goal

pub returns-then-is_within_left : goal.returns-then-is_within_left
returns-then-is_within_left g c = c.is_within_left.ensures.0 c.if-is_within_left.true

pub returns : goal.returns
returns g c =
    within_or_exceeds _ c.args.listed.now _ _ c.in_ok-left.ensures c.covered_by.ensures.ok c.covered_by.ensures.refused
