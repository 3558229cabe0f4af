-- The answer is about the set that the handle lends.
use Rattle.std.proofs.Common.{inl, refl}
use Rattle.pigyelund_c.proofs.exports.contents.pigy_resources_contains_prefix.Goals as goal

pub returns-in-Ok : goal.returns-in-Ok
returns-in-Ok c = inl (c.in-Some.ensures.1, inl (rw c.in-Some.ensures.0 at c.in-Ok.ensures, refl))
