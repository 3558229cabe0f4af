-- The VRPs passed have their links.
use Rattle.roa_origin.proofs.Common.{length, ◌≡◌, AreLinks}
use Rattle.roa_origin.proofs.links.links.Given as goal

abbrev pub invariant-loop-at : goal.invariant-loop-at
invariant-loop-at g l = (length l.links.items ≡ l.at) × AreLinks l.vrps l.links.items
