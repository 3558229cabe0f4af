use Rattle.std.proofs.Common.{take}
use Rattle.pigyelund_c.specs.Paths.{IsLeftOnPath}
use Rattle.pigyelund_c.proofs.path.left_on_path.Given as goal

-- the certificates so far leave the issuer's resources
abbrev pub invariant-loop-at : goal.invariant-loop-at
invariant-loop-at l = IsLeftOnPath l.fn.run l.fn.encoding l.fn.anchor (take l.at l.fn.certificates) l.issuer
