use Rattle.rpki_extensions.proofs.Common.{take, IsVerifiedPath}
use Rattle.rpki_extensions.proofs.path.verified_path.Given as goal

-- the certificates so far leave the issuer's resources
abbrev pub invariant-loop-at : goal.invariant-loop-at
invariant-loop-at g l = IsVerifiedPath l.fn.anchor (take l.at l.fn.certificates) l.issuer
