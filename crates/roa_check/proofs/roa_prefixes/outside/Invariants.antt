-- The prefixes gone through are inside.
use Rattle.std.proofs.Common.{ℕ, ◌<◌, get_or}
use Rattle.rpki_prefix.specs.MaxLen.{MaxLenValue}
use Rattle.roa_check.specs.Inside.{IsPrefixInside}
use Rattle.roa_check.proofs.roa_prefixes.outside.Given as goal

abbrev pub invariant-loop-at : goal.invariant-loop-at
invariant-loop-at g l = (k : ℕ) (d : MaxLenValue) → k < l.at → IsPrefixInside l.set (get_or l.prefixes k d).prefix
