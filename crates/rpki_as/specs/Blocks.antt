-- Sets of AS numbers.
use Rattle.rpki_chain.specs.BlockSets.{IsBlockSet}
use Rattle.rpki_chain.specs.Runs.{Runs}

-- the runs of a set of AS numbers, which range from 0 to 4294967295 (RFC 6793, 1)
abbrev pub IsAsSet : Runs → Type 0
IsAsSet runs = IsBlockSet 0 4294967295 runs
