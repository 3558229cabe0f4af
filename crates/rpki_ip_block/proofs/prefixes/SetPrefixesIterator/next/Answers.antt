use Rattle.rpki_ip_block.proofs.Common.{arith}
use Rattle.rpki_ip_block.proofs.BlockCoverLemmas.{block_below, set_step}
use Rattle.rpki_ip_block.proofs.prefixes.SetPrefixesIterator.next.Goals as goal

pub returns-clause-steps : goal.returns-clause-steps
returns-clause-steps c = grind (arith, block_below, set_step)

pub returns-clause-goes : goal.returns-clause-goes
returns-clause-goes c = let steps = returns-clause-steps c in grind (arith, steps)
