-- Shared chains are equal as their views are.
use Rattle.rpki_chain_core.proofs.shared.SharedChainPartialEq.eq.Goals as goal

pub returns-clause-covers : goal.returns-clause-covers
returns-clause-covers g c = rw (c.as_chain.ensures, c.as_chain-2.ensures) at c.eq.ensures.covers
