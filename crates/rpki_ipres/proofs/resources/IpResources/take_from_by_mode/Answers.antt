-- What is taken of a family, as resources; what a strict cursor gave is the runs of its set as they stand.
use Rattle.rpki_ipres.proofs.Common.{sym, ◌∙◌, listed_are, IsChain, ip_bounds, new_ip_block}
use Rattle.rpki_chain.proofs.BlocksInModes.{chain_listed}
use Rattle.rpki_ipres.proofs.IpSetDerModes.{blocks}
use Rattle.rpki_ipres.proofs.resources.IpResources.take_from_by_mode.Goals as goal

pub from_listed-requires-clause-chain : goal.from_listed-requires-clause-chain
from_listed-requires-clause-chain g c strict =
    let said = c.in_ok-listed.ensures.by_mode in
    let chain =
    chain_listed (blocks c.args.family) c.args.cursor.now said.0 _ (sym c.is_strict.ensures.mode ∙ strict) said.1 in
    listed_are (λ blocks. blocks.items) (IsChain ip_bounds new_ip_block) said.0 c.in_ok-listed.listed said.2 chain
