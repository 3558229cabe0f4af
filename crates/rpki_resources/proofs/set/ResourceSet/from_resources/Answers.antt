use Rattle.rpki_resources.proofs.Common.{arith}
use Rattle.rpki_resources.proofs.ListedClaimLemmas.{inherit, lists, lists_whole}
use Rattle.rpki_resources.proofs.set.ResourceSet.from_resources.Goals as goal

pub from_ip_blocks-requires : goal.from_ip_blocks-requires
from_ip_blocks-requires g c =
    lists_whole c.args.ipv4.now _ (lists _ _ c.to_blocks-2.ensures _ c.in-Ok-Ok-Ok.is-1) c.requires

pub returns-in_default-clause-inherited : goal.returns-in_default-clause-inherited
returns-in_default-clause-inherited g c =
    grind (arith, c.to_blocks.ensures, c.to_blocks-2.ensures, c.to_blocks-3.ensures)

pub returns-in-Err-Refused-default-default-clause-found : goal.returns-in-Err-Refused-default-default-clause-found
returns-in-Err-Refused-default-default-clause-found g c =
    grind (arith, inherit _ _ c.to_blocks.ensures, inherit _ _ c.to_blocks-2.ensures, inherit _ _ c.to_blocks-3.ensures)
