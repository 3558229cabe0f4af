use Rattle.rpki_ip_block.proofs.BlockListLemmas.{element_found}
use Rattle.rpki_ip_block.proofs.list.InFamilyReadElement.read_element.Goals as goal

pub returns : goal.returns
returns c =
    element_found c.args.self.now.family c.args.text.now c.read_block.result c.is_foreign.result c.is_foreign.ensures
    c.if-is_foreign.false c.read_block.ensures.found
