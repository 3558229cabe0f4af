use Rattle.rpki_ip_block.proofs.Common.{Vec, IpBlock}
use Rattle.rpki_ip_block.proofs.BlockListLemmas.{ip_answers}
use Rattle.rpki_ip_block.proofs.PrintedLists.{ip_list_back}
use Rattle.rpki_ip_block.proofs.list.read_ip_blocks.Goals as goal

pub returns-clause-exact : goal.returns-clause-exact
returns-clause-exact g c =
    ip_answers (λ (v : Vec IpBlock _). v.items) c.family_of_text.result c.args.text.now c.family_of_text.ensures
    c.read_elements.result c.read_elements.ensures

pub returns-clause-reads_back : goal.returns-clause-reads_back
returns-clause-reads_back g c =
    ip_list_back (λ (v : Vec IpBlock _). v.items) c.args.text.now c.read_elements.result (returns-clause-exact g c)
