use Rattle.rpki_ip_block.proofs.Common.{Vec, IpBlock}
use Rattle.rpki_ip_block.proofs.BlockListLemmas.{family_answers}
use Rattle.rpki_ip_block.proofs.PrintedLists.{family_list_back}
use Rattle.rpki_ip_block.proofs.WholeBlockReadings.{whole_family_list}
use Rattle.rpki_ip_block.proofs.list.read_blocks.Goals as goal

pub returns-clause-exact : goal.returns-clause-exact
returns-clause-exact g c =
    family_answers (λ (v : Vec IpBlock _). v.items) c.args.family c.args.text.now c.read_blocks_matched.result
    c.read_blocks_matched.ensures

pub returns-clause-reads_back : goal.returns-clause-reads_back
returns-clause-reads_back g c =
    family_list_back (λ (v : Vec IpBlock _). v.items) c.args.text.now c.read_blocks_matched.result c.args.family
    (returns-clause-exact g c)

pub returns-clause-whole : goal.returns-clause-whole
returns-clause-whole g c =
    whole_family_list (λ (v : Vec IpBlock _). v.items) c.args.family c.args.text.now c.read_blocks_matched.result
    (returns-clause-exact g c)
