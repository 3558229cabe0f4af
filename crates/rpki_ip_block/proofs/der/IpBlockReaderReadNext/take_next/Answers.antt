-- Leniently the readings are one.
use Rattle.rpki_ip_block.proofs.Common.{bits_of, exact_optional_by, next_ip_block_modal, IsNextIpBlock, ip_block_at}
use Rattle.rpki_ip_block.proofs.Common.{next_ip_block_by}
use Rattle.rpki_ip_block.proofs.der.IpBlockReaderReadNext.take_next.Goals as goal

pub returns-clause-exact : goal.returns-clause-exact
returns-clause-exact c =
    let limit = bits_of c.args.self.now.family in
    exact_optional_by (IsNextIpBlock limit c.args.before) (ip_block_at limit)
    (λ strict. next_ip_block_by strict limit c.args.before) (λ block. block) c.args.cursor.now
    c.next_opt_after.new.cursor c.next_opt_after.result (next_ip_block_modal limit c.args.before)
    c.next_opt_after.ensures.by_mode
