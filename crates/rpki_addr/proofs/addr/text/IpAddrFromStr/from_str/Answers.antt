-- The address of the family whose text it is, or none.
use Rattle.rpki_addr.specs.declared.addr.IpAddr.TheVariants.{V4, V6}
use Rattle.rpki_addr.proofs.AddressTextLemmas.{reads_ip_ok}
use Rattle.rpki_addr.proofs.addr.text.IpAddrFromStr.from_str.Goals as goal

pub returns-in-Ok : goal.returns-in-Ok
returns-in-Ok c = reads_ip_ok c.args.text.now (V4 c.in-Ok.address) c.in-Ok.ensures.exact.found

pub returns-in-Ok-from_str : goal.returns-in-Ok-from_str
returns-in-Ok-from_str c =
    reads_ip_ok c.args.text.now (V6 c.in-Ok-from_str.address) c.in-Ok-from_str.ensures.exact.found
