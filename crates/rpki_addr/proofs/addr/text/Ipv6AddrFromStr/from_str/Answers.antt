-- The address that is read, or none.
use Rattle.rpki_addr.proofs.Common.{Err, Ok, refl, rules, ◌≡◌}
use Rattle.rpki_addr.proofs.AddressTextLemmas.{reads_ipv6}
use Rattle.rpki_addr.specs.declared.addr.AddrParseError.TheVariants.{Ipv6}
use Rattle.rpki_addr.proofs.addr.text.Ipv6AddrFromStr.from_str.Goals as goal

pub returns-in-Some : goal.returns-in-Some
returns-in-Some c =
    let bytes : c.as_bytes.result.now ≡ c.args.text.now = search rules in
    reads_ipv6 c.args.text.now (Ok _) (rw bytes at c.in-Some.ensures)

pub returns-in-None : goal.returns-in-None
returns-in-None c =
    let bytes : c.as_bytes.result.now ≡ c.args.text.now = search rules in
    reads_ipv6 c.args.text.now (Err Ipv6) (refl, rw bytes at c.in-None.ensures)
