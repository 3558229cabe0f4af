-- What is written of the claims is read as them.
use Rattle.rpki_extensions.proofs.Common.{arith, length, rules, ◌<◌, ◌≡◌, ◌≢◌, ◌^◌, Ipv4, Ipv6, Missing, IsFamilyClaim}
use Rattle.rpki_extensions.proofs.WrittenClaimLemmas.{is_read_back}
use Rattle.rpki_extensions.proofs.write.write_ip_claims.Goals as goal

pub returns-clause-reads_back : goal.returns-clause-reads_back
returns-clause-reads_back g c = λ whole.
    let some : c.args.v4.now ≡ Missing → c.args.v6.now ≢ Missing = search rules in
    let short : length c.encode_families.new.out.items < 2 ^ 64 = search rules in
    let first : IsFamilyClaim Ipv4 c.args.v4.now = grind arith in
    let second : IsFamilyClaim Ipv6 c.args.v6.now = grind arith in
    is_read_back c.args.v4.now c.args.v6.now c.encode_families.new.out.items c.new-octets.result.items some
    c.in_ok-encode_families.ensures.ok c.new-octets.ensures.items first second short
