-- The count is rounded up.
use Rattle.rpki_ip.proofs.Common.{ap, arith, take, ◌*◌, ◌-◌, ◌∙◌, ◌≡◌, to_be_bytes, w128, bits_with, octet_count}
use Rattle.rpki_ip.proofs.prefix.Prefix.parts.Goals as goal

pub returns-clause-bits : goal.returns-clause-bits
returns-clause-bits c =
    let len : c.addr_len-len.result ≡ c.args.self.now.len = c.addr_len-len.ensures.value in
    let count : c.div_ceil-count.result ≡ octet_count c.args.self.now.len =
    omega (arith, c.div_ceil-count.ensures, len) in
    let octets : c.to_bytes.result ≡ to_be_bytes w128 c.args.self.now.first =
    c.to_bytes.ensures ∙ ap (to_be_bytes w128) c.addr.ensures.value in
    λ i. bits_with (8 * count i - len i) (take (count i) (octets i))
