-- The header, and the two prefixes behind it.
use Rattle.rpki_ip.proofs.Common.{ap, arith, length, ◌+◌, ◌∙◌, ◌≡◌, length-append, header, prefix_der, range_content}
use Rattle.rpki_ip.proofs.Common.{without_end_ones, without_end_zeros}
use Rattle.rpki_ip.proofs.PrefixDerWritten.{joined}
use Rattle.rpki_ip.proofs.range.AddressRange.append.Goals as goal

pub returns-clause-items : goal.returns-clause-items
returns-clause-items g c =
    let range = c.args.self.now in
    let a : c.shortest_from-first.result ≡ without_end_zeros range.min =
    c.shortest_from-first.ensures.value ∙ ap without_end_zeros c.min.ensures.value in
    let b : c.shortest_to-second.result ≡ without_end_ones range.max =
    c.shortest_to-second.ensures.value ∙ ap without_end_ones c.max.ensures.value in
    let first : c.encoded_len.result ≡ length (prefix_der (without_end_zeros range.min)) =
    c.encoded_len.ensures.len ∙ ap (λ p. length (prefix_der p)) a in
    let second : c.encoded_len-2.result ≡ length (prefix_der (without_end_ones range.max)) =
    c.encoded_len-2.ensures.len ∙ ap (λ p. length (prefix_der p)) b in
    let whole : c.encoded_len.result + c.encoded_len-2.result ≡ length (range_content range) =
    omega (
      arith,
      first,
      second,
      length-append (prefix_der (without_end_zeros range.min))
          (prefix_der (without_end_ones range.max)),
    ) in
    joined _ _ _ _ _ _ _ _ _ _ c.append_header.ensures.items c.append.ensures.items c.append-2.ensures.items
    (ap (header 48) whole) (ap prefix_der a) (ap prefix_der b)
