-- The padded octets spell the bits.
use Rattle.rpki_ip.proofs.Common.{◌∙◌}
use Rattle.rpki_ip.proofs.PrefixBits.{number_before}
use Rattle.rpki_ip.proofs.der.prefix.beginning_with.Goals as goal

pub returns : goal.returns
returns c = c.from_bits.ensures ∙ c.from_be_bytes.ensures
    ∙ number_before c.args.octets.now c.copy_from_slice.new.self c.requires c.copy_from_slice.ensures.after
