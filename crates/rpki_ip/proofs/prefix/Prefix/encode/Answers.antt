-- The reading finds what is written.
use Rattle.rpki_ip.proofs.Common.{prefix_der}
use Rattle.rpki_ip.proofs.PrefixDerReadings.{prefix_reading}
use Rattle.rpki_ip.proofs.PrefixDerWritten.{prefix_written}
use Rattle.rpki_ip.proofs.prefix.Prefix.encode.Goals as goal

pub returns-clause-read_back : goal.returns-clause-read_back
returns-clause-read_back g c =
    λ limit rest short.
    (prefix_reading limit).again (prefix_der c.args.self.now) c.args.self.now rest
    (prefix_written limit c.args.self.now c.parts-unused.ensures.prefix short)
