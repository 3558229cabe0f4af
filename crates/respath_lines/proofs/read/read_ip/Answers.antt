use Rattle.respath_lines.proofs.Common.{on_ok_weaker}
use Rattle.respath_lines.proofs.ReadCommandLemmas.{shows_text}
use Rattle.respath_lines.proofs.read.read_ip.Goals as goal

pub returns : goal.returns
returns g c =
    on_ok_weaker c.family_in.result
    (λ shows. shows_text _ _ _ _ _ _ (rw c.in-Some.is at c.in_ok-octets.ensures) shows) c.family_in.ensures
