use Rattle.respath_lines.proofs.Common.{on_ok_weaker, string_bytes, IsAsResources, as_choice_at, as_resources_text}
use Rattle.respath_lines.proofs.ReadCommandLemmas.{shows_octets, shows_text}
use Rattle.respath_lines.proofs.read.read_as.Goals as goal

pub returns : goal.returns
returns g c =
    let octets = c.in-Some.octets.items in
    let is = c.as_resources_in.ensures in
    on_ok_weaker c.show.result
    (λ shows. shows_text IsAsResources as_choice_at as_resources_text c.args.text.now octets
    (string_bytes c.show.new.answer) (rw c.in-Some.is at c.in_ok-octets.ensures)
    (shows_octets IsAsResources as_choice_at as_resources_text octets c.as_resources_in.result is
    (string_bytes c.show.new.answer) shows))
    c.show.ensures
