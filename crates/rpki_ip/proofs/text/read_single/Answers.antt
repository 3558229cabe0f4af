use Rattle.rpki_ip.proofs.Common.{Ok}
use Rattle.rpki_ip.proofs.RangeTextLemmas.{single_one, answers_by_one, single_of}
use Rattle.rpki_ip.proofs.text.read_single.Goals as goal

pub returns : goal.returns
returns c =
    answers_by_one (single_one c.args.wanted c.args.text.now) (Ok _) (
      c.in_ok-addr.addr,
      c.in_ok-addr.ensures,
      single_of c.in_ok-addr.addr c.new.result _ _ c.new.ensures
          c.from.ensures c.greatest.ensures,
    )
