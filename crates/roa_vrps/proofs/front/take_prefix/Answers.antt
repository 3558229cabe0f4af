-- The address, the slash and the length are the prefix.
use Rattle.roa_vrps.proofs.UsualRowLemmas.{prefix_first}
use Rattle.roa_vrps.proofs.front.take_prefix.Goals as goal

pub returns : goal.returns
returns c =
    prefix_first c.args.text.now _ _ _ _ _ c.in-Some.ensures c.in_ok-digits.ensures c.in_ok-len.ensures
