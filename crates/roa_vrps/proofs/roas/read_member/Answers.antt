use Rattle.roa_vrps.proofs.Common.{arith}
use Rattle.roa_vrps.proofs.JsonLemmas.{member_first}
use Rattle.roa_vrps.proofs.roas.read_member.Goals as goal

-- the first member with the name
pub returns-then-is_missing-clause-reads : goal.returns-then-is_missing-clause-reads
returns-then-is_missing-clause-reads g c values had =
    member_first c.args.asked c.args.depth c.args.reader.now _ c.args.key.now values c.args.outcome c.read_list.result
    had (grind arith) (grind arith) c.read_list.ensures.outcome
