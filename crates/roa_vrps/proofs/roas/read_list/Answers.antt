use Rattle.roa_vrps.proofs.Common.{Token, arith, token_of, value_is, ◌∷◌, ◌≡◌}
use Rattle.roa_vrps.proofs.JsonLemmas.{array_read, object_passed, scalar_passed}
use Rattle.roa_vrps.proofs.roas.read_list.Goals as goal

pub returns-in-BeginArray-clause-outcome : goal.returns-in-BeginArray-clause-outcome
returns-in-BeginArray-clause-outcome g c =
    let opened : c.args.reader.now ≡ Token.begin_array ∷ c.next.new.self = grind arith in
    array_read c.args.depth c.requires _ c.next.new.self c.args.asked _ c.read_items.result opened
    c.read_items.ensures.outcome

pub returns-in_ok-skip_members-in-BeginObject-clause-outcome :
    goal.returns-in_ok-skip_members-in-BeginObject-clause-outcome
returns-in_ok-skip_members-in-BeginObject-clause-outcome g c =
    let opened : c.args.reader.now ≡ Token.begin_object ∷ c.next.new.self = grind arith in
    object_passed c.args.depth c.requires _ c.next.new.self g.row.A.Denot c.args.asked _ opened
    c.in_ok-skip_members-in-BeginObject.ensures.read

pub returns-in-String-clause-outcome : goal.returns-in-String-clause-outcome
returns-in-String-clause-outcome g c =
    let first : c.args.reader.now ≡ token_of c.in_ok-token.token ∷ c.next.new.self = grind arith in
    scalar_passed g.row.A.Denot c.args.asked c.args.depth _ c.next.new.self (token_of c.in_ok-token.token)
    (rw (value_is c.args.depth c.args.reader.now, first) (grind arith))
