-- One handle more is not null.
use Rattle.pigyelund_routes.proofs.Common.{InBlock, List, arith, subst}
use Rattle.std.proofs.lemmas.List.{take_all}
use Rattle.std.proofs.lemmas.List.Elements.{All-more}
use Rattle.pigyelund_routes.specs.SeveralTables.{AreThere}
use Rattle.pigyelund_routes.specs.declared.table_handle.TableRef.{TableRef}
use Rattle.pigyelund_routes.proofs.several_tables.first_null.Goals as goal

pub loop-at-preserved : goal.loop-at-preserved
loop-at-preserved c =
    let one = c.index-tables-at.result in
    All-more (λ (it : TableRef). InBlock it.at) c.args.tables.now c.loop-at.at one c.loop-at-test.true
    c.loop-at.invariant (subst (λ (it : TableRef). InBlock it.at) c.index-tables-at.is c.in-Some.ensures.1)

pub returns : goal.returns
returns c =
    subst (λ (its : List TableRef). AreThere its)
    (take_all c.loop-at.at c.args.tables.now (omega (arith, c.loop-at-test.false))) c.loop-at.invariant
