use Rattle.roa_vrps.proofs.Common.{arith, eqb-true, field, nil_from_length, [], ◌≡◌}
use Rattle.roa_vrps.proofs.RowLemmas.{pair_found}
use Rattle.roa_vrps.proofs.row.read_columns.Goals as goal

pub returns-then-is_empty : goal.returns-then-is_empty
returns-then-is_empty c =
    let none : c.field_at-max_len.result.now ≡ [] = grind (arith, eqb-true, nil_from_length) in
    pair_found (field c.args.columns.asn c.args.line.now) (field c.args.columns.prefix c.args.line.now)
    (field c.args.columns.max_len c.args.line.now) c.read_pair.result (rw c.field_at-max_len.ensures at none)
    (rw (c.field_at-asn.ensures, c.field_at-prefix.ensures) at c.read_pair.ensures)
