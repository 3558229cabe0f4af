-- The text is `inherit`, or is read as a list.
use Rattle.rpki_as.proofs.Common.{Err, Ok, codes, sym, ◌∙◌, err_from_is_err_and, claim_of, Inherit, IsInherit}
use Rattle.std.specs.Cmp.Lexicographic.{bytes_decides}
use Rattle.rpki_as.proofs.AsResourcesTexts.{list_claim, list_fault, not_true, one_claim, printed_resources}
use Rattle.rpki_as.proofs.AsResourcesTexts.{resources_answers}
use Rattle.rpki_as.proofs.resources.AsResources.from_str.Goals as goal

pub returns-then-eq-clause-reads_back : goal.returns-then-eq-clause-reads_back
returns-then-eq-clause-reads_back g c =
    let same : IsInherit c.args.text.now =
    (bytes_decides c.args.text.now (codes "inherit")).0 (sym c.eq.ensures ∙ c.if-eq.true) in
    λ claim is printed.
    c.inherit.ensures
    ∙ one_claim c.args.text.now Inherit claim same (printed_resources c.args.text.now claim is printed)

pub returns-in_err-blocks-clause-exact : goal.returns-in_err-blocks-clause-exact
returns-in_err-blocks-clause-exact g c =
    let other : ¬ IsInherit c.args.text.now =
    not_true _ _ (bytes_decides c.args.text.now (codes "inherit")) (sym c.eq.ensures ∙ c.if-eq.false) in
    let p = err_from_is_err_and c.from_residual.result c.from_residual.ensures.1 in
    rw (p.1, p.2) (resources_answers c.args.text.now (Err c.in_err-blocks.field-0.0)
    (list_fault c.args.text.now other c.in_err-blocks.field-0.0 c.in_err-blocks.ensures.exact.found))

pub returns-in_err-blocks-clause-reads_back : goal.returns-in_err-blocks-clause-reads_back
returns-in_err-blocks-clause-reads_back g c =
    λ claim is printed.
    (returns-in_err-blocks-clause-exact g c).each_value claim (printed_resources c.args.text.now claim is printed)

pub returns-clause-exact : goal.returns-clause-exact
returns-clause-exact g c =
    let other : ¬ IsInherit c.args.text.now =
    not_true _ _ (bytes_decides c.args.text.now (codes "inherit")) (sym c.eq.ensures ∙ c.if-eq.false) in
    rw c.blocks-2.ensures (resources_answers c.args.text.now (Ok (claim_of c.in_ok-blocks.blocks))
    (list_claim c.args.text.now other c.in_ok-blocks.blocks c.in_ok-blocks.ensures.exact.found))

pub returns-clause-reads_back : goal.returns-clause-reads_back
returns-clause-reads_back g c =
    λ claim is printed. (returns-clause-exact g c).each_value claim (printed_resources c.args.text.now claim is printed)
