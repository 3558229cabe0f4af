use Rattle.respath_lines.proofs.Common.{lit<, err_from_is_err_and}
use Rattle.respath_lines.proofs.PathCommandLemmas.{first_part, one_part, refused_root, refused_step}
use Rattle.respath_lines.proofs.steps.read_path.Goals as goal

-- no bar: the root's list is all of the path
pub returns-in_err-root : goal.returns-in_err-root
returns-in_err-root g c =
    let one = one_part c.args.path.now (c.in_default.ensures.byte (lit< tt) (λ w o found. found)) in
    let p = err_from_is_err_and c.from_residual.result c.from_residual.ensures.1 in
    rw (p.1, p.2) (refused_root _ _ _ _ _ _ one c.in_err-root.field-0.0 (rw c.in_err-root.was at c.read_root.ensures))

pub returns-in_default : goal.returns-in_default
returns-in_default g c =
    let one = one_part c.args.path.now (c.in_default.ensures.byte (lit< tt) (λ w o found. found)) in
    rw one (rw c.in_ok-root.was at c.read_root.ensures, rw c.new.ensures.items tt)

-- the root's list ends at the first bar
pub returns-in_err-root-2 : goal.returns-in_err-root-2
returns-in_err-root-2 g c =
    let first = first_part _ _ _ (c.in-Some.ensures.byte (lit< tt) (λ w o found. found)) in
    let p = err_from_is_err_and c.from_residual-in_err-root-2.result c.from_residual-in_err-root-2.ensures.1 in
    rw (p.1, p.2) (refused_root _ _ _ _ _ _ first c.in_err-root-2.field-0.0
    (rw c.in_err-root-2.was at c.read_root-2.ensures))

pub returns-in_err-steps : goal.returns-in_err-steps
returns-in_err-steps g c =
    let first = first_part _ _ _ (c.in-Some.ensures.byte (lit< tt) (λ w o found. found)) in
    let p = err_from_is_err_and c.from_residual-in_err-steps.result c.from_residual-in_err-steps.ensures.1 in
    rw (p.1, p.2) (refused_step _ _ _ _ _ _ first _ (rw c.in_ok-root-2.was at c.read_root-2.ensures)
    c.in_err-steps.field-0.0 (rw c.in_err-steps.was at c.read_steps.ensures))

pub returns : goal.returns
returns g c =
    let first = first_part _ _ _ (c.in-Some.ensures.byte (lit< tt) (λ w o found. found)) in
    rw first (rw c.in_ok-root-2.was at c.read_root-2.ensures, rw c.in_ok-steps.was at c.read_steps.ensures)
