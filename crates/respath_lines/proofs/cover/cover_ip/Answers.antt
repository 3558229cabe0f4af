use Rattle.respath_lines.proofs.Common.{arith, inl, subst, sym, on_ok_weaker, Holds, IsShortestCover}
use Rattle.respath_lines.proofs.CoverCommandLemmas.{drained}
use Rattle.respath_lines.proofs.cover.cover_ip.Goals as goal

pub returns-in-Ok : goal.returns-in-Ok
returns-in-Ok g c =
    let set = c.in-Ok.set in
    on_ok_weaker c.print_prefixes.result
    (λ printed.
    let cover = subst (IsShortestCover 128 (Holds set)) (sym (drained _ _ printed.1)) c.prefixes.ensures in
    inl (printed.0, (set, c.in-Ok.ensures.exact.found, cover), printed.2))
    c.print_prefixes.ensures

pub returns-in-Err-Refused : goal.returns-in-Err-Refused
returns-in-Err-Refused g c = grind (arith, c.write_fault.ensures)
