use Rattle.respath_lines.proofs.Common.{inl, inr, refl, on_ok_weaker, ip_from_str_error_text}
use Rattle.respath_lines.proofs.Common.{overclaimed_ip_text, set_text}
use Rattle.respath_lines.proofs.PathCommandLemmas.{shows_path}
use Rattle.respath_lines.proofs.path.path_ip.Goals as goal

pub returns-in-Ok : goal.returns-in-Ok
returns-in-Ok g c =
    on_ok_weaker c.write_left_ip.result
    (λ shows. inl (
      c.in-Ok.root,
      c.in-Ok.steps.items,
      c.in-Ok.ensures,
      shows_path (set_text c.args.family) (overclaimed_ip_text c.args.family)
          _ _ _ (rw c.as_slice.ensures.value at c.verify_path.ensures) _ shows,
    ))
    c.write_left_ip.ensures

pub returns-in-Err-Refused : goal.returns-in-Err-Refused
returns-in-Err-Refused g c =
    let fails = rw c.in-Err-Refused.field-0-is at c.in-Err-Refused.ensures in
    let fault_written =
    rw c.in-Err-Refused.field-0-is at (c.write_part_fault.ensures ip_from_str_error_text (λ fault. refl)) in
    on_ok_weaker c.write_part_fault.result (λ is. inr (c.in-Err-Refused.fault, fails, is)) fault_written
