use Rattle.roa_vrps.proofs.row.is_asn.Goals as goal

pub returns-in-Err : goal.returns-in-Err
returns-in-Err c = ((λ e. cc e), λ h. absurd (c.in-Err.ensures.exact.found h.0 h.1))
