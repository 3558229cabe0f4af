use Rattle.rpki_as.proofs.blocks.AsBlocks.verify_path.Goals as goal

pub returns-in-Err-Refused : goal.returns-in-Err-Refused
returns-in-Err-Refused g c =
    let ensured = rw c.in-Err-Refused.field-0-is at c.in-Err-Refused.ensures in
    rw (c.overclaimed.ensures, ← c.as_set.ensures) ensured
