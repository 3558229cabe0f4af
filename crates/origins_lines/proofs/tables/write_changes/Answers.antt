-- The changes that were written of the two lists are those of the files.
use Rattle.origins_lines.proofs.Common.{arith, length, rules, ◌≡◌, common_steps}
use Rattle.origins_lines.proofs.tables.write_changes.Goals as goal

pub returns-in-Ok-write_listed_changes : goal.returns-in-Ok-write_listed_changes
returns-in-Ok-write_listed_changes g c =
    let first : c.len.result ≡ length c.in-Ok.listed.items = first_of (search rules, grind (arith, common_steps)) in
    let second : c.len-in-Ok-write_listed_changes.result ≡ length c.in-Ok-read_file.listed.items =
    first_of (search rules, grind (arith, common_steps)) in
    let old = c.in-Ok.ensures in
    let new = c.in-Ok-read_file.ensures in
    let ran = rw (c.as_slice.ensures.value, c.as_slice-2.ensures.value) at c.in-Ok-write_listed_changes.ensures in
    ((old.unmarked, old.read_whole), new.unmarked, new.read_whole, _, _, old.found, new.found, (first, second, ran))

pub returns : goal.returns
returns g c =
    let old = c.in-Ok.ensures in
    let new = c.in-Ok-read_file.ensures in
    let ran = rw (c.as_slice.ensures.value, c.as_slice-2.ensures.value) at c.in-Err-write_listed_changes.ensures in
    ((old.unmarked, old.read_whole), new.unmarked, new.read_whole, _, _, old.found, new.found, ran)
