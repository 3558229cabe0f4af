use Rattle.json.proofs.Trees.{view-Object}
use Rattle.json.specs.Json.{document}
use Rattle.roa_slurm.proofs.Common.{Some, arith, members_view, object, ◌≡◌}
use Rattle.roa_slurm.proofs.FileLemmas.{text_says}
use Rattle.roa_slurm.proofs.file.read_text.Goals as goal

pub returns-in-Object-clause-found : goal.returns-in-Object-clause-found
returns-in-Object-clause-found g c =
    let is : document c.args.text.now ≡ Some (object (members_view c.in-Object.members.items)) =
    grind (arith, view-Object) in
    text_says c.args.text.now (members_view c.in-Object.members.items) c.read_members.result
    c.in-Ok.ensures.cases.1 is c.read_members.ensures
