-- The files before the index were read.
use Rattle.origins_lines.proofs.Common.{false, ◌≡◌}
use Rattle.origins_lines.specs.Inputs.{AreFilesRead}
use Rattle.origins_lines.proofs.inputs.read_files.Given as goal

abbrev pub invariant-loop-index : goal.invariant-loop-index
invariant-loop-index g l = record {
  unmarked : g.I.Inputs.mark l.inputs ≡ false;
  text : g.I.Inputs.text l.inputs ≡ g.I.Inputs.text l.fn.inputs;
  read : AreFilesRead (g.I.Inputs.text l.fn.inputs) l.fn.selection.time l.index l.listed.items l.files.items l.expired;
}
