use Rattle.rpki_ipres.proofs.Common.{HasBlocks, HasIpBlocks, same_blocks, same_ip_blocks}
use Rattle.rpki_ipres.proofs.PrintedSets.{either_written, family_written, one_set, printed_as_numbers}
use Rattle.rpki_ipres.proofs.laws.printed_sets.Goals as goal

pub returns : goal.returns
returns c = record {
  written = family_written;
  one_set = λ family text. one_set (HasBlocks family text) (same_blocks family text);
  written_without_family = either_written;
  one_set_without_family = λ text. one_set (HasIpBlocks text) (same_ip_blocks text);
  alike = printed_as_numbers;
}
