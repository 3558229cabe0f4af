-- A block of the usual form that takes the whole text is the answer.
use Rattle.rpki_as_block.proofs.AsBlockIndexLemmas.{reads_whole}
use Rattle.rpki_as_block.proofs.text.AsBlockFromStr.from_str.Goals as goal

pub returns-in-Some : goal.returns-in-Some
returns-in-Some c = reads_whole _ _ _ _ c.as_bytes-bytes.ensures.value c.in-Some.ensures.found c.if-end-bytes.true
