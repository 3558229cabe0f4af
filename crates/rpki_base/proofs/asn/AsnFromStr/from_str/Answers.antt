-- A number of the usual form that takes the whole text is the answer.
use Rattle.rpki_base.proofs.AsnIndexLemmas.{reads_whole}
use Rattle.rpki_base.proofs.asn.AsnFromStr.from_str.Goals as goal

pub returns-in-Some : goal.returns-in-Some
returns-in-Some c = reads_whole _ _ _ _ c.as_bytes-bytes.ensures.value c.in-Some.ensures.number c.if-end-bytes.true
