-- A NULL says that resources are inherited, a SEQUENCE its blocks.
use Rattle.rpki_chain.proofs.Common.{refl, by_tag, Blocks, Inherit}
use Rattle.rpki_der.specs.Reading.{refined}
use Rattle.rpki_chain.proofs.der.take_listed.Goals.{in-5+in_ok-to_null-in-5, in-48+in_ok-read_some-in-48}
use Rattle.rpki_chain.proofs.der.take_listed.Goals as goal

pub returns-clause-by_mode : goal.returns-clause-by_mode
unfolding by_tag refined
returns-clause-by_mode g c =
    let value = c.in_ok-value.ensures in
    elim c.match-tag.branch [
      | in-5+in_ok-to_null-in-5 w ↦ (
        Inherit,
        rw (value.exact, ← c.tag.ensures.tag, w.in-5.is, w.in_ok-to_null-in-5.ensures.exact) refl,
        w.listed-is,
      )
      | in-48+in_ok-read_some-in-48 w ↦
          let blocks = w.in_ok-read_some-in-48 in
          let read =
          rw (w.cursor.ensures.octets, w.cursor.ensures.mode, value.hands_on_mode) at blocks.ensures.by_mode in (
            Blocks blocks.field-0.items,
            rw (value.exact, ← c.tag.ensures.tag, w.in-48.is, read) refl,
            (blocks.field-0, refl, w.listed-is),
          )
    ]
