-- Each cursor takes the value at the front of the octets.
use Rattle.rpki_theorem.proofs.ReadLemmas.{found_at_front}
use Rattle.rpki_theorem.proofs.claims.addresses.Goals as goal

pub returns-clause-lenient : goal.returns-clause-lenient
returns-clause-lenient g c =
    found_at_front _ _ _ c.args.octets.now c.take_families_from-lenient.result c.new-cursor.ensures.octets
    (c.take_families_from-lenient.ensures.reads c.new-cursor.ensures.mode)

pub returns-clause-strict : goal.returns-clause-strict
returns-clause-strict g c =
    found_at_front _ _ _ c.args.octets.now c.take_families_from-strict.result
    c.new_strict-strict_cursor.ensures.octets
    (c.take_families_from-strict.ensures.strict c.new_strict-strict_cursor.ensures.mode)
