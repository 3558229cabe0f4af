-- What was written is the octets of the families, and then those behind.
use Rattle.rpki_theorem.proofs.Common.{append-nil, arith, ℕ}
use Rattle.rpki_theorem.proofs.claims.addresses_read_back.Goals as goal

pub returns-clause-lenient : goal.returns-clause-lenient
returns-clause-lenient g c =
    let whole = c.claims_of_families.ensures.v4 c.args.v4.now c.encode_families.ensures.claims.0 c.requires.whole in
    let back = c.take_families_from-lenient.ensures.reads_back c.args.v4.now c.args.v6.now c.args.behind.now whole in
    grind (arith, append-nil {A = ℕ}, back c.encode_families.ensures.claims.1 c.requires.present)

pub returns-clause-strict : goal.returns-clause-strict
returns-clause-strict g c =
    let whole = c.claims_of_families.ensures.v4 c.args.v4.now c.encode_families.ensures.claims.0 c.requires.whole in
    let back = c.take_families_from-strict.ensures.reads_back c.args.v4.now c.args.v6.now c.args.behind.now whole in
    grind (arith, append-nil {A = ℕ}, back c.encode_families.ensures.claims.1 c.requires.present)
