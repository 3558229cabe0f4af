-- The printed text of a set of the family is read as that set.
use Rattle.rpki_theorem.proofs.Common.{◌∙◌, ◌≡◌}
use Rattle.rpki_ipres.specs.SetText.{IsFamilySet, set_text}
use Rattle.rpki_theorem.proofs.addresses.read_back.Goals as goal

pub returns-clause-text : goal.returns-clause-text
returns-clause-text g c =
    let set = c.args.set.now in
    let of_family : IsFamilySet c.FAMILY.result set = rw c.FAMILY.ensures c.recall_invariant.ensures in
    let text : c.as_str.result.now ≡ set_text c.FAMILY.result set =
    rw c.FAMILY.ensures (c.as_str.ensures.value ∙ c.in_ok-text.ensures.ok) in
    c.from_str_with_family-parsed.ensures.reads_back set of_family text
