-- Equality of sets of the three kinds, and of changes, is an equivalence.
use Rattle.std.specs.Cmp.{IsEquivalence, IsPartialEquivalence, on_equiv, and_equiv, partial_equiv_from_equiv}
use Rattle.rpki_chain_core.specs.EqualityLaws.{runs_equiv}
use Rattle.rpki_resources.specs.Triples.{Changes, Triple, are_same_changes, is_same_triple}

-- equality of sets is an equivalence
pub triples_equiv : IsEquivalence is_same_triple
triples_equiv =
    and_equiv (on_equiv (λ (t : Triple). t.asn) runs_equiv)
    (and_equiv (on_equiv (λ (t : Triple). t.ipv4) runs_equiv) (on_equiv (λ (t : Triple). t.ipv6) runs_equiv))

-- equality of sets is a partial equivalence
pub triples_per : IsPartialEquivalence is_same_triple
triples_per = partial_equiv_from_equiv triples_equiv

-- equality of changes is an equivalence
pub changes_equiv : IsEquivalence are_same_changes
changes_equiv =
    and_equiv (on_equiv (λ (d : Changes). d.added) triples_equiv) (on_equiv (λ (d : Changes). d.removed) triples_equiv)

-- equality of changes is a partial equivalence
pub changes_per : IsPartialEquivalence are_same_changes
changes_per = partial_equiv_from_equiv changes_equiv
