use Rattle.rpki_ip.proofs.Common.{ap, map, sym, ◌∙◌, ◌∷◌, ◌≡◌, All-head, IsPrefix, widened, All-rest}
use Rattle.rpki_ip.proofs.RangeCoverLemmas.{widened_made}
use Rattle.rpki_ip.proofs.cover.V4PrefixesIterator.next.Goals as goal

pub invariant_of-self-2 : goal.invariant_of-self-2
invariant_of-self-2 c =
    All-rest (IsPrefix 32) c.in_ok-prefix.prefix c.next.new.self c.self.inside.cover c.in_ok-prefix.ensures.steps
    c.self.invariant

pub returns-clause-steps : goal.returns-clause-steps
returns-clause-steps c =
    let split : c.self.inside.cover ≡ c.in_ok-prefix.prefix ∷ c.next.new.self = c.in_ok-prefix.ensures.steps in
    let first = All-head (IsPrefix 32) c.in_ok-prefix.prefix c.next.new.self (rw split at c.self.invariant) in
    let made = widened_made c.in_ok-prefix.prefix c.new.result c.from_bits.result c.first.result c.len.result first
    c.new.ensures.value c.from_bits.ensures c.first.ensures c.len.ensures in
    sym c.self.view_is ∙ ap (map widened) split ∙ ap (λ p. p ∷ map widened c.next.new.self) (sym made)
