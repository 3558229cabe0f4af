-- What the loop over the parts keeps.
use Rattle.rpki_text.proofs.Common.{map, HaveValues, kept}
use Rattle.rpki_text.proofs.list.read_elements.Given as goal

-- the values so far are those of the parts so far, as kept
abbrev pub invariant-loop-part : goal.invariant-loop-part
invariant-loop-part g l =
    HaveValues (λ t a. g.R.ReadElement.has l.reader t a) (kept (map (λ p. p.now) l.yielded)) l.values.items
