-- What the loop over the items behind the first keeps.
use Rattle.rpki_text.proofs.Common.{List, Some, codes, take, ℕ, ◌++◌, ◌≡◌, flat_map}
use Rattle.std.specs.Fmt.{HasWritten, IsPlainFormatter}
use Rattle.rpki_text.proofs.list.fmt_elements.Given as goal

-- what has been written of the rest
abbrev pub invariant-loop-item : goal.invariant-loop-item
invariant-loop-item g l =
    (show : _ → List ℕ) → ((item : _) → g.P.FmtElement.text l.printer item ≡ Some (show item))
    → IsPlainFormatter l.initial.f → HasWritten g.W.Write.write_str_gives l.initial.f
    (flat_map (λ b. codes ", " ++ show b) (take l.item-index l.rest)) l.f
