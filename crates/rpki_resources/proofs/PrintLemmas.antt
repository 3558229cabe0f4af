-- What is printed of a kind, by whether its list is empty.
use Rattle.rpki_resources.proofs.Common.{Bool, IsTrue, List, [], arith, refl, ℕ, ◌++◌, ◌↔◌, ◌≡◌, if◌then◌else◌, Runs}
use Rattle.rpki_resources.proofs.Common.{kind_text, is_none}

-- whether a set is empty is what its list tells
none_is : (b : Bool) (set : Runs) → IsTrue b ↔ (set ≡ []) → b ≡ is_none set
none_is b set h = grind (arith)

pub kind_is : (kind : List ℕ) (text : Runs → List ℕ) (b : Bool) (set : Runs) → IsTrue b ↔ (set ≡ [])
    → (if b then [] else kind ++ text set) ≡ kind_text kind text set
kind_is kind text b set h = rw (none_is b set h) refl
