-- What the reading gives is the value of the grammar of the mode, and it gives what was written.
use Rattle.rpki_as.proofs.Common.{Claim, IsAsSet, IsClaim, List, Missing, taken_said, ℕ, ◌≢◌}
use Rattle.rpki_as.proofs.AsResourcesDer.{resources_in_modes}
use Rattle.rpki_as.proofs.resources.AsResources.take_from.Goals as goal

pub returns : goal.returns
returns g c =
    let taken =
    taken_said resources_in_modes c.args.cursor.now c.take_from_by_mode.new.cursor c.take_from_by_mode.result
    c.take_from_by_mode.ensures.by_mode in
    let back = λ (claim : Claim) (rest : List ℕ) (is : IsClaim IsAsSet claim) (some : claim ≢ Missing).
    taken.reads_back claim rest (is, some) in
    assumption (taken, back)
