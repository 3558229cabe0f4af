use Rattle.roa_vrps.proofs.Common.{arith, [], ◌++◌, ◌∷◌, ◌≡◌}
use Rattle.roa_vrps.proofs.MemberLemmas.{item_added, item_refused}
use Rattle.roa_vrps.proofs.roas.push_item.Goals as goal

pub returns-in_ok-add_item-in-Ok : goal.returns-in_ok-add_item-in-Ok
returns-in_ok-add_item-in-Ok g c before had =
    let pushed : c.push.new.self.items ≡ c.args.found.now.vrps.items ++ c.in-Ok.vrp ∷ [] = grind arith in
    item_added _ before _ _ _ had _ (grind arith) c.in-Ok.vrp c.in-Ok.ensures pushed
    (c.in_ok-add_item-in-Ok.ensures had.entries had.read c.in-Ok.vrp)

pub returns-in-Err : goal.returns-in-Err
returns-in-Err g c before had =
    item_refused _ before _ c.args.found.now c.args.found.now had _ (grind arith) c.in-Err.fault c.in-Err.ensures
