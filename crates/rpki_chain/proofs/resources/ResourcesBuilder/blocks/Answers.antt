-- The list that is handed over is the one so far, and one without blocks where there was none.
use Rattle.rpki_chain.proofs.Common.{List, Option, ap, option_map, refl, rules, ℕ, ◌∙◌, ◌≡◌, blocks_so_far}
use Rattle.rpki_chain.proofs.resources.ResourcesBuilder.blocks.Goals as goal
use Rattle.rpki_chain.proofs.resources.ResourcesBuilder.blocks.Goals.{in-Some, in-None}

pub returns : goal.returns
returns g c =
    let blocks = g.B.CollectBlocks.blocks in
    let so_far : Option (g.row.B.Denot) → List (ℕ × ℕ) = λ o. blocks_so_far (option_map blocks o) in
    let begins : blocks c.match-take.listed ≡ blocks_so_far c.args.self.now = elim c.match-take.branch [
      | in-Some w ↦ ap blocks w.listed-is ∙ ap so_far w.in-Some.ensures.value ∙ ap blocks_so_far c.self.view_is
      | in-None w ↦ ap blocks w.listed-is ∙ w.start-listed.ensures ∙ ap so_far w.in-None.ensures.value
          ∙ ap blocks_so_far c.self.view_is
    ] in
    (c.match-take.listed, c.build-answer.new.arg2, begins, search rules, refl)
