-- Each value is taken, and each that encloses it ends behind it; what a strict cursor gave is the runs of its set as
-- they stand.
use Rattle.rpki_as.proofs.Common.{refl, sym, ◌∙◌, as_bounds, new_as_block, only, listed_are, IsChain, refined}
use Rattle.rpki_chain.proofs.BlocksInModes.{chain_listed}
use Rattle.rpki_as.proofs.AsSetDerLemmas.{blocks}
use Rattle.rpki_as.proofs.AsResourcesDer.{claim_of_listed}
use Rattle.rpki_as.proofs.resources.AsResources.take_from_by_mode.Goals as goal

pub from_listed-requires-clause-chain : goal.from_listed-requires-clause-chain
from_listed-requires-clause-chain g c strict =
    let said = c.in_ok-listed.ensures.by_mode in
    let tagged = c.cursor-tagged.result in
    let mode = c.cursor-tagged.ensures.mode ∙ c.in_ok-value.ensures.hands_on_mode ∙ c.in_ok-inside.ensures.hands_on_mode
    ∙ sym c.is_strict.ensures.mode ∙ strict in
    listed_are (λ blocks. blocks.items) (IsChain as_bounds new_as_block) said.0 c.in_ok-listed.listed said.2
    (chain_listed blocks tagged said.0 _ mode said.1)

pub returns-clause-by_mode : goal.returns-clause-by_mode
unfolding only refined
returns-clause-by_mode g c =
    let said = c.in_ok-listed.ensures.by_mode in
    let mode =
    c.cursor-tagged.ensures.mode ∙ c.in_ok-value.ensures.hands_on_mode ∙ c.in_ok-inside.ensures.hands_on_mode in (
      said.0,
      rw (
        c.in_ok-inside.ensures.exact,
        c.in_ok-value.ensures.exact,
        ← c.cursor-tagged.ensures.octets,
        ← mode,
        said.1,
        c.in_ok-finish.ensures.exact,
        c.in_ok-finish-2.ensures.exact,
      ) refl,
      claim_of_listed (λ blocks. blocks.items) said.0 c.in_ok-listed.listed c.in_ok-resources.resources said.2
          c.in_ok-resources.ensures,
    )
