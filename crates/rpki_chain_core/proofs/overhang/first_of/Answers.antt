-- The first block of a chain leaves the empty one.
use Rattle.rpki_chain_core.proofs.Common.{None, ap, refl, sym, ◌∙◌, option_copied}
use Rattle.std.proofs.lemmas.Option.{get_or_from_slice_get, slice_get_within}
use Rattle.rpki_chain_core.proofs.Chains.{IsChain-nil}
use Rattle.rpki_chain_core.proofs.OverhangWalk.{held_at, leaves, passed_start}
use Rattle.rpki_chain_core.proofs.overhang.first_of.Goals as goal

pub returns : goal.returns
returns g c =
    let f = g.T.Block.bounds in
    let number = g.T.Block.number in
    let read = c.bounds-min.ensures in
    let is = sym c.first.ensures.value ∙ ap option_copied c.in_ok-first.was in
    let own = held_at f number g.T.Block.last _ 0 _ c.bounds-min.result (slice_get_within _ 0 _ is)
    (sym (get_or_from_slice_get _ 0 _ _ is)) read.min read.max read.to_last in
    leaves (passed_start c.requires (IsChain-nil f g.T.Block.form)) number _ _ own None refl _ read.from_first tt
