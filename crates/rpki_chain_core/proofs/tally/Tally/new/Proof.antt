-- A value of no bytes, whose number is 0. Assumes `Logic`.
use Rattle.rpki_chain_core.proofs.CountSteps.{[], ◌∷◌, refl, proved, ftrue, vstruct, vnil, ‵, raw, ◌$◌, ◌∵◌, !, qed}
use Rattle.rpki_chain_core.proofs.CountSteps.{drop, suffices, done, agg, enter, no_more, returns, alloc_all, pass_all}
use Rattle.rpki_chain_core.proofs.CountSteps.{free_all, look_at, sets, pure_i, nothing, on_entry, Stays, walk_of, says}
use Rattle.rpki_chain_core.proofs.CountSteps.{ends_at}
use Rattle.rpki_chain_core.specs.contracts.tally.Tally.{the_row as row}
use Rattle.rpki_chain_core.specs.contracts.tally.Tally.new as f
use Rattle.rpki_chain_core.proofs.tally.Tally.new.Statement.{statement}
use Rattle.rpki_chain_core.proofs.tally.Tally.new.Code as code

abbrev stayed : Stays f.ended.signature.params f.ended.kept
stayed = tt

pub new_spec : {M : Type 1} → statement M
new_spec 𝓤 𝓛 𝓜 𝓡 wired =
    let c = f.clauses 𝓛 𝓜.mem 𝓡.returns in let W = walk_of 𝓛 f.ended stayed c in
    proved 𝓛 f.ended stayed c 𝓜 𝓡 tt
    f.Key.name code.function (code.unfolded 𝓤 𝓛.H 𝓜 𝓡 wired)
    (λ κs. tt) (λ κs. tt) (λ κs qs bounds a n are.
    let y : W.Ghost = ((κs, qs, bounds, a, tt), tt) in
    let none : row.Denot = record { number = 0 } in
    qed 𝓛 (raw (on_entry 𝓛 f.signature κs qs a tt) ∷ ‵ ftrue ∷ []) ∵ drop ! $ drop ! $
    enter ! _ _ _ _ _ $ alloc_all ! (λ l. pass_all ! refl tt $
    sets ! (agg ! (no_more !)) refl (tt, tt) $ returns ! (look_at ! 0 refl) $ free_all ! refl $
    suffices ! _ (ends_at 𝓛 f.ended stayed c y (vstruct vnil) none tt tt) $ says ! refl $
    pure_i ! (row.own_val none (vstruct vnil ∷ [])) ((λ vss. (tt, tt)), tt) ((tt, (refl, tt)), tt) $
    nothing ! $ nothing ! $ done !))
