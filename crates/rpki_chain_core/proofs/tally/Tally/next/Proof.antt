-- A value of no bytes, whose number is one more. Assumes `Logic`.
use Rattle.rpki_chain_core.proofs.CountSteps.{◌+◌, [], ◌∷◌, refl, proved, ftrue, vstruct, vnil, ‵, raw, ◌⊛◌, ◌$◌, ◌∵◌}
use Rattle.rpki_chain_core.proofs.CountSteps.{ !, qed, move, keep, split, fjoin, suffices, done, agg, enter, no_more}
use Rattle.rpki_chain_core.proofs.CountSteps.{returns, alloc_all, pass_all, free_all, look_at, sets, RefOf, yes, owns}
use Rattle.rpki_chain_core.proofs.CountSteps.{shr_vals, pure_i, plain, types_at, nothing, alive, Stays, walk_of, says}
use Rattle.rpki_chain_core.proofs.CountSteps.{stay_dropped, Goes-dropped, ends_at}
use Rattle.rpki_chain_core.specs.contracts.tally.Tally.{the_row as row}
use Rattle.rpki_chain_core.specs.contracts.tally.Tally.next as f
use Rattle.rpki_chain_core.proofs.tally.Tally.next.Statement.{statement}
use Rattle.rpki_chain_core.proofs.tally.Tally.next.Code as code

abbrev stayed : Stays f.ended.signature.params f.ended.kept
stayed = (stay_dropped (RefOf (0 ∷ []) tt (plain (λ _. row)) (λ _. tt)) yes, tt)

pub next_spec : {M : Type 1} → statement M
next_spec 𝓤 𝓛 𝓜 𝓡 wired =
    let c = f.clauses 𝓛 𝓜.mem 𝓡.returns in let W = walk_of 𝓛 f.ended stayed c in
    proved 𝓛 f.ended stayed c 𝓜 𝓡
    (Goes-dropped 𝓛 1 (RefOf (0 ∷ []) tt (plain (λ _. row)) (λ _. tt)) yes (λ κs x w. refl), tt)
    f.Key.name code.function (code.unfolded 𝓤 𝓛.H 𝓜 𝓡 wired)
    (λ κs. (shr_vals, tt)) (λ κs. ((λ r vs s. s.0), tt)) (λ κs qs bounds a n are.
    let y : W.Ghost = ((κs, qs, bounds, a, (shr_vals a.0, tt)), tt) in
    let more : row.Denot = record { number = a.0.now.number + 1 } in
    qed 𝓛 ((raw (alive 𝓛 f.signature κs qs) ⊛ ‵ (owns (types_at f.signature.params κs) a y.0.4)) ∷ ‵ ftrue ∷ []) ∵ split
    ! $ keep ! (0 ∷ []) $
    enter ! _ _ _ _ _ $ alloc_all ! (λ l. pass_all ! refl ((tt, tt), tt) $
    sets ! (agg ! (no_more !)) refl (tt, tt) $ returns ! (look_at ! 0 refl) $ free_all ! refl $
    suffices ! _ (ends_at 𝓛 f.ended stayed c y (vstruct vnil) more (tt, tt) (tt, tt)) $ says ! refl $
    pure_i ! (row.own_val more (vstruct vnil ∷ [])) ((λ vss. (tt, tt)), tt) ((tt, (refl, tt)), tt) $
    nothing ! $ nothing ! $ fjoin ! $ move ! (2 ∷ 0 ∷ 1 ∷ []) $ done !))
