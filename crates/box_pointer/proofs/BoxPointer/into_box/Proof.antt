-- The parts make the box again.
use Rattle.box_pointer.proofs.Common.{List, [], ap, refl, subst, sym, ◌++◌, ◌∷◌, ◌≡◌, box_in, box_out, Goes-blank, Good}
use Rattle.box_pointer.proofs.Common.{leaves, proved_at, flft, ftrue, SProp, ent, id⊢, fact, tables, no, bounded}
use Rattle.box_pointer.proofs.Common.{layout, param, param_laws, RattleType, owns, block_ptr, plain, types_at, nothing}
use Rattle.box_pointer.proofs.Common.{only, calls_at_last, triple_of, framed, Stays, stay_dropped, walk_of, inst_fn}
use Rattle.box_pointer.proofs.Common.{Args, Dict, Fn, a_type, dcons, dnil, Val, vptr, WpFn, alloc_all, env, free_all}
use Rattle.box_pointer.proofs.Common.{get, get_in, lands_last, look_at, pass_all, sets, !, at_ret, await, by, drop}
use Rattle.box_pointer.proofs.Common.{feq_i, fjoin, fsplit, join, keep, later, move, pick, qed, raw, rewrite, some}
use Rattle.box_pointer.proofs.Common.{split, split3, suffices, use1, ‵, ◌$◌, ◌∵◌, ◌⊛◌, sub, whole, and_then, blocks}
use Rattle.box_pointer.proofs.Common.{enter, exec, first, fld, no_more, of_opd, returns, stop}
use contract.BorrowLft.{◌⊑◌}
use denote.Triple.Clauses.{Lasts, lasts}
use Rattle.std.proofs.VecSteps.Shapes.{after}
use Rattle.std.proofs.BoxSteps.Form as box
use Rattle.box_pointer.proofs.BoxWords.{Parts, apart, fit, words}
use Rattle.std.specs.contracts.boxed.Box.from_raw as callee
use Rattle.std.proofs.boxed.Box.from_raw.Met.{met}
use Rattle.box_pointer.specs.contracts.BoxPointer.into_box.{ended, clauses}
use Rattle.box_pointer.specs.contracts.BoxPointer.into_box.Key.{name as #self}
use Rattle.box_pointer.proofs.BoxPointer.into_box.Statement.{statement}
use Rattle.box_pointer.proofs.BoxPointer.into_box.Code as code

-- what the function is called with
abbrev inst : RattleType → RattleType → Dict → Dict → Dict → Args
inst T A d dx dd = bounded (a_type ∷ a_type ∷ []) (T, (A, tt)) (dcons d (dcons dx (dcons dd dnil)))

pub into_box_spec : {M : Type 1} → statement M
into_box_spec 𝓤 𝓛 𝓜 𝓡 wired T A L LA g d dx dd allocator glue glued =
    let H = 𝓛.H in
    let 𝓣 = tables 𝓤 H 𝓜 𝓡 𝓡.env in
    let R : RattleType = param 0 T in
    let Z : RattleType = param 1 A in
    let LZ = param_laws 1 A LA in
    let En = ended T A g d dx dd in
    let c = clauses T A g d dx dd 𝓛 𝓜.mem 𝓡.returns in
    let E : box.Bx = record { row = T; laws = L; al = record { row = A; laws = LA; g = g; d = d; drops = dd } } in
    let fn : Fn = inst_fn (inst T A d dx dd) code.function in
    let stayed : Stays En.signature.params En.kept = (stay_dropped (plain (λ _. Parts R Z LZ g)) no, tt) in
    let goes = Goes-blank 𝓛 2 (plain (λ _. Parts R Z LZ g)) no (λ κs x f. tt) in
    proved_at 𝓛 En stayed c 𝓜 𝓡 (goes, tt) (#self (inst T A d dx dd)) fn
    (code.unfolded 𝓤 H 𝓜 𝓡 wired (T, (A, tt)) d dx dd) (λ z are.
    let κs = z.0.0 in
    let qs = z.0.1 in
    let v = z.0.3.0 in
    let Post : Val → SProp 𝓤 = (walk_of 𝓛 En stayed c).post z in
    let Run : List Val → SProp 𝓤 = λ ws. WpFn 𝓤 H 𝓣.C 𝓣.Λ fn ws Post in
    let alive = ‵ (flft κs.0 qs.0) ⊛ ‵ (flft κs.1.0 qs.1.0) ⊛ ‵ ftrue in
    let asked = raw ((c κs z.0.3).requires z.1) in
    qed 𝓛 ((alive ⊛ ‵ (owns (types_at En.signature.params κs) z.0.3 z.0.4)) ∷ asked ∷ []) ∵
    split ! $ move ! (1 ∷ []) $ fsplit ! $
    apart R Z LZ g ! v z.0.4.0 (λ b o h at are_words good.
    let w : Val = words b o h in
    let held = fit R Z LZ g b o h good in
    let k = triple_of 𝓛 (callee.signature T A g d dd) (callee.spec T A g d dd 𝓛 𝓜.mem 𝓡.returns) in
    let y : k.Ghost = ((κs, qs, tt, (v.alloc, (block_ptr b o, tt)), (h ∷ [], (vptr b o ∷ [], tt))), v.value) in
    -- the call gets the memory, the handle and the pointer
    move ! (4 ∷ []) $ use1 𝓛 (raw (fact 𝓤 (κs.0 ⊑ T.lives)) ⊛ raw (fact 𝓤 (κs.1.0 ⊑ A.lives)) ⊛ ‵ ftrue) (id⊢ 𝓤 _) $
    split3 ! $ move ! (2 ∷ []) $ drop ! $ move ! (1 ∷ 2 ∷ []) $ join ! $ move ! (1 ∷ 0 ∷ []) $ join ! $
    move ! (2 ∷ []) $
    feq_i ! (List Val) (vptr b o ∷ []) (vptr b o ∷ []) refl $ fjoin ! $ move ! (2 ∷ 0 ∷ []) $ fjoin ! $
    move ! (2 ∷ 0 ∷ []) $
    join ! $ join ! $ use1 𝓛 (raw (k.pre y)) (id⊢ 𝓤 _) $
    suffices ! (Run (w ∷ [])) (subst (λ (us : List Val). ent 𝓤 (Run (w ∷ [])) (Run us)) (sym (λ i. are_words i ++ []))
    (id⊢ 𝓤 (Run (w ∷ [])))) $
    enter ! 𝓣.C 𝓣.Λ fn (w ∷ []) Post $ alloc_all ! (λ l. pass_all ! refl (held, tt) $ let Ev = env fn.locals l in
    sets ! (of_opd ! (get_in ! (fld ! refl (stop !)) (sub ! 0 refl (whole !)))) refl (tt, tt) $
    sets ! (of_opd ! (get_in ! (fld ! refl (stop !)) (sub ! 1 refl (whole !)))) refl good $
    first ! $ blocks ! $ sets ! (of_opd ! (get ! refl)) refl good $
    calls_at_last ! (framed 𝓤 H 𝓜 𝓣) k
    (met 𝓤 𝓛 𝓜 𝓡 (code.calls-std_alloc::boxed::Box::from_raw 𝓡.env wired) T A L LA g d dd allocator glued)
    y (and_then ! (get ! refl) (and_then ! (get ! refl) (no_more !))) (λ u.
    let Last : Type 0 = Lasts (callee.ended T A g d dd) κs y.0.3 in
    use1 𝓛 (later (some (λ (r : (box.B E).Denot). (alive ⊛ ‵ ((box.B E).own_val r (u ∷ []))) ⊛
    some (λ (ls : Last). ‵ (lasts (callee.ended T A g d dd) κs y.0.3 ls) ⊛
    (raw (fact 𝓤 (r.value ≡ v.value)) ⊛ raw (fact 𝓤 (r.alloc ≡ v.alloc))))))) (id⊢ 𝓤 (k.post y u)) $
    await ! tt $
    pick ! (λ r. split ! $ move ! (1 ∷ []) $
    pick ! (λ _. split3 ! $ drop ! $ move ! (2 ∷ []) $ split ! $ move ! (1 ∷ []) $
    box_out E ! r (u ∷ []) (λ b' o' h' at' word good'. box_in E ! r b' o' r.value at' refl $
    rewrite ! 0 (λ (xs : List Val). ‵ ((box.B E).own_val r xs)) (sym word) refl $
    let made : Good (layout (box.B E)) u =
    subst (Good (layout (box.B E))) (sym (ap only word)) (fit R Z LZ g b' o' h' good') in
    lands_last ! refl made $ exec ! 𝓣.C 𝓣.Λ Ev (after 3 fn.body) (at_ret Ev Post) $
    sets ! (of_opd ! (get ! refl)) refl made $
    nothing ! $ nothing ! $ fjoin ! $ returns ! (look_at ! 0 refl) $ free_all ! refl $ keep ! (2 ∷ 0 ∷ 1 ∷ 3 ∷ []) $
    by ! (leaves 𝓛 En stayed c z u r ((tt, (tt, tt)), tt) (tt, tt)))))))))
