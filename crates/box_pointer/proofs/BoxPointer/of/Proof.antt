-- The box's pointer and its handle are the parts.
use Rattle.box_pointer.proofs.Common.{List, [], ap, refl, subst, sym, ◌++◌, ◌∙◌, ◌∷◌, ◌≡◌, box_in, box_out, Goes-blank}
use Rattle.box_pointer.proofs.Common.{handle_tells, leaves, proved_at, flft, fsep, ftrue, SProp, emp, ent, fst∗, id⊢}
use Rattle.box_pointer.proofs.Common.{never, fact, fact_i, tables, RawPtr, no, bounded, param, param_laws, RattleType}
use Rattle.box_pointer.proofs.Common.{owns, Ptr, block_ptr, in_a_block, null_ptr, ptr_val, plain, types_at, heard}
use Rattle.box_pointer.proofs.Common.{nothing, only, calls_at, triple_of, framed, Stays, stay_dropped, walk_of, inst_fn}
use Rattle.box_pointer.proofs.Common.{Args, Dict, Fn, a_type, dcons, dnil, Val, of_list, vstruct, WpFn, alloc_all}
use Rattle.box_pointer.proofs.Common.{free_all, get, get_in, lands_as, look_at, pass_all, sets, !, await, by, drop}
use Rattle.box_pointer.proofs.Common.{feq_l, fjoin, fpick, fsplit, join, keep, later, move, pick, qed, raw, rewrite}
use Rattle.box_pointer.proofs.Common.{some, split, split3, suffices, use0, use1, ‵, ◌$◌, ◌∵◌, ◌⊛◌, sem, agg, sub, whole}
use Rattle.box_pointer.proofs.Common.{and_then, enter, fld, no_more, of_opd, returns, stop}
use mir.Raw.{raw as bare}
use denote.Struct.Tuple.{Tuple}
use Rattle.std.proofs.BoxSteps.Form as box
use Rattle.box_pointer.proofs.BoxWords.{Boxed, fit, together, words}
use Rattle.std.specs.contracts.boxed.Box.into_raw_with_allocator as callee
use Rattle.std.proofs.boxed.Box.into_raw_with_allocator.Met.{met}
use Rattle.box_pointer.specs.contracts.BoxPointer.of.{ended, clauses}
use Rattle.box_pointer.specs.contracts.BoxPointer.of.Key.{name as #self}
use Rattle.box_pointer.proofs.BoxPointer.of.Statement.{statement}
use Rattle.box_pointer.proofs.BoxPointer.of.Code as code

-- what the function is called with
abbrev inst : RattleType → RattleType → Dict → Dict → Dict → Args
inst T A d dx dd = bounded (a_type ∷ a_type ∷ []) (T, (A, tt)) (dcons d (dcons dx (dcons dd dnil)))

pub of_spec : {M : Type 1} → statement M
of_spec 𝓤 𝓛 𝓜 𝓡 wired T A L LA g d dx dd allocator glue glued =
    let H = 𝓛.H in
    let 𝓣 = tables 𝓤 H 𝓜 𝓡 𝓡.env in
    let R : RattleType = param 0 T in
    let Z : RattleType = param 1 A in
    let LZ = param_laws 1 A LA in
    let En = ended T A g d dx dd in
    let c = clauses T A g d dx dd 𝓛 𝓜.mem 𝓡.returns in
    let E : box.Bx = record { row = T; laws = L; al = record { row = A; laws = LA; g = g; d = d; drops = dd } } in
    let fn : Fn = inst_fn (inst T A d dx dd) code.function in
    let stayed : Stays En.signature.params En.kept = (stay_dropped (plain (λ _. box.B E)) no, tt) in
    let goes = Goes-blank 𝓛 2 (plain (λ _. box.B E)) no (λ κs x f. tt) in
    proved_at 𝓛 En stayed c 𝓜 𝓡 (goes, tt) (#self (inst T A d dx dd)) fn
    (code.unfolded 𝓤 H 𝓜 𝓡 wired (T, (A, tt)) d dx dd) (λ z are.
    let κs = z.0.0 in
    let qs = z.0.1 in
    let v = z.0.3.0 in
    let Post : Val → SProp 𝓤 = (walk_of 𝓛 En stayed c).post z in
    let Run : List Val → SProp 𝓤 = λ ws. WpFn 𝓤 H 𝓣.C 𝓣.Λ fn ws Post in
    let alive = ‵ (flft κs.0 qs.0) ⊛ ‵ (flft κs.1.0 qs.1.0) ⊛ ‵ ftrue in
    let asked = raw ((c κs z.0.3).requires z.1) in
    qed 𝓛 ((alive ⊛ ‵ (owns (types_at En.signature.params κs) z.0.3 z.0.4)) ∷ asked ∷ []) ∵
    split ! $ move ! (1 ∷ []) $ fsplit ! $
    box_out E ! v z.0.4.0 (λ b o h at are_words good. box_in E ! v b o v.value at refl $
    let w : Val = box.word E h b o in
    let held = fit R Z LZ g b o h good in
    let k = triple_of 𝓛 (callee.signature T A g d dd dx) (callee.spec T A g d dd dx 𝓛 𝓜.mem 𝓡.returns) in
    let y : k.Ghost = ((κs, qs, tt, (v, tt), (w ∷ [], tt)), tt) in
    -- the call gets the box, and answers the pair
    fjoin ! $ move ! (1 ∷ 0 ∷ []) $ join ! $ join ! $ use1 𝓛 (raw (k.pre y)) (id⊢ 𝓤 _) $
    suffices ! (Run (w ∷ [])) (subst (λ (us : List Val). ent 𝓤 (Run (w ∷ [])) (Run us)) (sym (λ i. are_words i ++ []))
    (id⊢ 𝓤 (Run (w ∷ [])))) $
    enter ! 𝓣.C 𝓣.Λ fn (w ∷ []) Post $ alloc_all ! (λ l. pass_all ! refl (held, tt) $
    sets ! (of_opd ! (get ! refl)) refl held $
    calls_at ! (framed 𝓤 H 𝓜 𝓣) k
    (met 𝓤 𝓛 𝓜 𝓡 (code.calls-std_alloc::boxed::Box::into_raw_with_allocator 𝓡.env wired) T A L LA g d dd dx allocator
    glued glue)
    y (and_then ! (get ! refl) (no_more !)) (λ u.
    use1 𝓛 (later (some (λ (r : Ptr × A.Denot). (alive ⊛ ‵ ((Tuple (RawPtr ∷ Z ∷ [])).own_val r (u ∷ []))) ⊛
    some (λ (_ : (Unit {0} × (Unit {0} × Unit {0})) × Unit {0}). ‵ (fsep (fsep ftrue (fsep ftrue ftrue)) ftrue) ⊛
    (raw (fact 𝓤 (r.1 ≡ v.alloc)) ⊛ ‵ (Boxed R Z LZ g v.alloc v.value r.0)))))) (id⊢ 𝓤 _) $
    await ! tt $
    pick ! (λ r. split ! $ move ! (1 ∷ []) $ pick ! (λ _. split3 ! $ drop ! $ heard ! (r.1 ≡ v.alloc) (λ same.
    in_a_block ! r.0 (Boxed R Z LZ g v.alloc v.value)
    (fst∗ 𝓤 (never 𝓤) (sem 𝓛 (g.dealloc_token v.alloc (bare (box.τ E)) null_ptr))) (λ b' o' there.
    move ! (1 ∷ []) $ split ! $ move ! (1 ∷ []) $
    fpick ! (λ each. fsplit ! $ feq_l ! (λ all. fsplit ! $ feq_l ! (λ pointer. fsplit ! $
    rewrite ! 0 (λ (s : A.Denot). ‵ (A.own_val s each.1.0)) same refl $
    handle_tells E.al ! v.alloc each.1.0 (λ h' handle good'.
    let made = fit R Z LZ g b' o' h' good' in
    let first = pointer ∙ ap (λ (p : Ptr). ptr_val p ∷ []) there in
    lands_as ! (ap only (all ∙ (λ j. vstruct (of_list (first j ++ (handle j ++ []))) ∷ []))) refl made $
    -- the pair is taken apart, and the parts are made of it
    sets ! (of_opd ! (get_in ! (fld ! refl (stop !)) (sub ! 0 refl (whole !)))) refl (tt, tt) $
    sets ! (of_opd ! (get_in ! (fld ! refl (stop !)) (sub ! 1 refl (whole !)))) refl good' $
    sets ! (of_opd ! (get ! refl)) refl good' $
    sets ! (agg ! (and_then ! (get ! refl) (and_then ! (get ! refl) (no_more !)))) refl made $
    move ! (3 ∷ 0 ∷ []) $ together R Z LZ g ! b' o' h' v.alloc v.value $
    use0 𝓛 (raw (fact 𝓤 (v.value ≡ v.value))) (fact_i 𝓤 (v.value ≡ v.value) (emp 𝓤) refl) $
    nothing ! $ nothing ! $ fjoin ! $ returns ! (look_at ! 0 refl) $ free_all ! refl $ keep ! (4 ∷ 0 ∷ 2 ∷ 1 ∷ []) $
    by ! (leaves 𝓛 En stayed c z (words b' o' h') (record { at = block_ptr b' o'; alloc = v.alloc; value = v.value })
    ((tt, (tt, tt)), tt) (tt, tt))))))))))))))
