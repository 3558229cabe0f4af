-- The block of a box is given out.
use Rattle.pigyelund_c.proofs.HandleWords.{List, [], refl, subst, sym, ◌++◌, ◌∷◌, ◌≡◌, Goes-blank, leaves, proved_at}
use Rattle.pigyelund_c.proofs.HandleWords.{box_owns, Some, ftrue, SProp, emp, ent, id⊢, fact, fact_i, tables, RawPtr}
use Rattle.pigyelund_c.proofs.HandleWords.{RattleType, Valss, owns, InBlock, block_ptr, plain, types_at, nothing, shape}
use Rattle.pigyelund_c.proofs.HandleWords.{within, alive, Stays, stay_dropped, walk_of, Val, vcons, vnil, vptr, vstruct}
use Rattle.pigyelund_c.proofs.HandleWords.{WpFn, alloc_all, free_all, get, get_in, look_at, pass_all, sets, !, by, drop}
use Rattle.pigyelund_c.proofs.HandleWords.{feq_i, fjoin, fpack, fsplit, keep, move, qed, raw, split, suffices, use0, ‵}
use Rattle.pigyelund_c.proofs.HandleWords.{◌$◌, ◌∵◌, ◌⊛◌, agg, sub, whole, and_then, enter, fld, no_more, of_opd}
use Rattle.pigyelund_c.proofs.HandleWords.{returns, stop, apart, fit, words, set_row}
use Rattle.std.specs.contracts.alloc.Global as heap
use Rattle.std.proofs.alloc.Global.TheLaws as heap_laws
use Rattle.std.specs.contracts.impls.GlobalAllocator.TheImpl.{ghosts}
use Rattle.std.specs.declared.alloc.Global.{Global}
use Rattle.box_pointer.specs.contracts.BoxPointer as pointer
use Rattle.pigyelund_c.specs.contracts.set_handle.SetOutput as output_struct
use Rattle.pigyelund_c.specs.contracts.set_handle.SetOutput.of.{ended, clauses}
use Rattle.pigyelund_c.specs.contracts.set_handle.SetOutput.of.Key.{name as #self}
use Rattle.pigyelund_c.proofs.set_handle.SetOutput.of.Statement.{statement}
use Rattle.pigyelund_c.proofs.set_handle.SetOutput.of.Code as code

pub of_spec : {M : Type 1} → statement M
of_spec 𝓤 𝓛 𝓜 𝓡 wired =
    let H = 𝓛.H in let 𝓣 = tables 𝓤 H 𝓜 𝓡 𝓡.env in let En = ended in let c = clauses 𝓛 𝓜.mem 𝓡.returns in
    let R : RattleType = set_row in let Z : RattleType = heap.the_row in let LZ = heap_laws.the_row_laws in
    let P : RattleType = pointer.the_row R Z ghosts in let fn = code.function in
    let hs : Stays En.signature.params En.kept = (stay_dropped (plain (λ _. P)) En.kept.0, tt) in
    proved_at 𝓛 En hs c 𝓜 𝓡 (Goes-blank 𝓛 0 (plain (λ _. P)) En.kept.0 (λ κs x f. tt), tt) #self fn
    (code.unfolded 𝓤 H 𝓜 𝓡 wired) (λ z are.
    let Post : Val → SProp 𝓤 = (walk_of 𝓛 En hs c).post z in let Run : List Val
    → SProp 𝓤 = λ ws. WpFn 𝓤 H 𝓣.C 𝓣.Λ fn ws Post in let v = z.0.3.0 in
    qed 𝓛
    ((raw (alive 𝓛 En.signature z.0.0 z.0.1) ⊛ ‵ (owns (types_at En.signature.params z.0.0) z.0.3 z.0.4))
    ∷ ‵ ftrue ∷ []) ∵ move ! (1 ∷ []) $ drop ! $ split ! $ move ! (1 ∷ []) $ fsplit ! $
    apart R Z LZ ghosts ! v z.0.4.0 (λ b o h e ws fits.
    let w : Val = words b o h in let out : Val = vstruct (vcons (vptr b o) vnil) in
    suffices ! (Run (w ∷ []))
    (subst (λ (us : List Val). ent 𝓤 (Run (w ∷ [])) (Run us)) (sym (λ i. ws i ++ [])) (id⊢ 𝓤 (Run (w ∷ [])))) $
    enter ! 𝓣.C 𝓣.Λ fn (w ∷ []) Post $ alloc_all ! (λ l. pass_all ! refl (fit R Z LZ ghosts b o h fits, tt) $
    -- [the box; the handle; nothing; the tokens]
    sets ! (of_opd ! (get_in ! (fld ! refl (stop !)) (sub ! 0 refl (whole !)))) refl (tt, tt) $
    sets ! (of_opd ! (get ! refl)) refl (tt, tt) $
    sets ! (agg ! (and_then ! (get ! refl) (no_more !))) refl (tt, (tt, tt)) $ returns ! (look_at ! 0 refl) $
    free_all ! refl $ keep ! (0 ∷ 3 ∷ []) $
    fpack ! Global (λ a. box_owns (ghosts.dealloc_token a) R (block_ptr b o) v.value) v.alloc $
    nothing ! $ feq_i ! (List Val) (vptr b o ∷ []) (vptr b o ∷ []) refl $ fjoin ! $
    feq_i ! (List Val) (out ∷ []) (out ∷ []) refl $ fjoin ! $
    fpack ! (Valss (RawPtr ∷ [])) (within (shape output_struct.the_type) (block_ptr b o, tt) (out ∷ []))
    (vptr b o ∷ [], tt) $ fjoin ! $
    let written : Type 0 = (Some v.value ≡ Some v.value) × InBlock (block_ptr b o) in
    use0 𝓛 (raw (fact 𝓤 written)) (fact_i 𝓤 written (emp 𝓤) (refl, tt)) $ nothing ! $ nothing ! $ fjoin ! $
    keep ! (3 ∷ 0 ∷ 2 ∷ 1 ∷ []) $
    by ! (leaves 𝓛 En hs c z out (record { at = block_ptr b o; given = Some v.value }) (tt, tt) (tt, tt)))))
