-- The box that a handle owns, as its parts.
use Rattle.pigyelund_c.proofs.HandleWords.{List, [], lit<, refl, subst, sym, ◌++◌, ◌∷◌, ◌≡◌, after, Goes-blank}
use Rattle.pigyelund_c.proofs.HandleWords.{handle_tells, Some-of, none_of, leaves, proved_at, box_owns, None, Some}
use Rattle.pigyelund_c.proofs.HandleWords.{if_non_null, ftrue, SProp, emp, ent, id⊢, sep, Fun, fact, fact_i, tables}
use Rattle.pigyelund_c.proofs.HandleWords.{RattleType, owns, Ptr, Testable, block_ptr, null_ptr, ptr_val, tests_null}
use Rattle.pigyelund_c.proofs.HandleWords.{plain, types_at, nothing, alive, Stays, stay_dropped, walk_of, Val, of_list}
use Rattle.pigyelund_c.proofs.HandleWords.{vcons, vnil, vstruct, Memory, Routine, Calls, Loops, WpFn, Ura, alloc_all}
use Rattle.pigyelund_c.proofs.HandleWords.{env, free_all, get, get_in, look_at, pass_all, sets, at_ret, !, by, drop}
use Rattle.pigyelund_c.proofs.HandleWords.{feq_l, fjoin, fpick, fsplit, keep, move, qed, raw, split, use0, use1, ‵, ◌$◌}
use Rattle.pigyelund_c.proofs.HandleWords.{◌∵◌, ◌⊛◌, Logic, sem, live, agg, sub, whole, and_then, bin, branches, enter}
use Rattle.pigyelund_c.proofs.HandleWords.{exec, first, fld, lit, no_more, of_opd, returns, returns_within, skips, stop}
use Rattle.pigyelund_c.proofs.HandleWords.{fit, together, words, boxed_set, set_row}
use denote.Param.{layout}
use Rattle.std.specs.contracts.alloc.Global as heap
use Rattle.std.proofs.alloc.Global.TheLaws as heap_laws
use Rattle.std.specs.contracts.impls.GlobalAllocator.TheImpl.{ghosts}
use Rattle.box_pointer.specs.contracts.BoxPointer as pointer
use Rattle.box_pointer.proofs.BoxWords.{heap as words_heap}
use Rattle.std.proofs.cell.Inside.{Good}
use Rattle.std.proofs.ResultValues.{and_tt}
use Rattle.std.specs.contracts.option.Option as option
use Rattle.pigyelund_c.specs.contracts.set_handle.SetOwner as owner_struct
use Rattle.pigyelund_c.specs.contracts.set_handle.SetOwner.into_parts.{ended, clauses}
use Rattle.pigyelund_c.specs.contracts.set_handle.SetOwner.into_parts.Key.{name as #self}
use Rattle.pigyelund_c.proofs.set_handle.SetOwner.into_parts.Statement.{statement}
use Rattle.pigyelund_c.proofs.set_handle.SetOwner.into_parts.Code as code

abbrev Z : RattleType
Z = heap.the_row

abbrev P : RattleType
P = pointer.the_row set_row Z ghosts

abbrev stayed : Stays ended.signature.params ended.kept
stayed =
    (stay_dropped (plain (λ _. owner_struct.the_row)) ended.kept.0, (stay_dropped (plain (λ _. Z)) ended.kept.1.0, tt))

abbrev word : Ptr → Val
word p = vstruct (vcons (ptr_val p) vnil)

module _ {M : Type 1} {𝓤 : Ura M} (𝓛 : Logic 𝓤) (at_mem : Memory → SProp 𝓤) (run : Routine → Fun 𝓤) (C : Calls 𝓤 𝓛.H)
    (Λ : Loops 𝓤 𝓛.H)
    (z : (walk_of 𝓛 ended stayed (clauses 𝓛 at_mem run)).Ghost) where
  open 𝓛 use {H}

  abbrev Post : Val → SProp 𝓤
  Post = (walk_of 𝓛 ended stayed (clauses 𝓛 at_mem run)).post z

  abbrev Run : List Val → SProp 𝓤
  Run ws = WpFn 𝓤 H C Λ code.function ws Post

  abbrev toks : SProp 𝓤
  toks = alive 𝓛 ended.signature z.0.0 z.0.1

  abbrev d : owner_struct.the_row.Denot
  d = z.0.3.0

  abbrev a : Z.Denot
  a = z.0.3.1.0

  at : (s : Ptr) → d.at ≡ s → (h : Val) → Good (layout Z) h → Testable s
      → ent 𝓤 (sep 𝓤 (sem 𝓛 (if_non_null s (boxed_set s d.set))) (sep 𝓤 (sem 𝓛 (Z.own_val a (h ∷ []))) toks))
      (Run (word s ∷ h ∷ []))
  at null_ptr e h fits may =
      qed 𝓛 (‵ ftrue ∷ ‵ (Z.own_val a (h ∷ [])) ∷ raw toks ∷ []) ∵ keep ! (2 ∷ []) $
      enter ! C Λ code.function (word null_ptr ∷ h ∷ []) _ $
      alloc_all ! (λ l. pass_all ! refl ((tt, (record { fits = lit< tt }, tt)), (fits, tt)) $
      sets ! (of_opd ! (get_in ! (fld ! refl (stop !)) (sub ! 0 refl (whole !)))) refl (tt, record { fits = lit< tt }) $
      sets ! (of_opd ! (get ! refl)) refl (tt, record { fits = lit< tt }) $
      sets ! (bin ! (get ! refl) (lit ! tt) (tests_null null_ptr may)) refl (tt, tt) $
      first ! $ branches ! (get ! refl)
      (λ t. sets ! (agg ! (and_then ! (lit ! tt) (no_more !))) refl (tt, (record { fits = lit< tt }, tt)) $
      returns_within ! Post refl (look_at ! 0 refl) $ free_all ! refl $
      use0 𝓛 (‵ ((option.the_row P).own_val None (live 0 (of_list []) ∷ []))) (none_of 𝓛 P) $
      use0 𝓛 (raw (fact 𝓤 (d.at ≡ null_ptr))) (fact_i 𝓤 (d.at ≡ null_ptr) (emp 𝓤) e) $ nothing ! $ nothing ! $ fjoin ! $
      nothing ! $ fjoin ! $
      keep ! (3 ∷ 0 ∷ 2 ∷ 1 ∷ []) $
      by !
      (leaves 𝓛 ended stayed (clauses 𝓛 at_mem run) z (live 0 (of_list [])) None (tt, (tt, tt)) (tt, (tt, tt))))
      (λ t. absurd t))
  at (block_ptr b o) e h fits may =
      qed 𝓛 (‵ (boxed_set (block_ptr b o) d.set) ∷ ‵ (Z.own_val a (h ∷ [])) ∷ raw toks ∷ []) ∵
      enter ! C Λ code.function (word (block_ptr b o) ∷ h ∷ []) _ $
      alloc_all ! (λ l. pass_all ! refl ((tt, (tt, tt)), (fits, tt)) $
      let Ev =
      env (code.function).locals l in let good = fit set_row Z heap_laws.the_row_laws ghosts b o h fits in let w :
      Val = words b o h in
      let made : P.Denot = record { at = block_ptr b o; alloc = a; value = d.set } in
      sets ! (of_opd ! (get_in ! (fld ! refl (stop !)) (sub ! 0 refl (whole !)))) refl (tt, tt) $
      sets ! (of_opd ! (get ! refl)) refl (tt, tt) $
      sets ! (bin ! (get ! refl) (lit ! tt) (tests_null (block_ptr b o) may)) refl (tt, tt) $
      first ! $ branches ! (get ! refl) (λ t. absurd t)
      (λ t. skips ! $ exec ! C Λ Ev (after 4 (code.function).body) (at_ret Ev Post) $
      sets ! (agg ! (and_then ! (get ! refl) (and_then ! (get ! refl) (no_more !)))) refl good $
      sets ! (agg ! (and_then ! (lit ! tt) (and_then ! (get ! refl) (no_more !)))) refl
      (and_tt _ good.0, (record { fits = lit< tt }, (good.1, tt))) $
      returns ! (look_at ! 0 refl) $ free_all ! refl $ fpick ! (λ heap'.
      use1 𝓛 (‵ (box_owns (ghosts.dealloc_token a) set_row (block_ptr b o) d.set)) (id⊢ 𝓤 _) $
      together set_row Z heap_laws.the_row_laws ghosts ! b o h a d.set $
      use1 𝓛 (‵ ((option.the_row P).own_val (Some made) (live 1 (of_list (w ∷ [])) ∷ []))) (Some-of 𝓛 P made w) $
      use0 𝓛 (raw (fact 𝓤 (d.set ≡ d.set))) (fact_i 𝓤 (d.set ≡ d.set) (emp 𝓤) refl) $ nothing ! $ nothing ! $
      fjoin ! $ nothing ! $ fjoin ! $
      keep ! (3 ∷ 0 ∷ 2 ∷ 1 ∷ []) $
      by ! (leaves 𝓛 ended stayed (clauses 𝓛 at_mem run) z (live 1 (of_list (w ∷ []))) (Some made) (tt, (tt, tt))
      (tt, (tt, tt))))))

pub into_parts_spec : {M : Type 1} → statement M
into_parts_spec 𝓤 𝓛 𝓜 𝓡 wired =
    let H = 𝓛.H in let 𝓣 = tables 𝓤 H 𝓜 𝓡 𝓡.env in let LZ = heap_laws.the_row_laws in
    proved_at 𝓛 ended stayed (clauses 𝓛 𝓜.mem 𝓡.returns) 𝓜 𝓡 (
      Goes-blank 𝓛 0 (plain (λ _. owner_struct.the_row)) ended.kept.0 (λ κs x f. tt),
      (Goes-blank 𝓛 0 (plain (λ _. Z)) ended.kept.1.0 (λ κs x f. tt), tt),
    )
    #self code.function (code.unfolded 𝓤 H 𝓜 𝓡 wired) (λ z are.
    let d : owner_struct.the_row.Denot =
    z.0.3.0 in let a : Z.Denot = z.0.3.1.0 in let On : SProp 𝓤 = alive 𝓛 ended.signature z.0.0 z.0.1 in
    let Run' : List Val → SProp 𝓤 =
    λ ws. WpFn 𝓤 H 𝓣.C 𝓣.Λ code.function ws ((walk_of 𝓛 ended stayed (clauses 𝓛 𝓜.mem 𝓡.returns)).post z) in
    qed 𝓛 ((raw On ⊛ ‵ (owns (types_at ended.signature.params z.0.0) z.0.3 z.0.4)) ∷ ‵ ftrue ∷ []) ∵ move ! (1 ∷ []) $
    drop ! $ split ! $ move ! (1 ∷ []) $
    fsplit ! $ fsplit ! $
    fpick ! (λ vss. fsplit ! $ feq_l ! (λ ev. fsplit ! $ feq_l ! (λ ep. drop ! $ fsplit ! $ fpick ! (λ may. drop ! $
    -- [what lies there, if anything; the allocator; the tokens]
    move ! (1 ∷ []) $ fsplit ! $
    handle_tells (words_heap set_row Z LZ ghosts) ! a z.0.4.1.0 (λ h ea fits. keep ! (2 ∷ 0 ∷ 3 ∷ []) $
    let is : z.0.4.0 ≡ word d.at ∷ [] = subst (λ (ps : List Val). z.0.4.0 ≡ vstruct (of_list (ps ++ [])) ∷ []) ep ev in
    by ! (subst
    (λ (us : List Val). ent 𝓤
    (sep 𝓤 (sem 𝓛 (if_non_null d.at (boxed_set d.at d.set))) (sep 𝓤 (sem 𝓛 (Z.own_val a (h ∷ []))) On))
    (Run' us)) (sym (λ i. is i ++ (ea i ++ [])))
    (at 𝓛 𝓜.mem 𝓡.returns 𝓣.C 𝓣.Λ z d.at refl h fits may))))))))
