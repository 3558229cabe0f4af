-- The set that a handle lends.
use Rattle.pigyelund_c.proofs.HandleWords.{List, [], lit<, refl, subst, sym, ◌++◌, ◌∷◌, ◌≡◌, after, Goes-blank, Some-of}
use Rattle.pigyelund_c.proofs.HandleWords.{none_of, leaves, proved_at, None, Some, if_non_null, Lft, ftrue, SProp, emp}
use Rattle.pigyelund_c.proofs.HandleWords.{ent, sep, Fun, fact, fact_i, tables, RattleType, owns, InBlock, Ptr}
use Rattle.pigyelund_c.proofs.HandleWords.{Testable, block_ptr, null_ptr, ptr_val, tests_null, plain, types_at, nothing}
use Rattle.pigyelund_c.proofs.HandleWords.{alive, Stays, stay_dropped, walk_of, Val, of_list, vcons, vnil, vptr}
use Rattle.pigyelund_c.proofs.HandleWords.{vstruct, Memory, Routine, Calls, Loops, WpFn, Ura, alloc_all, env, free_all}
use Rattle.pigyelund_c.proofs.HandleWords.{get, get_in, look_at, pass_all, sets, sets_last, through, at_ret, !, by}
use Rattle.pigyelund_c.proofs.HandleWords.{drop, feq_i, feq_l, fjoin, fpick, fsplit, keep, move, qed, raw, split, use0}
use Rattle.pigyelund_c.proofs.HandleWords.{use1, ‵, ◌$◌, ◌∵◌, ◌⊛◌, Logic, sem, live, agg, sub, whole, addr, and_then}
use Rattle.pigyelund_c.proofs.HandleWords.{bin, blocks, branches, enter, exec, first, fld, lit, no_more, of_opd}
use Rattle.pigyelund_c.proofs.HandleWords.{returns, returns_within, skips, stop, set_row}
use denote.Ref.{ShrRef}
use Rattle.std.specs.contracts.alloc.Global as heap
use Rattle.std.proofs.alloc.Global.TheLaws as heap_laws
use Rattle.std.specs.contracts.impls.GlobalAllocator.TheImpl.{ghosts}
use contract.BorrowLft.{⊑_static}
use denote.Memory.{shared_of}
use denote.Opens.{hide}
use denote.SharingLaws.{shortens}
use denote.Struct.Lending.{lent_at}
use mir.Syntax.{named}
use Rattle.std.specs.contracts.option.Option as option
use Rattle.rpki_resources.proofs.set.ResourceSet.TheLaws as set_laws
use Rattle.pigyelund_c.specs.contracts.set_handle.SetRef as ref_struct
use Rattle.pigyelund_c.specs.contracts.set_handle.SetRef.set.{ended, clauses}
use Rattle.pigyelund_c.specs.contracts.set_handle.SetRef.set.Key.{name as #self}
use Rattle.pigyelund_c.proofs.set_handle.SetRef.set.Statement.{statement}
use Rattle.pigyelund_c.proofs.set_handle.SetRef.set.Code as code

abbrev stayed : Stays ended.signature.params ended.kept
stayed = (stay_dropped (plain (λ _. ref_struct.the_row)) ended.kept.0, tt)

abbrev word : Ptr → Val
word p = vstruct (vcons (ptr_val p) vnil)

module _ {M : Type 1} {𝓤 : Ura M} (𝓛 : Logic 𝓤) (at_mem : Memory → SProp 𝓤) (run : Routine → Fun 𝓤) (C : Calls 𝓤 𝓛.H)
    (Λ : Loops 𝓤 𝓛.H)
    (z : (walk_of 𝓛 ended stayed (clauses 𝓛 at_mem run)).Ghost) where
  open 𝓛 use {H}

  abbrev Post : Val → SProp 𝓤
  Post = (walk_of 𝓛 ended stayed (clauses 𝓛 at_mem run)).post z

  abbrev Run : List Val → SProp 𝓤
  Run ws = WpFn 𝓤 H C Λ code.function ws Post

  abbrev toks : SProp 𝓤
  toks = alive 𝓛 ended.signature z.0.0 z.0.1

  abbrev d : ref_struct.the_row.Denot
  d = z.0.3.0

  abbrev κ : Lft
  κ = z.0.0.0

  abbrev Ref : RattleType
  Ref = ShrRef (named 0) κ set_row

  at : (s : Ptr) → d.at ≡ s → Testable s
      → ent 𝓤 (sep 𝓤 (sem 𝓛 (if_non_null s (lent_at set_row s d.set []))) toks) (Run (word s ∷ []))
  at null_ptr e may =
      qed 𝓛 (‵ ftrue ∷ raw toks ∷ []) ∵ drop ! $
      enter ! C Λ code.function (word null_ptr ∷ []) _ $
      alloc_all ! (λ l. pass_all ! refl ((tt, (record { fits = lit< tt }, tt)), tt) $
      sets ! (of_opd ! (get_in ! (fld ! refl (stop !)) (sub ! 0 refl (whole !)))) refl (tt, record { fits = lit< tt }) $
      sets ! (of_opd ! (get ! refl)) refl (tt, record { fits = lit< tt }) $
      sets ! (bin ! (get ! refl) (lit ! tt) (tests_null null_ptr may)) refl (tt, tt) $
      first ! $ branches ! (get ! refl)
      (λ t. sets ! (agg ! (and_then ! (lit ! tt) (no_more !))) refl (tt, (record { fits = lit< tt }, tt)) $
      returns_within ! Post refl (look_at ! 0 refl) $ free_all ! refl $
      use0 𝓛 (‵ ((option.the_row Ref).own_val None (live 0 (of_list []) ∷ []))) (none_of 𝓛 Ref) $
      use0 𝓛 (raw (fact 𝓤 (d.at ≡ null_ptr))) (fact_i 𝓤 (d.at ≡ null_ptr) (emp 𝓤) e) $ nothing ! $ nothing ! $ fjoin ! $
      keep ! (3 ∷ 0 ∷ 2 ∷ 1 ∷ []) $
      by ! (leaves 𝓛 ended stayed (clauses 𝓛 at_mem run) z (live 0 (of_list [])) None (tt, tt) (tt, tt)))
      (λ t. absurd t))
  at (block_ptr b o) e may =
      qed 𝓛 (‵ (lent_at set_row (block_ptr b o) d.set []) ∷ raw toks ∷ []) ∵
      enter ! C Λ code.function (word (block_ptr b o) ∷ []) _ $ alloc_all ! (λ l. pass_all ! refl ((tt, (tt, tt)), tt) $
      fsplit ! $ drop ! $
      use1 𝓛 (‵ (shared_of set_row d.set b o κ))
      (shortens 𝓛 (shared_of set_row d.set b o)
      ((set_laws.the_row_laws heap.the_row ghosts heap_laws.the_row_laws).shr_laws d.set b o) [] κ
      (⊑_static κ)) $ hide ! $
      feq_i ! (List Val) (vptr b o ∷ []) (vptr b o ∷ []) refl $ fjoin ! $
      let r : Ref.Denot = record { ref_ptr = (b, o); now = d.set } in
      use1 𝓛 (‵ ((option.the_row Ref).own_val (Some r) (live 1 (of_list (vptr b o ∷ [])) ∷ [])))
      (Some-of 𝓛 Ref r (vptr b o)) $
      let Ev = env (code.function).locals l in
      sets ! (of_opd ! (get_in ! (fld ! refl (stop !)) (sub ! 0 refl (whole !)))) refl (tt, tt) $
      sets ! (of_opd ! (get ! refl)) refl (tt, tt) $
      sets ! (bin ! (get ! refl) (lit ! tt) (tests_null (block_ptr b o) may)) refl (tt, tt) $
      first ! $ branches ! (get ! refl) (λ t. absurd t)
      (λ t. skips ! $ exec ! C Λ Ev (after 4 (code.function).body) (at_ret Ev Post) $
      first ! $ blocks ! $ sets ! (addr ! (through ! refl (stop !))) refl (tt, tt) $
      sets_last ! (agg ! (and_then ! (lit ! tt) (and_then ! (get ! refl) (no_more !)))) refl
      (tt, (record { fits = lit< tt }, (tt, tt))) $
      exec ! C Λ Ev (after 5 (code.function).body) (at_ret Ev Post) $
      sets ! (of_opd ! (get ! refl)) refl (tt, (record { fits = lit< tt }, (tt, tt))) $
      returns ! (look_at ! 0 refl) $ free_all ! refl $
      use0 𝓛 (raw (fact 𝓤 ((d.set ≡ d.set) × InBlock d.at)))
      (fact_i 𝓤 ((d.set ≡ d.set) × InBlock d.at) (emp 𝓤) (refl, subst InBlock (sym e) tt)) $ nothing ! $
      nothing ! $ fjoin ! $
      keep ! (3 ∷ 0 ∷ 2 ∷ 1 ∷ []) $
      by ! (leaves 𝓛 ended stayed (clauses 𝓛 at_mem run) z (live 1 (of_list (vptr b o ∷ []))) (Some r) (tt, tt)
      (tt, tt))))

pub set_spec : {M : Type 1} → statement M
set_spec 𝓤 𝓛 𝓜 𝓡 wired =
    let H = 𝓛.H in let 𝓣 = tables 𝓤 H 𝓜 𝓡 𝓡.env in
    proved_at 𝓛 ended stayed (clauses 𝓛 𝓜.mem 𝓡.returns) 𝓜 𝓡
    (Goes-blank 𝓛 1 (plain (λ _. ref_struct.the_row)) ended.kept.0 (λ κs x f. tt), tt)
    #self code.function (code.unfolded 𝓤 H 𝓜 𝓡 wired) (λ z are.
    let d : ref_struct.the_row.Denot = z.0.3.0 in let On : SProp 𝓤 = alive 𝓛 ended.signature z.0.0 z.0.1 in
    let Run' : List Val → SProp 𝓤 =
    λ ws. WpFn 𝓤 H 𝓣.C 𝓣.Λ code.function ws ((walk_of 𝓛 ended stayed (clauses 𝓛 𝓜.mem 𝓡.returns)).post z) in
    qed 𝓛 ((raw On ⊛ ‵ (owns (types_at ended.signature.params z.0.0) z.0.3 z.0.4)) ∷ ‵ ftrue ∷ []) ∵ move ! (1 ∷ []) $
    drop ! $ split ! $ move ! (1 ∷ []) $
    fsplit ! $ fsplit ! $
    fpick ! (λ vss. fsplit ! $
    feq_l !
    (λ ev. fsplit ! $ feq_l ! (λ ep. drop ! $ fsplit ! $ fpick ! (λ may. drop ! $ keep ! (0 ∷ 2 ∷ []) $
    let is : z.0.4.0 ≡ word d.at ∷ [] = subst (λ (ps : List Val). z.0.4.0 ≡ vstruct (of_list (ps ++ [])) ∷ []) ep ev in
    by ! (subst
    (λ (us : List Val). ent 𝓤 (sep 𝓤 (sem 𝓛 (if_non_null d.at (lent_at set_row d.at d.set []))) On)
    (Run' us)) (sym (λ i. is i ++ []))
    (at 𝓛 𝓜.mem 𝓡.returns 𝓣.C 𝓣.Λ z d.at refl may)))))))
