-- The table that a borrowed handle lends.
use Rattle.pigyelund_routes.proofs.Common.{List, [], ap, lit<, refl, subst, sym, ◌∙◌, ◌++◌, ◌∷◌, ◌≡◌, after}
use Rattle.pigyelund_routes.proofs.Common.{Some-of, ℕ, id⊢, none_of, leaves, proved_at, None, Some, if_non_null, Lft}
use Rattle.pigyelund_routes.proofs.Common.{ftrue, SProp, emp, ent, sep, Fun, fact, fact_i, tables, RattleType}
use Rattle.pigyelund_routes.proofs.Common.{owns, InBlock, Ptr, Testable, block_ptr, null_ptr, ptr_val, tests_null}
use Rattle.pigyelund_routes.proofs.Common.{plain, types_at, nothing, alive, Stays, stay_dropped, walk_of, Val}
use Rattle.pigyelund_routes.proofs.Common.{of_list, vcons, vnil, vptr, vstruct, Memory, Routine, Calls, Loops, WpFn}
use Rattle.pigyelund_routes.proofs.Common.{Ura, alloc_all, env, free_all, get, look_at, pass_all, sets}
use Rattle.pigyelund_routes.proofs.Common.{sets_last, through, at_ret, !, by, drop, feq_i, feq_l, fjoin, fpick}
use Rattle.pigyelund_routes.proofs.Common.{fsplit, keep, move, qed, raw, split, use0, use1, ‵, ◌$◌, ◌∵◌, ◌⊛◌, Logic}
use Rattle.pigyelund_routes.proofs.Common.{sem, live, agg, sub, whole, addr, and_then, bin, blocks, branches, enter}
use Rattle.pigyelund_routes.proofs.Common.{exec, first, fld, lit, no_more, of_opd, returns, returns_within, skips}
use Rattle.pigyelund_routes.proofs.Common.{stop}
use contract.BorrowLft.{⊑_static}
use denote.Copied.{told_Cuts}
use denote.Laws.{Copy}
use denote.Memory.{cell_at, hidden_shr, part_at}
use denote.Opens.{Cuts-Halves, Opened-one, Opens, Shut, Twice-of, hide}
use types.Kit.{Goal, Item, Seq, Soaks, rewrite, join}
use denote.Ref.{ShrRef}
use denote.Sharing.{ShrLaws, beside, one, said}
use denote.SharingLaws.{beside_shr_laws, contraction, nothing_shr_laws, one_shr_laws, said_shr_laws, shortens}
use denote.Steps.{looks, shuts}
use denote.Struct.Lending.{lent_at, lent_at_shr_laws}
use base.Fml.{Fml, Share, flft, fsep}
use denote.Struct.Owning.{shape}
use denote.Struct.Struct.{Struct}
use mir.Syntax.{named}
use types.Part.{look_in}
use Rattle.std.specs.contracts.option.Option as option
use Rattle.pigyelund_routes.specs.Handles.{table_row, testable}
use Rattle.pigyelund_routes.proofs.table_handle.TableRef.TheLaws.{lowers}
use Rattle.pigyelund_routes.specs.contracts.table_handle.TableRef as ref_struct
use Rattle.pigyelund_routes.specs.contracts.table_handle.TableRef.lent.{ended, clauses}
use Rattle.pigyelund_routes.specs.contracts.table_handle.TableRef.lent.Key.{name as #self}
use Rattle.pigyelund_routes.proofs.table_handle.TableRef.lent.Statement.{statement}
use Rattle.pigyelund_routes.proofs.table_handle.TableRef.lent.Code as code
use Rattle.std.specs.contracts.alloc.Global as heap
use Rattle.std.proofs.alloc.Global.TheLaws as heap_laws
use Rattle.std.specs.contracts.impls.GlobalAllocator.TheImpl.{ghosts}
use Rattle.roa_origin.proofs.table.OriginTable.TheLaws as table_laws
use Rattle.roa_origin.specs.Vrps.{Vrp}
use denote.Builtin.{RefOf}
use types.Run.{load}
use denote.Triple.Walked.{Goes-dropped}

abbrev Handle : RattleType
Handle = ref_struct.the_row

abbrev stayed : Stays ended.signature.params ended.kept
stayed = (stay_dropped (RefOf (0 ∷ []) tt (plain (λ _. Handle)) (λ _. tt)) ended.kept.0, tt)

abbrev word : Ptr → Val
word p = vstruct (vcons (ptr_val p) vnil)

-- what a handle lends for a lifetime: null, or a borrowed table
abbrev lent_for : Ptr → List Vrp → Lft → Fml
lent_for p x κ = fsep (testable p) (if_non_null p (lent_at table_row p x κ))

lent_laws : (p : Ptr) (x : List Vrp) → ShrLaws (lent_for p x)
lent_laws null_ptr x =
    beside_shr_laws (said (testable null_ptr)) (said ftrue) (said_shr_laws (testable null_ptr) (λ _. tt))
    nothing_shr_laws
lent_laws (block_ptr b o) x =
    beside_shr_laws (said (testable (block_ptr b o))) (lent_at table_row (block_ptr b o) x)
    (said_shr_laws (testable (block_ptr b o)) (λ _. tt)) (lent_at_shr_laws table_row
    (table_laws.the_row_laws heap.the_row ghosts heap_laws.the_row_laws).shr_laws (block_ptr b o) x)

-- the pointer of a handle, as a field
abbrev field_of : Handle.Denot → List Val → Fml
field_of d vs = (Struct (shape ref_struct.the_type)).own_val (d.at, tt) vs

handle_copy : {M : Type 1} {𝓤 : Ura M} (𝓛 : Logic 𝓤) → Copy 𝓛 Handle
handle_copy 𝓛 = record {
  twice = λ d vs. contraction 𝓛 (beside (said (field_of d vs)) (lent_for d.at d.vrps))
      (beside_shr_laws (said (field_of d vs)) (lent_for d.at d.vrps)
      (said_shr_laws (field_of d vs) (λ vss. (tt, (tt, tt)))) (lent_laws d.at d.vrps)) [];
}

handle_opens : {M : Type 1} {𝓤 : Ura M} (𝓛 : Logic 𝓤) → Opens 𝓛 Handle
handle_opens 𝓛 d b o = (
  Opened-one 𝓛 (λ q. part_at Handle q d b o) (Cuts-Halves 𝓛 (λ q. part_at Handle q d b o)
      (told_Cuts 𝓛 Handle (λ h. word h.at ∷ []) (λ h us is. lowers.val_is h us is) (handle_copy 𝓛) d b o)),
  Twice-of 𝓛 (one (λ q. part_at Handle q d b o)) (one_shr_laws (λ q. part_at Handle q d b o)),
)

-- A `&` to a handle is opened: its cell, what it owns, the way back, and what it lends.
opened : {M : Type 1} {𝓤 : Ura M} {𝓛 : Logic 𝓤} {K : Type 0} {Γ : List (Item 𝓤)} {G : Goal 𝓤 𝓛.H} → K → Soaks G
    → {κ : Lft} {q : Share} (d : Handle.Denot) (b o : ℕ) (s : Ptr) → d.at ≡ s
    → ((part : Share) → Testable s → Seq K 𝓛 (‵ (cell_at part Handle.mir (word s ∷ []) b o)
    ∷ ‵ (Handle.own_val d (word s ∷ [])) ∷ Shut 𝓛 κ q (part_at Handle part d b o)
    ∷ ‵ (if_non_null s (lent_at table_row s d.vrps κ)) ∷ Γ) G)
    → Seq K 𝓛 (‵ (hidden_shr Handle κ d b o) ∷ ‵ (flft κ q) ∷ Γ) G
opened {𝓤 = 𝓤} {𝓛 = 𝓛} t z {κ} {q} d b o s e k =
    looks t z Handle (handle_opens 𝓛) d b o (λ part vs. move t (3 ∷ []) $ drop t $ move t (1 ∷ []) $
    use1 𝓛 (‵ (Handle.own_val d vs) ⊛ ‵ (Handle.own_val d vs)) ((handle_copy 𝓛).twice d vs) $ split t $
    fsplit t $ fpick t (λ vss. fsplit t $ feq_l t (λ ev. fsplit t $ feq_l t (λ ep. drop t $
    use1 𝓛 (‵ (lent_for d.at d.vrps κ))
    (shortens 𝓛 (lent_for d.at d.vrps) (lent_laws d.at d.vrps) [] κ (⊑_static κ)) $
    rewrite t 0 (λ (p : Ptr). ‵ (lent_for p d.vrps κ)) e refl $
    fsplit t $ fpick t (λ may. drop t $
    let is : vs ≡ word s ∷ [] =
    subst (λ (ps : List Val). vs ≡ vstruct (of_list (ps ++ [])) ∷ []) ep ev ∙ ap (λ (p : Ptr). word p ∷ []) e in
    rewrite t 1 (λ (us : List Val). ‵ (Handle.own_val d us)) is refl $
    rewrite t 2 (λ (us : List Val). ‵ (cell_at part Handle.mir us b o)) is refl $
    move t (2 ∷ 1 ∷ 3 ∷ 0 ∷ []) $ k part may)))))

module _ {M : Type 1} {𝓤 : Ura M} (𝓛 : Logic 𝓤) (at_mem : Memory → SProp 𝓤) (run : Routine → Fun 𝓤) (C : Calls 𝓤 𝓛.H)
    (Λ : Loops 𝓤 𝓛.H)
    (z : (walk_of 𝓛 ended stayed (clauses 𝓛 at_mem run)).Ghost) where
  open 𝓛 use {H}

  abbrev Post : Val → SProp 𝓤
  Post = (walk_of 𝓛 ended stayed (clauses 𝓛 at_mem run)).post z

  abbrev Run : List Val → SProp 𝓤
  Run ws = WpFn 𝓤 H C Λ code.function ws Post

  abbrev d : Handle.Denot
  d = z.0.3.0.now

  abbrev rb : ℕ
  rb = z.0.3.0.ref_ptr.0

  abbrev ro : ℕ
  ro = z.0.3.0.ref_ptr.1

  abbrev κ : Lft
  κ = z.0.0.0

  abbrev q : Share
  q = z.0.1.0

  abbrev Ref : RattleType
  Ref = ShrRef (named 0) κ table_row

  at : (s : Ptr) → d.at ≡ s
      → ent 𝓤 (sep 𝓤 (sem 𝓛 (hidden_shr Handle κ d rb ro)) (sem 𝓛 (flft κ q))) (Run (vptr rb ro ∷ []))
  at null_ptr e =
      qed 𝓛 (‵ (hidden_shr Handle κ d rb ro) ∷ ‵ (flft κ q) ∷ []) ∵
      enter ! C Λ code.function (vptr rb ro ∷ []) _ $
      alloc_all ! (λ l. pass_all ! refl ((tt, tt), tt) $
      opened ! tt d rb ro null_ptr e (λ part may.
      sets ! (of_opd ! (load ! (through ! refl (fld ! refl (stop !))) (look_in ! 0 (sub ! 0 refl (whole !))))) refl
      (tt, record { fits = lit< tt }) $
      sets ! (of_opd ! (get ! refl)) refl (tt, record { fits = lit< tt }) $
      sets ! (bin ! (get ! refl) (lit ! tt) (tests_null null_ptr may)) refl (tt, tt) $
      shuts ! tt Handle part d (word null_ptr ∷ []) rb ro $ nothing ! $ move ! (1 ∷ 0 ∷ []) $ join ! $
      first ! $ branches ! (get ! refl)
      (λ t. sets ! (agg ! (and_then ! (lit ! tt) (no_more !))) refl (tt, (record { fits = lit< tt }, tt)) $
      returns_within ! Post refl (look_at ! 0 refl) $ free_all ! refl $
      use0 𝓛 (‵ ((option.the_row Ref).own_val None (live 0 (of_list []) ∷ []))) (none_of 𝓛 Ref) $
      use0 𝓛 (raw (fact 𝓤 (d.at ≡ null_ptr))) (fact_i 𝓤 (d.at ≡ null_ptr) (emp 𝓤) e) $ nothing ! $ nothing ! $ fjoin ! $
      keep ! (3 ∷ 0 ∷ 2 ∷ 1 ∷ []) $
      by ! (leaves 𝓛 ended stayed (clauses 𝓛 at_mem run) z (live 0 (of_list [])) None (tt, tt) (tt, tt)))
      (λ t. absurd t)))
  at (block_ptr b o) e =
      qed 𝓛 (‵ (hidden_shr Handle κ d rb ro) ∷ ‵ (flft κ q) ∷ []) ∵
      enter ! C Λ code.function (vptr rb ro ∷ []) _ $ alloc_all ! (λ l. pass_all ! refl ((tt, tt), tt) $
      opened ! tt d rb ro (block_ptr b o) e (λ part may.
      sets ! (of_opd ! (load ! (through ! refl (fld ! refl (stop !))) (look_in ! 0 (sub ! 0 refl (whole !))))) refl
      (tt, tt) $
      sets ! (of_opd ! (get ! refl)) refl (tt, tt) $
      sets ! (bin ! (get ! refl) (lit ! tt) (tests_null (block_ptr b o) may)) refl (tt, tt) $
      shuts ! tt Handle part d (word (block_ptr b o) ∷ []) rb ro $ nothing ! $ move ! (1 ∷ 0 ∷ []) $ join ! $
      move ! (1 ∷ []) $ fsplit ! $ drop ! $ hide ! $
      feq_i ! (List Val) (vptr b o ∷ []) (vptr b o ∷ []) refl $ fjoin ! $
      let r : Ref.Denot = record { ref_ptr = (b, o); now = d.vrps } in
      use1 𝓛 (‵ ((option.the_row Ref).own_val (Some r) (live 1 (of_list (vptr b o ∷ [])) ∷ [])))
      (Some-of 𝓛 Ref r (vptr b o)) $
      let Ev = env (code.function).locals l in
      first ! $ branches ! (get ! refl) (λ t. absurd t)
      (λ t. skips ! $ exec ! C Λ Ev (after 4 (code.function).body) (at_ret Ev Post) $
      first ! $ blocks ! $ sets ! (addr ! (through ! refl (stop !))) refl (tt, tt) $
      sets_last ! (agg ! (and_then ! (lit ! tt) (and_then ! (get ! refl) (no_more !)))) refl
      (tt, (record { fits = lit< tt }, (tt, tt))) $
      exec ! C Λ Ev (after 5 (code.function).body) (at_ret Ev Post) $
      sets ! (of_opd ! (get ! refl)) refl (tt, (record { fits = lit< tt }, (tt, tt))) $
      returns ! (look_at ! 0 refl) $ free_all ! refl $
      use0 𝓛 (raw (fact 𝓤 ((d.vrps ≡ d.vrps) × InBlock d.at)))
      (fact_i 𝓤 ((d.vrps ≡ d.vrps) × InBlock d.at) (emp 𝓤) (refl, subst InBlock (sym e) tt)) $ nothing ! $
      nothing ! $ fjoin ! $
      keep ! (3 ∷ 0 ∷ 2 ∷ 1 ∷ []) $
      by ! (leaves 𝓛 ended stayed (clauses 𝓛 at_mem run) z (live 1 (of_list (vptr b o ∷ []))) (Some r) (tt, tt)
      (tt, tt)))))

pub lent_spec : {M : Type 1} → statement M
lent_spec 𝓤 𝓛 𝓜 𝓡 wired =
    let H = 𝓛.H in let 𝓣 = tables 𝓤 H 𝓜 𝓡 𝓡.env in
    proved_at 𝓛 ended stayed (clauses 𝓛 𝓜.mem 𝓡.returns) 𝓜 𝓡
    (Goes-dropped 𝓛 1 (RefOf (0 ∷ []) tt (plain (λ _. Handle)) (λ _. tt)) ended.kept.0 (λ κs x f. refl), tt)
    #self code.function (code.unfolded 𝓤 H 𝓜 𝓡 wired) (λ z are.
    let d : Handle.Denot = z.0.3.0.now in let κ = z.0.0.0 in let q = z.0.1.0 in
    let rb = z.0.3.0.ref_ptr.0 in let ro = z.0.3.0.ref_ptr.1 in
    let Run' : List Val → SProp 𝓤 =
    λ ws. WpFn 𝓤 H 𝓣.C 𝓣.Λ code.function ws ((walk_of 𝓛 ended stayed (clauses 𝓛 𝓜.mem 𝓡.returns)).post z) in
    qed 𝓛
    ((raw (alive 𝓛 ended.signature z.0.0 z.0.1) ⊛ ‵ (owns (types_at ended.signature.params z.0.0) z.0.3 z.0.4))
    ∷ ‵ ftrue ∷ []) ∵
    move ! (1 ∷ []) $ drop ! $ split ! $
    use1 𝓛 (‵ (flft κ q) ⊛ ‵ ftrue) (id⊢ 𝓤 _) $ split ! $ move ! (2 ∷ []) $
    fsplit ! $ fsplit ! $ feq_l ! (λ e0. keep ! (0 ∷ 2 ∷ []) $
    by ! (subst
    (λ (us : List Val). ent 𝓤 (sep 𝓤 (sem 𝓛 (hidden_shr Handle κ d rb ro)) (sem 𝓛 (flft κ q))) (Run' us))
    (sym (λ i. e0 i ++ [])) (at 𝓛 𝓜.mem 𝓡.returns 𝓣.C 𝓣.Λ z d.at refl))))
