-- The two words of a box that is taken apart: its pointer, and its allocator's handle.
use Rattle.box_pointer.proofs.Common.{List, [], refl, subst, ℕ, ◌++◌, ◌∷◌, ◌≡◌, Al, handle_tells, Good, Fml, fst∗}
use Rattle.box_pointer.proofs.Common.{never, RawPtr, layout, Laws, RattleType, Valss, Ptr, block_ptr, in_a_block}
use Rattle.box_pointer.proofs.Common.{null_ptr, ptr_val, nothing, dnil, impl, tnil, Val, WT, has_ty, of_list, vcons}
use Rattle.box_pointer.proofs.Common.{vnil, vptr, vstruct, Goal, Item, Seq, Step, drop, feq_i, feq_l, fjoin, fpack}
use Rattle.box_pointer.proofs.Common.{fpick, fsplit, move, step, ‵, ◌$◌, Logic, sem}
use mathlib.Core.Bool.{true, ◌&&◌}
use lib.Dec.{T}
use seplogic.Ra.Ura.{Ura}
use mir.Raw.{raw as bare}
use denote.Memory.{lone}
use denote.Struct.Struct.{within}
use denote.Struct.Owning.{shape}
use Rattle.std.specs.declared.alloc.Allocator.{Ghosts}
use Rattle.std.specs.Box.Ownership.{box_owns}
use Rattle.std.proofs.ResultValues.{and_tt}
use Rattle.box_pointer.specs.contracts.BoxPointer as parts

-- the words of a pointer into a block, and of a handle
abbrev pub words : ℕ → ℕ → Val → Val
words b o h = vstruct (vcons (vptr b o) (vcons h vnil))

module _ (R Z : RattleType) (L : Laws Z) (g : Ghosts Z.Denot) where
  abbrev pub Parts : RattleType
  Parts = parts.the_row R Z g

  abbrev pub heap : Al
  heap = record { row = Z; laws = L; g = g; d = impl [] tnil dnil; drops = impl [] tnil dnil }

  -- what lies in the box
  abbrev pub Boxed : Z.Denot → R.Denot → Ptr → Fml
  Boxed a x p = box_owns (g.dealloc_token a) R p x

  pub fit : (b o : ℕ) (h : Val) → Good (layout Z) h → T (has_ty (layout Z) h && true) × WT (words b o h)
  fit b o h good = (and_tt (has_ty (layout Z) h) good.0, (tt, (good.1, tt)))

  module _ {M : Type 1} {𝓤 : Ura M} {𝓛 : Logic 𝓤} {K : Type 0} {Γ : List (Item 𝓤)} {G : Goal 𝓤 𝓛.H} where
    -- whoever has the parts has the box's memory and the handle, and knows the words
    pub apart : K → (d : Parts.Denot) (vs : List Val)
        → ((b o : ℕ) (h : Val) → d.at ≡ block_ptr b o → vs ≡ words b o h ∷ [] → Good (layout Z) h
        → Seq K 𝓛 (‵ (Boxed d.alloc d.value (block_ptr b o)) ∷ ‵ (Z.own_val d.alloc (h ∷ [])) ∷ Γ) G)
        → Seq K 𝓛 (‵ (Parts.own_val d vs) ∷ Γ) G
    apart t d vs next =
        let HasWords = λ (ps hs : List Val). vs ≡ vstruct (of_list (ps ++ (hs ++ []))) ∷ [] in
        fsplit t $ fpick t (λ each. fsplit t $ feq_l t (λ all. fsplit t $ feq_l t (λ pointer. fsplit t $
        handle_tells heap t d.alloc each.1.0 (λ h handle good. move t (1 ∷ []) $ drop t $ move t (1 ∷ []) $
        in_a_block t d.at (Boxed d.alloc d.value)
        (fst∗ 𝓤 (never 𝓤) (sem 𝓛 (g.dealloc_token d.alloc (bare (lone R.mir)) null_ptr))) (λ b o at.
        let by_pointer = subst (λ (ps : List Val). HasWords ps each.1.0) pointer all in
        let by_handle = subst (λ (hs : List Val). HasWords (ptr_val d.at ∷ []) hs) handle by_pointer in
        next b o h at (subst (λ (p : Ptr). HasWords (ptr_val p ∷ []) (h ∷ [])) at by_handle) good)))))

    -- and whoever has these has the parts
    pub together : K → (b o : ℕ) (h : Val) (a : Z.Denot) (x : R.Denot)
        → Step K 𝓛 (‵ (Parts.own_val (record { at = block_ptr b o; alloc = a; value = x }) (words b o h ∷ [])) ∷ Γ) G
        (‵ (Boxed a x (block_ptr b o)) ∷ ‵ (Z.own_val a (h ∷ [])) ∷ Γ) G
    together t b o h a x = step (λ rest. let w : Val = words b o h in let p : List Val = vptr b o ∷ [] in
        nothing t $ move t (2 ∷ 0 ∷ []) $ fjoin t $ feq_i t (List Val) p p refl $ fjoin t $
        feq_i t (List Val) (w ∷ []) (w ∷ []) refl $ fjoin t $
        fpack t (Valss (RawPtr ∷ Z ∷ [])) (within (shape (parts.the_type R Z g)) (block_ptr b o, (a, tt)) (w ∷ []))
        (p, (h ∷ [], tt)) $
        fjoin t $ rest)
