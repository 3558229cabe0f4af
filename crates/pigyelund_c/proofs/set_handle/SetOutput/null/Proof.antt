-- An output without a set.
use Rattle.pigyelund_c.proofs.HandleWords.{List, [], lit<, refl, ◌∷◌, ◌≡◌, leaves, proved_at, None, ftrue, SProp, emp}
use Rattle.pigyelund_c.proofs.HandleWords.{fact, fact_i, tables, RawPtr, Valss, owns, null_ptr, types_at, nothing}
use Rattle.pigyelund_c.proofs.HandleWords.{shape, within, alive, Stays, walk_of, Val, vcons, vnil, vnull, vstruct}
use Rattle.pigyelund_c.proofs.HandleWords.{alloc_all, free_all, look_at, pass_all, sets, !, by, drop, feq_i, fjoin}
use Rattle.pigyelund_c.proofs.HandleWords.{fpack, keep, move, qed, raw, split, use0, ‵, ◌$◌, ◌∵◌, ◌⊛◌, agg, and_then}
use Rattle.pigyelund_c.proofs.HandleWords.{enter, lit, no_more, returns}
use Rattle.pigyelund_c.specs.contracts.set_handle.SetOutput as output_struct
use Rattle.pigyelund_c.specs.contracts.set_handle.SetOutput.null.{ended, clauses}
use Rattle.pigyelund_c.specs.contracts.set_handle.SetOutput.null.Key.{name as #self}
use Rattle.pigyelund_c.proofs.set_handle.SetOutput.null.Statement.{statement}
use Rattle.pigyelund_c.proofs.set_handle.SetOutput.null.Code as code

pub null_spec : {M : Type 1} → statement M
null_spec 𝓤 𝓛 𝓜 𝓡 wired =
    let H = 𝓛.H in let 𝓣 = tables 𝓤 H 𝓜 𝓡 𝓡.env in let En = ended in let c = clauses 𝓛 𝓜.mem 𝓡.returns in
    let hs : Stays En.signature.params En.kept = tt in
    proved_at 𝓛 En hs c 𝓜 𝓡 tt #self code.function (code.unfolded 𝓤 H 𝓜 𝓡 wired) (λ z are.
    let Post : Val → SProp 𝓤 = (walk_of 𝓛 En hs c).post z in
    qed 𝓛
    ((raw (alive 𝓛 En.signature z.0.0 z.0.1) ⊛ ‵ (owns (types_at En.signature.params z.0.0) z.0.3 z.0.4))
    ∷ ‵ ftrue ∷ []) ∵ move ! (1 ∷ []) $ drop ! $ split ! $
    enter ! 𝓣.C 𝓣.Λ code.function [] Post $ alloc_all ! (λ l. pass_all ! refl tt $
    let out : Val = vstruct (vcons vnull vnil) in
    sets ! (agg ! (and_then ! (lit ! tt) (no_more !))) refl (tt, (record { fits = lit< tt }, tt)) $
    returns ! (look_at ! 0 refl) $ free_all ! refl $
    nothing ! $ nothing ! $ feq_i ! (List Val) (vnull ∷ []) (vnull ∷ []) refl $ fjoin ! $
    feq_i ! (List Val) (out ∷ []) (out ∷ []) refl $ fjoin ! $
    fpack ! (Valss (RawPtr ∷ [])) (within (shape output_struct.the_type) (null_ptr, tt) (out ∷ [])) (vnull ∷ [], tt) $
    fjoin ! $
    use0 𝓛 (raw (fact 𝓤 ((None ≡ None) × (null_ptr ≡ null_ptr))))
    (fact_i 𝓤 ((None ≡ None) × (null_ptr ≡ null_ptr)) (emp 𝓤) (refl, refl)) $
    keep ! (2 ∷ 3 ∷ 1 ∷ 0 ∷ []) $ by ! (leaves 𝓛 En hs c z out (record { at = null_ptr; given = None }) tt tt)))
