-- A block goes back to the allocator inside. Assumes `Logic`.
use Rattle.test_support.proofs.AllocatorSteps.{◌≡◌, List, [], ◌∷◌, ◌++◌, refl, w64, proved, Val, vunit, vint, inst_fn}
use Rattle.test_support.proofs.AllocatorSteps.{never, fst∗, ftrue, flft, fsep, size, align, capped, WpFn, sem, ◌⊑◌}
use Rattle.test_support.proofs.AllocatorSteps.{⊑_trans, fact, tables, ‵, raw, ◌⊛◌, later, given, prop, ◌$◌, ◌∵◌, !, qed}
use Rattle.test_support.proofs.AllocatorSteps.{move, keep, use1, split, split3, join, group, learn, fsplit, fjoin}
use Rattle.test_support.proofs.AllocatorSteps.{feq_i, regoal, suffices, await, done, enter, of_opd, unit_lit, addr}
use Rattle.test_support.proofs.AllocatorSteps.{stop, fld, no_more, and_then, returns, alloc_all, pass_all, free_all}
use Rattle.test_support.proofs.AllocatorSteps.{look_at, get, through, sets, lands_as, usize, yes, uint_vals, uint_Tells}
use Rattle.test_support.proofs.AllocatorSteps.{owns, RawPtr, Ptr, block_ptr, null_ptr, in_a_block, room_for}
use Rattle.test_support.proofs.AllocatorSteps.{rawptr_vals, rawptr_Tells, shr_vals, plain, types_at, heard, nothing}
use Rattle.test_support.proofs.AllocatorSteps.{calls_at, framed, Stays, stay_dropped, Goes-dropped, walk_of, ends_at}
use Rattle.std.proofs.alloc.Calls.{Al, seen, token, Gives, at_gives, Gives-goes, Gives-Gives}
use Rattle.test_support.proofs.AllocatorParts.{args, self, inner_at, requests_at, counted, fields}
use Rattle.test_support.specs.contracts.RefusingAllocator.deallocate as F
use Rattle.test_support.proofs.RefusingAllocator.deallocate.Statement.{statement}
use Rattle.test_support.proofs.RefusingAllocator.deallocate.Code as code

pub deallocate_spec : {M : Type 1} → statement M
deallocate_spec 𝓤 𝓛 𝓜 𝓡 wired Y L g d d' met _ =
    let Z : Al = record { row = Y; laws = L; g = g; d = d; drops = d' } in
    let T = F.ended Y g d d' in let c = F.clauses Y g d d' 𝓛 𝓜.mem 𝓡.returns in
    let stayed : Stays T.signature.params T.kept = (
      stay_dropped (self Z) yes,
      (
        stay_dropped (plain (λ _. RawPtr)) yes,
        (stay_dropped (plain (λ _. usize)) yes, (stay_dropped (plain (λ _. usize)) yes, tt)),
      ),
    ) in
    let number = Goes-dropped 𝓛 2 (plain (λ _. usize)) yes (λ κs x w. refl) in
    let W = walk_of 𝓛 T stayed c in let 𝓣 = tables 𝓤 𝓛.H 𝓜 𝓡 𝓡.env in let here = inst_fn (args Z) code.function in
    proved 𝓛 T stayed c 𝓜 𝓡 (
      Goes-dropped 𝓛 2 (self Z) yes (λ κs x w. refl),
      (Goes-dropped 𝓛 2 (plain (λ _. RawPtr)) yes (λ κs x w. refl), (number, (number, tt))),
    )
    (F.Key.name (args Z)) here (code.unfolded 𝓤 𝓛.H 𝓜 𝓡 wired (Y, tt) d d')
    (λ κs. (shr_vals, (rawptr_vals, (uint_vals w64, (uint_vals w64, tt)))))
    (λ κs. ((λ r vs s. s.0), (rawptr_Tells, (uint_Tells w64, (uint_Tells w64, tt)))))
    (λ κs qs bounds a τ are.
    let κ = κs.0 in let q = qs.0 in let r = a.0 in let n = a.1.1.0 in let al = a.1.1.1.0 in let x = r.now in
    let vs : Ptr → List Val = λ t. shr_vals r ++ rawptr_vals t ++ vint w64 n ∷ vint w64 al ∷ [] in
    let y : Ptr → W.Ghost =
    λ t. (
      (
        κs,
        qs,
        bounds,
        (r, (t, (n, (al, tt)))),
        (shr_vals r, (rawptr_vals t, (vint w64 n ∷ [], (vint w64 al ∷ [], tt)))),
      ),
      τ,
    ) in
    let p = inner_at Z r.ref_ptr in let k = requests_at Z r.ref_ptr in
    let Said : Type 0 = (capped (size τ) ≡ n) × (capped (align τ) ≡ al) in
    qed 𝓛
    (((‵ (flft κ q) ⊛ ‵ (flft κs.1.0 qs.1.0) ⊛ ‵ ftrue) ⊛ ‵ (owns (types_at T.signature.params κs) a (y a.1.0).0.4))
    ∷ (raw (fact 𝓤 (κs.1.0 ⊑ Y.lives)) ⊛ raw (fact 𝓤 Said) ⊛ ‵
    (fsep (room_for τ a.1.0) (token Z x.inner τ a.1.0))) ∷ []) ∵
    move ! (1 ∷ []) $ split3 ! $
    heard ! _ (λ lives. heard ! _
    (λ said. move ! (1 ∷ []) $ split ! $ split ! $ move ! (2 ∷ []) $ fsplit ! $ fsplit ! $ move ! (1 ∷ []) $
    use1 𝓛 (‵ (seen Z κ p x.inner) ⊛ ‵ (counted κ k x.requests)) (fields Z 𝓛 κ r.ref_ptr x) $ split ! $
    keep ! (6 ∷ 0 ∷ 4 ∷ 5 ∷ []) $
    in_a_block ! a.1.0 (λ t. fsep (room_for τ t) (token Z x.inner τ t))
    (fst∗ 𝓤 (never 𝓤) (sem 𝓛 (token Z x.inner τ null_ptr))) (λ b o at.
    regoal ! (λ t. prop (WpFn 𝓤 𝓛.H 𝓣.C 𝓣.Λ here (vs t) (W.post (y t)))) at refl $ fsplit ! $
    -- [the block's room; the right to free it; the `&` to the allocator inside; the token; the other token]
    group ! 4 $ enter ! _ _ _ _ _ $
    alloc_all ! (λ l. pass_all ! refl (
      (tt, tt),
      ((tt, tt), ((tt, record { fits = are.1.1.0.1 }), ((tt, record { fits = are.1.1.1.0.1 }), tt))),
    ) $
    sets ! (addr ! (through ! refl (fld ! refl (stop !)))) refl (tt, tt) $
    let z = at_gives Z 𝓛 𝓜.mem 𝓡.returns κ q p x.inner b o n al τ in
    use1 𝓛 (raw ((Gives Z 𝓛 𝓜.mem 𝓡.returns).pre z))
    (Gives-goes Z 𝓛 𝓜.mem 𝓡.returns κ q p x.inner (⊑_trans κ κs.1.0 Y.lives bounds.0 lives) b o n al τ said.0 said.1
    are.1.1.0.1 are.1.1.1.0.1) $
    calls_at ! (framed 𝓤 𝓛.H 𝓜 𝓣) (Gives Z 𝓛 𝓜.mem 𝓡.returns) (met.deallocate d') z
    (and_then ! (get ! refl)
    (and_then ! (get ! refl) (and_then ! (get ! refl) (and_then ! (get ! refl) (no_more !))))) (λ v.
    use1 𝓛 (later (given (v ≡ vunit) (‵ (flft κ q)))) (Gives-Gives Z 𝓛 𝓜.mem 𝓡.returns κ q p x.inner b o n al τ v) $
    await ! tt $ learn ! (λ is. lands_as ! is refl (tt, tt) $
    sets ! (of_opd ! (unit_lit !)) refl (tt, tt) $ returns ! (look_at ! 0 refl) $ free_all ! refl $
    suffices ! _
    (ends_at 𝓛 T stayed c (y (block_ptr b o)) vunit tt (tt, (tt, (tt, (tt, tt)))) (tt, (tt, (tt, (tt, tt))))) $
    nothing ! $ feq_i ! _ (vunit ∷ []) _ refl $ nothing ! $ nothing ! $ fjoin ! $ nothing ! $ fjoin ! $ nothing ! $
    fjoin ! $ nothing ! $ fjoin ! $ join ! $
    move ! (2 ∷ 3 ∷ []) $ join ! $ join ! $ done !)))))))
