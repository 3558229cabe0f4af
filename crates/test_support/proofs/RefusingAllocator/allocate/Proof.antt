-- A refused request is answered by an error, and any other as the allocator inside answers it. Assumes `Logic`.
use Rattle.test_support.proofs.AllocatorSteps.{◌≡◌, Bool, true, false, [], ◌∷◌, Ok, Err, refl, w64, proved, after, Val}
use Rattle.test_support.proofs.AllocatorSteps.{vbool, vint, inst_fn, ftrue, flft, size, align, capped, ◌⊑◌, ⊑_trans}
use Rattle.test_support.proofs.AllocatorSteps.{fact, tables, ‵, raw, ◌⊛◌, some, later, given, at_ret, prop, Sq, ◌$◌}
use Rattle.test_support.proofs.AllocatorSteps.{◌∵◌, !, qed, move, keep, use0, use1, use2, split, join, pick, learn}
use Rattle.test_support.proofs.AllocatorSteps.{fsplit, fjoin, suffices, await, done, agg, enter, lit, addr, stop, fld}
use Rattle.test_support.proofs.AllocatorSteps.{no_more, and_then, first, branches, skips, exec, returns, returns_within}
use Rattle.test_support.proofs.AllocatorSteps.{alloc_all, pass_all, free_all, look_at, get, through, sets, lands_as}
use Rattle.test_support.proofs.AllocatorSteps.{env, usize, yes, uint_vals, uint_Tells, owns, block_ptr, shr_vals, plain}
use Rattle.test_support.proofs.AllocatorSteps.{types_at, heard, nothing, calls_at, framed, Stays, stay_dropped}
use Rattle.test_support.proofs.AllocatorSteps.{Goes-dropped, walk_of, ends_at}
use Rattle.std.specs.Allocator.{block_if_ok}
use Rattle.std.proofs.alloc.Calls.{Al, seen, token, Answer, answer_val, Answer-typed, Answer-Ok, Answer-err, Takes}
use Rattle.std.proofs.alloc.Calls.{at_takes, Answered, Takes-goes, Takes-gives, answers}
use Rattle.test_support.proofs.AllocatorParts.{args, self, inner_at, requests_at, counted, fields, Asks, at_asks}
use Rattle.test_support.proofs.AllocatorParts.{Asks-goes, Asks-gives}
use Rattle.test_support.specs.contracts.RefusingAllocator.allocate as F
use Rattle.test_support.proofs.RefusingAllocator.allocate.Statement.{statement}
use Rattle.test_support.proofs.RefusingAllocator.allocate.Code as code
use Rattle.test_support.proofs.requests.Requests.next_is_refused.Met as asks

pub allocate_spec : {M : Type 1} → statement M
allocate_spec 𝓤 𝓛 𝓜 𝓡 wired Y L g d d' met _ =
    let Z : Al = record { row = Y; laws = L; g = g; d = d; drops = d' } in
    let T = F.ended Y g d d' in let c = F.clauses Y g d d' 𝓛 𝓜.mem 𝓡.returns in let A = 𝓛.A in
    let stayed : Stays T.signature.params T.kept = (
      stay_dropped (self Z) yes,
      (stay_dropped (plain (λ _. usize)) yes, (stay_dropped (plain (λ _. usize)) yes, tt)),
    ) in
    let number = Goes-dropped 𝓛 2 (plain (λ _. usize)) yes (λ κs x w. refl) in
    let W = walk_of 𝓛 T stayed c in let 𝓣 = tables 𝓤 𝓛.H 𝓜 𝓡 𝓡.env in let here = inst_fn (args Z) code.function in
    proved 𝓛 T stayed c 𝓜 𝓡 (Goes-dropped 𝓛 2 (self Z) yes (λ κs x w. refl), (number, (number, tt)))
    (F.Key.name (args Z)) here (code.unfolded 𝓤 𝓛.H 𝓜 𝓡 wired (Y, tt) d d')
    (λ κs. (shr_vals, (uint_vals w64, (uint_vals w64, tt))))
    (λ κs. ((λ r vs s. s.0), (uint_Tells w64, (uint_Tells w64, tt))))
    (λ κs qs bounds a τ are.
    let κ = κs.0 in let q = qs.0 in let r = a.0 in let n = a.1.0 in let al = a.1.1.0 in let x = r.now in
    let y : W.Ghost = ((κs, qs, bounds, a, (shr_vals r, (vint w64 n ∷ [], (vint w64 al ∷ [], tt)))), τ) in
    let p = inner_at Z r.ref_ptr in let k = requests_at Z r.ref_ptr in
    let Said : Type 0 = (capped (size τ) ≡ n) × (capped (align τ) ≡ al) in
    let answer : (v : Val) (o : Answer.Denot)
    → Sq 𝓛
    (‵ (Answer.own_val o (v ∷ [])) ∷ ‵ (block_if_ok (token Z x.inner) τ o) ∷ ‵ (flft κ q)
    ∷ (‵ (flft κs.1.0 qs.1.0) ⊛ ‵ ftrue) ∷ []) (prop (W.post y v)) =
    λ v o.
    suffices ! _ (ends_at 𝓛 T stayed c y v o (tt, (tt, (tt, tt))) (tt, (tt, (tt, tt)))) $
    nothing ! $ nothing ! $ fjoin ! $ nothing ! $ fjoin ! $ nothing ! $ fjoin ! $ join ! $ move ! (2 ∷ 3 ∷ []) $
    join ! $ join ! $ done ! in
    qed 𝓛
    (((‵ (flft κ q) ⊛ ‵ (flft κs.1.0 qs.1.0) ⊛ ‵ ftrue) ⊛ ‵ (owns (types_at T.signature.params κs) a y.0.4))
    ∷ (raw (fact 𝓤 (κs.1.0 ⊑ Y.lives)) ⊛ raw (fact 𝓤 Said)) ∷ []) ∵
    move ! (1 ∷ []) $ split ! $
    heard ! _
    (λ lives. heard ! _ (λ said. split ! $ split ! $ move ! (2 ∷ []) $ fsplit ! $ fsplit ! $ move ! (1 ∷ []) $
    use1 𝓛 (‵ (seen Z κ p x.inner) ⊛ ‵ (counted κ k x.requests)) (fields Z 𝓛 κ r.ref_ptr x) $ split ! $
    keep ! (1 ∷ 4 ∷ 0 ∷ 5 ∷ []) $
    -- [the `&` to the requests; the token; the `&` to the allocator inside; the other token]
    enter ! _ _ _ _ _ $
    alloc_all ! (λ l. pass_all ! refl
    ((tt, tt), ((tt, record { fits = are.1.0.1 }), ((tt, record { fits = are.1.1.0.1 }), tt))) $
    sets ! (addr ! (through ! refl (fld ! refl (stop !)))) refl (tt, tt) $
    use2 𝓛 (raw ((Asks 𝓛 𝓜.mem 𝓡.returns).pre (at_asks 𝓛 𝓜.mem 𝓡.returns κ q k x.requests n)))
    (Asks-goes 𝓛 𝓜.mem 𝓡.returns κ q k x.requests n are.1.0.1) $
    calls_at ! (framed 𝓤 𝓛.H 𝓜 𝓣) (Asks 𝓛 𝓜.mem 𝓡.returns)
    (asks.met 𝓤 𝓛 𝓜 𝓡 (code.calls-test_support::requests::Requests::next_is_refused 𝓡.env wired))
    (at_asks 𝓛 𝓜.mem 𝓡.returns κ q k x.requests n)
    (and_then ! (get ! refl) (and_then ! (get ! refl) (no_more !))) (λ u.
    use1 𝓛 (later (some (λ (b : Bool). given (u ≡ vbool b) (‵ (flft κ q)))))
    (Asks-gives 𝓛 𝓜.mem 𝓡.returns κ q k x.requests n u) $ await ! tt $
    pick ! (λ b. learn ! (λ is. lands_as ! is refl (tt, tt) $
    -- [the token; the `&` to the allocator inside; the other token]
    first ! $ branches ! (get ! refl)
    (λ refused. sets ! (agg ! (no_more !)) refl (tt, tt) $
    sets ! (agg ! (and_then ! (lit ! tt) (and_then ! (get ! refl) (no_more !)))) refl (Answer-typed false 0 0) $
    returns_within ! (W.post y) refl (look_at ! 0 refl) $ free_all ! refl $ keep ! (0 ∷ 2 ∷ []) $ nothing ! $
    use0 𝓛 (‵ (Answer.own_val (Err (record {})) (answer_val false 0 0 ∷ []))) (Answer-err 𝓛) $
    answer (answer_val false 0 0) (Err (record {})))
    (λ granted. skips ! $ exec ! 𝓣.C 𝓣.Λ (env here.locals l) (after 3 here.body) (at_ret _ (W.post y)) $
    sets ! (addr ! (through ! refl (fld ! refl (stop !)))) refl (tt, tt) $ move ! (1 ∷ 0 ∷ []) $
    let z = at_takes Z 𝓛 𝓜.mem 𝓡.returns κ q p x.inner n al τ in
    use2 𝓛 (raw ((Takes Z 𝓛 𝓜.mem 𝓡.returns).pre z))
    (Takes-goes Z 𝓛 𝓜.mem 𝓡.returns κ q p x.inner (⊑_trans κ κs.1.0 Y.lives bounds.0 lives) n al τ said.0 said.1
    are.1.0.1 are.1.1.0.1) $
    calls_at ! (framed 𝓤 𝓛.H 𝓜 𝓣) (Takes Z 𝓛 𝓜.mem 𝓡.returns) (met.allocate d') z
    (and_then ! (get ! refl) (and_then ! (get ! refl) (and_then ! (get ! refl) (no_more !)))) (λ v.
    use1 𝓛 (later (raw (Answered Z 𝓛 𝓜.mem 𝓡.returns x.inner τ v) ⊛ ‵ (flft κ q)))
    (Takes-gives Z 𝓛 𝓜.mem 𝓡.returns κ q p x.inner n al τ v) $ await ! tt $ split ! $
    answers Z ! 𝓜.mem 𝓡.returns x.inner τ v
    (λ b o e. fjoin ! $ lands_as ! e refl (Answer-typed true b o) $ returns ! (look_at ! 0 refl) $ free_all ! refl $
    use0 𝓛 (‵ (Answer.own_val (Ok (block_ptr b o)) (answer_val true b o ∷ []))) (Answer-Ok 𝓛 b o) $
    answer (answer_val true b o) (Ok (block_ptr b o)))
    (λ e. lands_as ! e refl (Answer-typed false 0 0) $ returns ! (look_at ! 0 refl) $ free_all ! refl $ nothing ! $
    use0 𝓛 (‵ (Answer.own_val (Err (record {})) (answer_val false 0 0 ∷ []))) (Answer-err 𝓛) $
    answer (answer_val false 0 0) (Err (record {}))))))))))))
