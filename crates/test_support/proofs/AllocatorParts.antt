-- What a `&Refusing` leads to, and `next_is_refused` at a call. Assumes `Logic`.
use Rattle.test_support.proofs.AllocatorSteps.{◌≡◌, ℕ, ◌+◌, ◌^◌, ◌<◌, w64, Bool, List, [], ◌∷◌, refl, ap, Ura, Args}
use Rattle.test_support.proofs.AllocatorSteps.{a_type, dnil, dcons, Val, vbool, vint, vptr, SProp, ent, sep, ex, guard}
use Rattle.test_support.proofs.AllocatorSteps.{id⊢, Lft, Share, Fml, ftrue, fsep, flft, Memory, size, align, up}
use Rattle.test_support.proofs.AllocatorSteps.{Routine, Logic, sem, Fun, fact, ‵, raw, ◌⊛◌, some, later, ◌$◌, ◌∵◌, ! }
use Rattle.test_support.proofs.AllocatorSteps.{qed, move, keep, use1, split, join, pick, fsplit, fjoin, feq_i, feq_l}
use Rattle.test_support.proofs.AllocatorSteps.{flt_i, check, show, await, updating, at_once, done, bool, RefOf}
use Rattle.test_support.proofs.AllocatorSteps.{hidden_shr, unhide, bounded, param, Slot, plain, nothing, only}
use Rattle.test_support.proofs.AllocatorSteps.{triple_of, Contract}
use Rattle.std.proofs.alloc.Calls.{Al, α, seen}
use Rattle.test_support.specs.Plans.{IsSomeAnswer}
use Rattle.test_support.specs.contracts.Refusing as RE
use Rattle.test_support.specs.contracts.requests.Requests as RQ
use Rattle.test_support.specs.contracts.requests.Requests.next_is_refused as NX

module _ (Z : Al) where
  abbrev pub args : Args
  args = bounded (a_type ∷ []) (Z.row, tt) (dcons Z.d (dcons Z.drops dnil))

  -- the parameter `&self`
  abbrev pub self : Slot 2
  self = RefOf (0 ∷ []) tt (plain (λ _. RE.the_row (param 0 Z.row))) (λ _. tt)

  -- where the fields of the allocator at p lie
  abbrev pub inner_at : ℕ × ℕ → ℕ × ℕ
  inner_at p = (p.0, p.1 + up (align (α Z)) 0)

  abbrev pub requests_at : ℕ × ℕ → ℕ × ℕ
  requests_at p = (p.0, p.1 + up 8 (up (align (α Z)) 0 + size (α Z)))

-- a `&` to the requests
abbrev pub counted : Lft → ℕ × ℕ → (RQ.the_row).Denot → Fml
counted κ p x = hidden_shr RQ.the_row κ x p.0 p.1

module _ (Z : Al) {M : Type 1} {𝓤 : Ura M} (𝓛 : Logic 𝓤) (κ : Lft) (p : ℕ × ℕ) (x : (RE.the_row Z.row).Denot) where
  -- a `&` to the allocator is one to each of its fields
  pub fields : ent 𝓤 (sem 𝓛 (hidden_shr (RE.the_row (param 0 Z.row)) κ x p.0 p.1))
      (sep 𝓤 (sem 𝓛 (seen Z κ (inner_at Z p) x.inner)) (sem 𝓛 (counted κ (requests_at Z p) x.requests)))
  fields =
      qed 𝓛 (‵ (hidden_shr (RE.the_row (param 0 Z.row)) κ x p.0 p.1) ∷ []) ∵ unhide ! $ fsplit ! $ fsplit ! $
      move ! (1 ∷ []) $ fsplit ! $ keep ! (2 ∷ 0 ∷ []) $ join ! $ done !

module _ {M : Type 1} {𝓤 : Ura M} (𝓛 : Logic 𝓤) (at_mem : Memory → SProp 𝓤) (run : Routine → Fun 𝓤) where
  open 𝓛 use {H, A}

  abbrev pub Asks : Contract 𝓤
  Asks = triple_of 𝓛 NX.signature (NX.spec 𝓛 at_mem run)

  -- of a request of n octets
  module _ (κ : Lft) (q : Share) (p : ℕ × ℕ) (x : (RQ.the_row).Denot) (n : ℕ) where
    abbrev pub at_asks : Asks.Ghost
    at_asks = (
      ((κ, tt), (q, tt), tt, (record { ref_ptr = p; now = x }, (n, tt)), (vptr p.0 p.1 ∷ [], (vint w64 n ∷ [], tt))),
      tt,
    )

    -- what the call is handed
    pub Asks-goes : n < 2 ^ 64 → ent 𝓤 (sep 𝓤 (sem 𝓛 (counted κ p x)) (A.lft κ q)) (Asks.pre at_asks)
    Asks-goes fits =
        qed 𝓛 (‵ (counted κ p x) ∷ ‵ (flft κ q) ∷ []) ∵ nothing ! $ flt_i ! n (2 ^ 64) fits $
        feq_i ! (List Val) (vint w64 n ∷ []) (vint w64 n ∷ []) refl $ fjoin ! $ fjoin ! $
        move ! (1 ∷ []) $ feq_i ! (List Val) (vptr p.0 p.1 ∷ []) (vptr p.0 p.1 ∷ []) refl $ fjoin ! $ fjoin ! $
        nothing ! $ move ! (2 ∷ 0 ∷ []) $ join ! $ join ! $ nothing ! $ move ! (1 ∷ 0 ∷ []) $ join ! $ done !

    -- what a caller has of it: an answer, and the token
    pub Asks-gives : (v : Val)
        → ent 𝓤 (Asks.post at_asks v) (H.⇛ (ex 𝓤 (λ (r : Bool). guard 𝓤 (v ≡ vbool r) (A.lft κ q))))
    Asks-gives v =
        qed 𝓛 (raw (Asks.post at_asks v) ∷ []) ∵ updating ! $
        use1 𝓛
        (later (some (λ (r : Bool). ((‵ (flft κ q) ⊛ ‵ ftrue) ⊛ ‵ (bool.own_val r (v ∷ []))) ⊛ some
        (λ (ws : Unit {0} × (Unit {0} × Unit {0})). ‵ (fsep ftrue (fsep ftrue ftrue)) ⊛ raw
        (fact 𝓤 (IsSomeAnswer x.plan r)))))) (id⊢ 𝓤 _) $
        await ! tt $ pick ! (λ r. split ! $ split ! $ split ! $ move ! (2 ∷ []) $ feq_l ! (λ is. keep ! (0 ∷ []) $
        at_once ! $ show ! (λ (b : Bool). guard 𝓤 (v ≡ vbool b) (A.lft κ q)) r $ check ! (ap only is) $ done !))
