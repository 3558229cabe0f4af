-- A walk over two chains that gathers what they have in common.
use Rattle.rpki_chain_core.proofs.Common.{List, None, Option, Some, arith, inl, inr, length, refl, take, ℕ, ◌+◌, ◌<◌}
use Rattle.rpki_chain_core.proofs.Common.{◌↔◌, ◌≡◌, ◌≤◌, ◌⊎◌, cases_lt, get_or-take, length-take-le, length_push}
use Rattle.rpki_chain_core.proofs.Common.{All-take, Before, Covers, HoldsBlock, IsChain, IsChainOf, IsOverhang}
use Rattle.rpki_chain_core.proofs.Common.{Overhang, numbers}
use Rattle.rpki_chain_core.specs.Common.{IsCommonPushed}
use Rattle.rpki_chain_core.proofs.ChainGathering.{IsGathered, gathered_all, gathered_as, gathered_push}
use Rattle.rpki_chain_core.proofs.WalkSides.{IsAt, IsAt-from, before_next, bounds_of, covers_at, gap_before}
use Rattle.rpki_chain_core.proofs.WalkSides.{lies_before, low_at, ordered_at, up_to}

-- `out` is what the chains have in common before one of the blocks at hand
pub record Meet {B I : Type 0} (f : B → ℕ × ℕ) (form : ℕ × ℕ → B) (number : I → ℕ) (last : ℕ) (xs ys : List B)
    (i : ℕ) (b : Option (I × I)) (j : ℕ) (c : Option (I × I)) (out : List B) : Type 0 where
  pub own_chain : IsChain f form xs
  pub other_chain : IsChain f form ys
  pub own_at : HoldsBlock f number last xs i b
  pub other_at : HoldsBlock f number last ys j c
  pub common : IsGathered f form (λ n. Covers f xs n × Covers f ys n)
      (λ n. Before (bounds_of number b) n ⊎ Before (bounds_of number c) n) out
  pub few : length out ≤ i + j

-- the blocks of a chain before the one at hand cover what comes before it
Covers-take : {B : Type 0} (f : B → ℕ × ℕ) (form : ℕ × ℕ → B) (xs : List B) (i : ℕ) (b : ℕ × ℕ) → IsChain f form xs
    → IsAt f xs i (Some b) → (n : ℕ) → Covers f (take i xs) n ↔ (Covers f xs n × (n < b.0))
Covers-take f form xs i b h at n =
    let len = length-take-le i xs (omega (arith, at.0)) in
    grind (arith, get_or-take, lies_before f form xs i (Some b) h at n, low_at f form xs i b h at)

module _ {B I : Type 0} {f : B → ℕ × ℕ} {form : ℕ × ℕ → B} {number : I → ℕ} {last : ℕ} where
  -- what came before an overhang is what the chains have in common there
  pub meet_start : {first : ℕ} {xs ys : List B} {o : Overhang I} → IsOverhang f number first last xs ys o
      → IsChain f form xs → IsChain f form ys
      → Meet f form number last xs ys o.own_at (Some (o.min, o.max)) o.other_at o.other (take o.own_at xs)
  meet_start {xs = xs} {ys} {o} h hx hy =
      let at : IsAt f xs o.own_at (Some (numbers number (o.min, o.max))) = (h.own_block.0, h.own_block.1) in
      let len = length-take-le o.own_at xs (omega (arith, at.0)) in
      let common : IsGathered f form (λ n. Covers f xs n × Covers f ys n)
      (λ n. (n < number o.min) ⊎ Before (bounds_of number o.other) n) (take o.own_at xs) = record {
        chain = grind (arith, All-take, get_or-take);
        covers = λ n. grind (arith, Covers-take f form xs o.own_at _ hx at n, h.inside n, h.passed n);
      } in
      grind (arith)

  -- the chains may change places
  pub meet_swap : {xs ys out : List B} {i j : ℕ} {b c : Option (I × I)} → Meet f form number last xs ys i b j c out
      → Meet f form number last ys xs j c i b out
  meet_swap {xs} {ys} {out} {b = b} {c = c} w =
      let common : IsGathered f form (λ n. Covers f ys n × Covers f xs n)
      (λ n. Before (bounds_of number c) n ⊎ Before (bounds_of number b) n) out =
      record { chain = w.common.chain; covers = λ n. grind (arith, w.common.covers n) } in
      grind (arith)

  -- where one chain has ended, all is there that both have
  pub meet_done : {xs ys out : List B} {i j : ℕ} {b c : Option (I × I)} → Meet f form number last xs ys i b j c out
      → (b ≡ None) ⊎ (c ≡ None) → IsChainOf f form (λ n. Covers f xs n × Covers f ys n) out
  meet_done w ended = gathered_all w.common (λ n s. grind (arith))

  -- in no more blocks than both have
  pub meet_ended : {xs ys out : List B} {i j : ℕ} {b c : Option (I × I)} → Meet f form number last xs ys i b j c out
      → (b ≡ None) ⊎ (c ≡ None)
      → IsChainOf f form (λ n. Covers f xs n × Covers f ys n) out × (length out ≤ length xs + length ys)
  meet_ended {b = b} {c = c} w ended =
      let own = IsAt-from f number last _ _ b w.own_at in
      let other = IsAt-from f number last _ _ c w.other_at in
      (meet_done w ended, grind (arith, w.few))

  module _ {xs ys out : List B} {i j : ℕ} {b c : I × I}
      (w : Meet f form number last xs ys i (Some b) j (Some c) out) where
    own_is : IsAt f xs i (Some (numbers number b))
    own_is = (w.own_at.0, w.own_at.1)

    other_is : IsAt f ys j (Some (numbers number c))
    other_is = (w.other_at.0, w.other_at.1)

    -- the block at hand is ordered
    pub meet_ordered : number b.0 ≤ number b.1
    meet_ordered = ordered_at f form xs i (numbers number b) w.own_chain own_is

    -- both chains have a gap before theirs
    meet_gap : (m : ℕ) → number b.0 ≤ m → number c.0 ≤ m → (n : ℕ) → Covers f out n → n + 1 < m
    meet_gap m own other n t =
        let s = (w.common.covers n).0 t in
        let own_gap = gap_before f form xs i (numbers number b) w.own_chain own_is n s.0.0 in
        let other_gap = gap_before f form ys j (numbers number c) w.other_chain other_is n s.0.1 in
        grind (arith)

    -- the one chain's block ends first: what both have of it is behind the chain, and the next block is at hand
    own_ends : {made : List B} (next : Option (I × I))
        → ((number b.1 < number c.0) × (made ≡ out))
        ⊎ IsCommonPushed f form (numbers number b) (numbers number c) out made
        → number b.1 ≤ number c.1 → HoldsBlock f number last xs (i + 1) next
        → Meet f form number last xs ys (i + 1) next j (Some c) made
    own_ends {made} next pushed first after =
        let at = IsAt-from f number last xs (i + 1) next after in
        let ordered = meet_ordered in
        let reached = up_to f form xs i (numbers number b) w.own_chain own_is (bounds_of number next) at in
        let passed = before_next f form xs i (numbers number b) w.own_chain own_is (bounds_of number next) at in
        let own_covers = covers_at f form xs i (numbers number b) w.own_chain own_is in
        let other_covers = covers_at f form ys j (numbers number c) w.other_chain other_is in
        let before = λ (n : ℕ). Before (bounds_of number next) n ⊎ (n < number c.0) in
        let both : IsGathered f form (λ n. Covers f xs n × Covers f ys n) before made × (length made ≤ length out + 1) =
        elim pushed [
          | inl (apart, same) ↦
              rw same (gathered_as w.common before (λ n s. grind (arith, reached n s.0, passed n)), omega arith)
          | inr (y, common, new, is) ↦ rw is (
            gathered_push w.common before y new common.ordered
                (meet_gap (f y).0 common.begins.0 common.begins.1)
                (λ n v. grind (arith, own_covers n, other_covers n))
                (λ n s. grind (arith, cases_lt, reached n s.0, passed n)),
            omega (arith, length_push out y),
          )
        ] in
        grind (arith)

    -- both have a part of it
    pub meet_own_ends : {made : List B} (next : Option (I × I))
        → IsCommonPushed f form (numbers number b) (numbers number c) out made → number b.1 ≤ number c.1
        → HoldsBlock f number last xs (i + 1) next → Meet f form number last xs ys (i + 1) next j (Some c) made
    meet_own_ends next pushed first after = own_ends next (inr pushed) first after

    -- it ends before the other chain's block begins, so both have no part of it
    pub meet_own_skips : (next : Option (I × I)) → number b.1 < number c.0
        → HoldsBlock f number last xs (i + 1) next → Meet f form number last xs ys (i + 1) next j (Some c) out
    meet_own_skips next apart after =
        let ordered = ordered_at f form ys j (numbers number c) w.other_chain other_is in
        own_ends next (inl (apart, refl)) (omega arith) after

  -- the same, where the other chain's block does
  pub meet_other_ends : {xs ys out made : List B} {i j : ℕ} {b c : I × I} (next : Option (I × I))
      → Meet f form number last xs ys i (Some b) j (Some c) out
      → IsCommonPushed f form (numbers number c) (numbers number b) out made → number c.1 ≤ number b.1
      → HoldsBlock f number last ys (j + 1) next → Meet f form number last xs ys i (Some b) (j + 1) next made
  meet_other_ends next w pushed first after = meet_swap (meet_own_ends (meet_swap w) next pushed first after)

  pub meet_other_skips : {xs ys out : List B} {i j : ℕ} {b c : I × I} (next : Option (I × I))
      → Meet f form number last xs ys i (Some b) j (Some c) out → number c.1 < number b.0
      → HoldsBlock f number last ys (j + 1) next → Meet f form number last xs ys i (Some b) (j + 1) next out
  meet_other_skips next w apart after = meet_swap (meet_own_skips (meet_swap w) next apart after)
