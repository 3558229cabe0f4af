-- A walk that takes one chain's numbers out of another: what each of its turns does.
use Rattle.rpki_chain_core.proofs.Common.{List, MatchOption, None, Option, Some, [], arith, inl, inr, length, refl, ℕ}
use Rattle.rpki_chain_core.proofs.Common.{◌++◌, ◌+◌, ◌-◌, ◌<◌, ◌∷◌, ◌≡◌, ◌≤◌, ◌⊎◌, le_refl, cases_lt, length_push}
use Rattle.rpki_chain_core.proofs.Common.{Before}
use Rattle.rpki_chain_core.proofs.Common.{Covers, HoldsBlock, IsBehind, IsChain, IsChainOf, IsNew, IsOverhang, Overhang}
use Rattle.rpki_chain_core.proofs.Common.{numbers}
use Rattle.std.proofs.Common.{IfOk, Result}
use Rattle.std.proofs.lemmas.Result.{IfOk-weaker}
use Rattle.std.specs.Option.{IfSome}
use Rattle.rpki_chain_core.specs.Rest.{IsBelowPushed, IsRest}
use Rattle.rpki_chain_core.proofs.Chains.{Covers-at, Covers-nil, IsChain-nil, chain_of_same}
use Rattle.rpki_chain_core.proofs.ChainGathering.{IsGathered, gathered_all, gathered_as, gathered_push}
use Rattle.rpki_chain_core.proofs.WalkSides.{IsAt, IsAt-from, before_next, bounds_of, covers_at, gap_before, ordered_at}
use Rattle.rpki_chain_core.proofs.WalkSides.{up_to}

-- `out` is the chain of the numbers of S before the rest of a block of `xs`; the others of S are numbers of `xs`, and
-- the rest doesn't touch `out`
pub record Keeps {B : Type 0} (f : B → ℕ × ℕ) (form : ℕ × ℕ → B) (xs : List B) (i : ℕ) (rest : Option (ℕ × ℕ))
    (S : ℕ → Type 0) (out : List B) : Type 0 where
  pub chain : IsChain f form xs
  pub rest_is : MatchOption rest (i ≡ length xs) (λ b. IsRest f xs i b)
  pub own : (n : ℕ) → S n → Before rest n ⊎ Covers f xs n
  pub apart : (n : ℕ) → Covers f out n → Before rest (n + 1)
  pub kept : IsGathered f form S (Before rest) out

-- all of a block at hand is left
rest_from : {B : Type 0} (f : B → ℕ × ℕ) (form : ℕ × ℕ → B) (xs : List B) (i : ℕ) (b : Option (ℕ × ℕ))
    → IsChain f form xs → IsAt f xs i b → MatchOption b (i ≡ length xs) (λ b. IsRest f xs i b)
rest_from f form xs i None h at = at
rest_from f form xs i (Some b) h at = record {
  start = b.0;
  within = at.0;
  block = at.1;
  begins = le_refl _;
  ordered = ordered_at f form xs i b h at;
}

-- and no number stands right before it
edge_from : {B : Type 0} (f : B → ℕ × ℕ) (form : ℕ × ℕ → B) (xs : List B) (i : ℕ) (b : Option (ℕ × ℕ))
    → IsChain f form xs → IsAt f xs i b → (n : ℕ) → Covers f xs n → Before b n → Before b (n + 1)
edge_from f form xs i b h at n c before = grind (arith, gap_before f form xs i)

module _ {B : Type 0} {f : B → ℕ × ℕ} {form : ℕ × ℕ → B} {xs out : List B} {i : ℕ} {S : ℕ → Type 0} where
  module _ {b : ℕ × ℕ} (w : Keeps f form xs i (Some b) S out) where
    block_at : IsAt f xs i (Some (w.rest_is.start, b.1))
    block_at = (w.rest_is.within, w.rest_is.block)

    -- the numbers of the rest are numbers of the chain
    rest_covers : (n : ℕ) → b.0 ≤ n → n ≤ b.1 → Covers f xs n
    rest_covers n from to =
        let p = w.rest_is in
        covers_at f form xs i (p.start, b.1) w.chain block_at n (omega arith) to

    -- a piece that begins where the rest does
    keeps_piece : (y : B) → IsNew f form y → (f y).0 ≡ b.0 → (f y).0 ≤ (f y).1 → (f y).1 ≤ b.1
        → ((n : ℕ) → b.0 ≤ n → n ≤ (f y).1 → S n)
        → IsGathered f form S (λ n. n < (f y).1 + 1) (out ++ y ∷ []) × (length (out ++ y ∷ []) ≤ length out + 1)
    keeps_piece y new begins ordered ends all = (
      gathered_push w.kept (λ n. n < (f y).1 + 1) y new ordered
          (λ n t. let gap = w.apart n t in omega arith)
          (λ n v. all n (omega arith) (omega arith))
          (λ n s. grind (arith, cases_lt)),
      omega (arith, length_push out y),
    )

    -- the rest is decided, and the next block of the chain is at hand
    keeps_next : {made : List B} (e : ℕ) (next : Option (ℕ × ℕ)) → b.0 ≤ e → e ≤ b.1 + 1
        → ((n : ℕ) → e ≤ n → n ≤ b.1 → S n → ⊥) → IsGathered f form S (λ n. n < e) made → IsAt f xs (i + 1) next
        → Keeps f form xs (i + 1) next S made
    keeps_next {made} e next begins ends none kept at =
        let p = w.rest_is in
        let own = w.own in
        let whole : ℕ × ℕ = (p.start, b.1) in
        let reached = up_to f form xs i whole w.chain block_at next at in
        let before = before_next f form xs i whole w.chain block_at next at in
        let edge = edge_from f form xs (i + 1) next w.chain at in
        let apart : (n : ℕ) → Covers f made n → Before next (n + 1) = λ n t.
        let s = (kept.covers n).0 t in
        elim (own n s.0) [
          | inl less ↦ before (n + 1) (omega arith)
          | inr c ↦ edge n c (before n (omega arith))
        ] in
        record {
          chain = w.chain;
          rest_is = rest_from f form xs (i + 1) next w.chain at;
          own = λ n s. elim (own n s) [ inl less ↦ inl (before n (omega arith)) | inr c ↦ inr c ];
          apart = apart;
          kept = gathered_as kept (Before next) (λ n s.
              let here = own n s in
              grind (arith, cases_lt, reached n, before n, none n));
        }

    -- all of the rest is kept
    pub keeps_all : (y : B) (next : Option (ℕ × ℕ)) → f y ≡ b → y ≡ form b
        → ((n : ℕ) → b.0 ≤ n → Covers f xs n → S n) → IsAt f xs (i + 1) next
        → Keeps f form xs (i + 1) next S (out ++ y ∷ []) × (length (out ++ y ∷ []) ≤ length out + 1)
    keeps_all y next is made all at =
        let ordered = w.rest_is.ordered in
        let new : IsNew f form y = rw is made in
        let low : (f y).0 ≡ b.0 = rw is refl in
        let high : (f y).1 ≡ b.1 = rw is refl in
        let piece = keeps_piece y new low (omega arith) (omega arith)
        (λ n from to. all n from (rest_covers n from (omega arith))) in
        (keeps_next ((f y).1 + 1) next (omega arith) (omega arith) (λ n late within s. omega arith) piece.0 at, piece.1)

    -- the next block begins behind the rest
    pub keeps_on : (next : Option (ℕ × ℕ)) → IsAt f xs (i + 1) next → Before next b.0
    keeps_on next at =
        let p = w.rest_is in
        before_next f form xs i (p.start, b.1) w.chain block_at next at b.0 p.ordered

  -- where no block is left all of S is there
  pub keeps_done : Keeps f form xs i None S out → IsChainOf f form S out
  keeps_done w = gathered_all w.kept (λ n s. tt)

-- the chain so far, with the numbers from the rest on
pub keeps_start : {B : Type 0} {f : B → ℕ × ℕ} {form : ℕ × ℕ → B} {last : ℕ} {xs out : List B} {i : ℕ} {b : ℕ × ℕ}
    → IsChain f form xs → IsBehind f form last out b → IsRest f xs i b
    → Keeps f form xs i (Some b) (λ n. Covers f out n ⊎ (Covers f xs n × (b.0 ≤ n))) out
keeps_start {f = f} {out = out} {b = b} chain h rest =
    let near : (n : ℕ) → Covers f out n → n + 1 < b.0 = λ n t. (let gap = h.apart t.0 t.1 t.2 in grind (arith)) in
    record {
      chain = chain;
      rest_is = rest;
      own = λ n s. elim s [ inl t ↦ inl (let gap = near n t in omega arith) | inr c ↦ inr c.0 ];
      apart = near;
      kept = record { chain = h.chain; covers = λ n. grind (arith, near n) };
    }

-- n is a number of `xs` that isn't in `ys`
abbrev pub IsLeft : {B : Type 0} → (B → ℕ × ℕ) → List B → List B → ℕ → Type 0
IsLeft f xs ys n = Covers f xs n × (Covers f ys n → ⊥)

-- the pieces `out` are the numbers of `xs` before the rest that aren't in `ys`; what comes before the cut at hand comes
-- before the rest too
pub record Walk {B I : Type 0} (f : B → ℕ × ℕ) (form : ℕ × ℕ → B) (number : I → ℕ) (first last : ℕ)
    (xs ys : List B) (i : ℕ) (rest : Option (I × I)) (j : ℕ) (cut : Option (I × I)) (out : List B) : Type 0 where
  pub own : Keeps f form xs i (bounds_of number rest) (IsLeft f xs ys) out
  pub other_chain : IsChain f form ys
  pub cut_is : HoldsBlock f number last ys j cut
  pub passed : (n : ℕ) → Covers f ys n → Before (bounds_of number cut) n → Before (bounds_of number rest) n
  pub few : length out ≤ i + j
  pub valid : IfSome rest (λ b. (first ≤ number b.0) × (number b.1 ≤ last))

-- the part of the rest b before the cut c is decided: `made` has the numbers of S before the edge, where b ends or the
-- cut begins
pub record IsDecided {B : Type 0} (f : B → ℕ × ℕ) (form : ℕ × ℕ → B) (S : ℕ → Type 0) (b : ℕ × ℕ) (low : ℕ)
    (out made : List B) : Type 0 where
  pub edge : ℕ
  pub kept : IsGathered f form S (λ n. n < edge) made
  pub few : length made ≤ length out + 1
  pub begins : b.0 ≤ edge
  pub ends : edge ≤ b.1 + 1
  pub meets : (b.1 < edge) ⊎ (low ≤ edge)
  pub before : (edge ≤ low) ⊎ (edge ≡ b.0)

module _ {B I : Type 0} {f : B → ℕ × ℕ} {form : ℕ × ℕ → B} {number : I → ℕ} {first last : ℕ} where
  -- it goes on from an overhang: all that comes before it is taken out
  pub walk_from : {xs ys : List B} {o : Overhang I} → IsOverhang f number first last xs ys o → IsChain f form xs
      → IsChain f form ys → Walk f form number first last xs ys o.own_at (Some (o.min, o.max)) o.other_at o.other []
  walk_from {xs} {ys} {o} h own other =
      let b : ℕ × ℕ = numbers number (o.min, o.max) in
      let at : IsAt f xs o.own_at (Some b) = (h.own_block.0, h.own_block.1) in
      let keeps : Keeps f form xs o.own_at (Some b) (IsLeft f xs ys) [] = record {
        chain = own;
        rest_is = rest_from f form xs o.own_at (Some b) own at;
        own = λ n s. inr s.0;
        apart = λ n t. absurd (Covers-nil f n t);
        kept = record {
          chain = IsChain-nil f form;
          covers = λ n. (λ t. absurd (Covers-nil f n t), λ s. absurd (s.0.1 (h.inside n s.0.0 s.1)));
        };
      } in
      record {
        own = keeps;
        other_chain = other;
        cut_is = h.other_block;
        passed = h.passed;
        few = omega arith;
        valid = (h.from_first, h.own_block.2);
      }

  module _ {xs ys out : List B} {i j : ℕ} where
    module _ {b c : I × I} (w : Walk f form number first last xs ys i (Some b) j (Some c) out) where
      cut_at : IsAt f ys j (Some (numbers number c))
      cut_at = (w.cut_is.0, w.cut_is.1)

      -- the numbers of the cut are taken out
      taken : (n : ℕ) → number c.0 ≤ n → n ≤ number c.1 → Covers f ys n
      taken = covers_at f form ys j (numbers number c) w.other_chain cut_at

      -- the cut ends before the rest, and the next cut is at hand
      pub walk_skip : (next : Option (I × I)) → number c.1 < number b.0 → HoldsBlock f number last ys (j + 1) next
          → Walk f form number first last xs ys i (Some b) (j + 1) next out
      walk_skip next less after =
          let few = w.few in
          let at = IsAt-from f number last ys (j + 1) next after in
          let reached = up_to f form ys j (numbers number c) w.other_chain cut_at (bounds_of number next) at in
          record {
            own = w.own;
            other_chain = w.other_chain;
            cut_is = after;
            passed = λ n t early. (let to : n ≤ number c.1 = reached n t early in omega arith);
            few = omega arith;
            valid = w.valid;
          }

      -- the part of the rest before the cut is kept
      pub walk_decides : {made : List B} → IsBelowPushed f form (numbers number b) (number c.0) out made
          → IsDecided f form (IsLeft f xs ys) (numbers number b) (number c.0) out made
      walk_decides {made} pushed =
          let ordered = w.own.rest_is.ordered in
          elim pushed [
            | inl (le, same) ↦ rw same record {
              edge = number b.0;
              kept = w.own.kept;
              few = omega arith;
              begins = le_refl _;
              ends = omega arith;
              meets = inr le;
              before = inr refl;
            }
            | inr (y, part, new, is) ↦
                let piece = keeps_piece w.own y new part.begins part.ordered part.ends.0 (λ n from to. (
                  rest_covers w.own n from (omega arith),
                  λ t. (let less : n < number b.0 = w.passed n t (omega arith) in omega arith),
                )) in
                rw is record {
                  edge = (f y).1 + 1;
                  kept = piece.0;
                  few = piece.1;
                  begins = omega arith;
                  ends = omega arith;
                  meets = elim part.ends.2 [ inl end ↦ inl (omega arith) | inr end ↦ inr (omega arith) ];
                  before = inl (omega arith);
                }
          ]

      module _ {made : List B} (d : IsDecided f form (IsLeft f xs ys) (numbers number b) (number c.0) out made) where
        -- the cut removes what is left of the rest, and the next block of the chain is at hand
        pub walk_next : (next : Option (I × I)) → number b.1 ≤ number c.1 → HoldsBlock f number last xs (i + 1) next
            → IfSome next (λ b. (first ≤ number b.0) × (number b.1 ≤ last))
            → Walk f form number first last xs ys (i + 1) next j (Some c) made
        walk_next next ends after valid =
            let few = w.few in
            let more = d.few in
            let meets = d.meets in
            let at = IsAt-from f number last xs (i + 1) next after in
            let p = w.own.rest_is in
            let before = before_next f form xs i (p.start, number b.1) w.own.chain (block_at w.own)
            (bounds_of number next) at in
            record {
              own = keeps_next w.own d.edge (bounds_of number next) d.begins d.ends
                  (λ n late within s. s.1 (taken n (omega arith) (omega arith))) d.kept at;
              other_chain = w.other_chain;
              cut_is = w.cut_is;
              passed = λ n t early. (let less : n < number b.0 = w.passed n t early in
                  let ordered = p.ordered in before n (omega arith));
              few = omega arith;
              valid = valid;
            }

        -- the rest goes on behind the cut, and the next cut is at hand
        pub walk_cut : (from : I) (next : Option (I × I)) → number b.0 ≤ number c.1 → number c.1 < number b.1
            → number from ≡ number c.1 + 1 → HoldsBlock f number last ys (j + 1) next
            → Walk f form number first last xs ys i (Some (from, b.1)) (j + 1) next made
        walk_cut from next reaches beyond is after =
            let few = w.few in
            let more = d.few in
            let meets = d.meets in
            let early = d.before in
            let valid = w.valid in
            let p = w.own.rest_is in
            let begins = p.begins in
            let ordered = ordered_at f form ys j (numbers number c) w.other_chain cut_at in
            let at = IsAt-from f number last ys (j + 1) next after in
            let reached = up_to f form ys j (numbers number c) w.other_chain cut_at (bounds_of number next) at in
            record {
              own = record {
                chain = w.own.chain;
                rest_is = record {
                  start = p.start;
                  within = p.within;
                  block = p.block;
                  begins = omega arith;
                  ordered = omega arith;
                };
                own = λ n s. inr s.0;
                apart = λ n t. (let s = (d.kept.covers n).0 t in omega arith);
                kept = gathered_as d.kept (λ n. n < number from) (λ n s. (
                  λ less. omega arith,
                  λ less. elim (cases_lt n d.edge) [
                    | inl before ↦ before
                    | inr late ↦ absurd (s.1 (taken n (omega arith) (omega arith)))
                  ],
                ));
              };
              other_chain = w.other_chain;
              cut_is = after;
              passed = λ n t soon. (let to : n ≤ number c.1 = reached n t soon in omega arith);
              few = omega arith;
              valid = (omega arith, valid.1);
            }

    -- without a rest all is decided
    pub walk_done : {cut : Option (I × I)} → Walk f form number first last xs ys i None j cut out
        → IsChainOf f form (IsLeft f xs ys) out
    walk_done w = keeps_done w.own

    module _ {b : I × I} (w : Walk f form number first last xs ys i (Some b) j None out) where
      -- without a cut the rest is behind what was kept
      pub walk_behind : IsBehind f form last out (numbers number b)
      walk_behind = record {
        chain = w.own.kept.chain;
        ordered = w.own.rest_is.ordered;
        to_last = w.valid.1;
        apart = λ k d lt. w.own.apart _ (Covers-at f out k _ d lt (w.own.kept.chain.ordered k d lt, le_refl _));
      }

      -- it is kept then, and so are the blocks after it
      pub walk_rest : {E : Type 0} (r : Result (List B) E)
          → IfOk r (IsChainOf f form (λ n. Covers f out n ⊎ (Covers f xs n × (number b.0 ≤ n))))
          → IfOk r (IsChainOf f form (IsLeft f xs ys))
      walk_rest r = IfOk-weaker r _ _ (chain_of_same f form _ (IsLeft f xs ys) (λ n.
          let kept = w.own.kept.covers n in
          let passed : Covers f ys n → n < number b.0 = λ t. w.passed n t tt in
          grind (arith, cases_lt)))

      -- in no more blocks than both chains have
      pub walk_few : {E : Type 0} (r : Result (List B) E)
          → IfOk r (λ made. length made ≤ length out + (length xs - i))
          → IfOk r (λ made. length made ≤ length xs + length ys)
      walk_few r = IfOk-weaker r _ _ (λ made few.
          let so_far = w.few in
          let within = w.own.rest_is.within in
          let end : j ≡ length ys = w.cut_is in
          omega arith)
