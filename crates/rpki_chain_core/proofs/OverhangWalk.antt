-- A walk over two chains that finds the first block of the one that doesn't lie in the other.
use Rattle.rpki_chain_core.proofs.Common.{Bool, IsTrue, List, MatchOption, None, Option, Some, [], ap, arith, drop}
use Rattle.rpki_chain_core.proofs.Common.{get_or}
use Rattle.rpki_chain_core.proofs.Common.{is_some, length, not, refl, subst, sym, ℕ, ⊎_elim, ◌+◌, ◌-◌, ◌<◌, ◌↔◌, ◌∷◌}
use Rattle.rpki_chain_core.proofs.Common.{◌≡◌}
use Rattle.rpki_chain_core.proofs.Common.{◌≤◌, ◌⊎◌, cases_lt, drop_more, get_or_default, nat_tests, Before, Covers}
use Rattle.rpki_chain_core.proofs.Common.{HoldsBlock, IsChain, IsFitIn, IsInside, IsOverhang, IsWithin, Overhang}
use Rattle.rpki_chain_core.proofs.Common.{numbers}
use Rattle.std.specs.Prelude.{Result, ⊤, IfOk, IsOkAnd}
use Rattle.rpki_chain_core.specs.declared.overhang.Fit.TheVariants as fit
use Rattle.rpki_chain_core.specs.Overhang.{EndsWithin}
use Rattle.rpki_chain_core.proofs.Chains.{Covers-at, ascends, element_at}
use Rattle.rpki_chain_core.proofs.WalkSides.{IsAt, IsAt-from, bounds_of, covers_at, gap_before, lies_before, ordered_at}
use Rattle.rpki_text.specs.Memory.{IfRefused}
use Rattle.rpki_text.specs.declared.memory.OrMemory.{OrMemory}

-- what lies in the first i blocks of xs lies in ys too, whose first j blocks end before the next block of xs begins
pub record Passed {B : Type 0} (f : B → ℕ × ℕ) (form : ℕ × ℕ → B) (xs ys : List B) (i j : ℕ) : Type 0 where
  pub own_chain : IsChain f form xs
  pub other_chain : IsChain f form ys
  pub inside : (n : ℕ) → (c : Covers f xs n) → c.0 < i → Covers f ys n
  pub passed : (k : ℕ) (x y : B) → k < j → i < length xs → (f (get_or ys k y)).1 < (f (get_or xs i x)).0

-- nothing was passed yet
pub passed_start : {B : Type 0} {f : B → ℕ × ℕ} {form : ℕ × ℕ → B} {xs ys : List B} → IsChain f form xs
    → IsChain f form ys → Passed f form xs ys 0 0
passed_start own other = grind (arith)

-- the number behind a block at hand lies in no block
behind_it : {B I : Type 0} (f : B → ℕ × ℕ) (form : ℕ × ℕ → B) (number : I → ℕ) (last : ℕ) (ys : List B) (j : ℕ)
    (c : Option (I × I)) → IsChain f form ys → HoldsBlock f number last ys j c
    → MatchOption c ⊤ (λ d. Covers f ys (number d.1 + 1) → ⊥)
behind_it f form number last ys j c h at = grind (arith, cases_lt)

module _ {B : Type 0} {f : B → ℕ × ℕ} {form : ℕ × ℕ → B} {xs ys : List B} {i j : ℕ} (w : Passed f form xs ys i j) where
  -- all of xs was passed
  pub passed_all : length xs ≤ i → IsInside f xs ys
  passed_all end n c = let lt = c.2 in w.inside n c (omega arith)

  module _ {I : Type 0} (number : I → ℕ) (last : ℕ) (b : I × I) (own : HoldsBlock f number last xs i (Some b)) where
    -- the other's blocks up to a place end before the next block
    pub passed_skip : (at : ℕ) → ((k : ℕ) (d : B) → j ≤ k → k < at → (f (get_or ys k d)).1 < number b.0)
        → Passed f form xs ys i at
    passed_skip at short = grind (arith, cases_lt)

    -- the next block lies in a block of the other
    passed_inside : (k : ℕ) (c : I × I) → HoldsBlock f number last ys k (Some c) → IsFitIn number b c fit.Inside
        → Passed f form xs ys (i + 1) j
    passed_inside k c other fits =
        let inside : (n : ℕ) (d : Covers f xs n) → d.0 < i + 1 → Covers f ys n = λ n d lt.
        let way : (d.0 < i) ⊎ IsWithin (numbers number c) n = grind (arith, cases_lt) in
        ⊎_elim (w.inside n d)
        (λ v. covers_at f form ys k (numbers number c) w.other_chain (other.0, other.1) n v.0 v.1) way in
        grind (arith, w.own_chain.apart i (i + 1))

    module _ (c : I × I) (other : HoldsBlock f number last ys j (Some c)) where
      -- the other's next block does
      pub passed_next : IsFitIn number b c fit.Skip → Passed f form xs ys i (j + 1)
      passed_next less = grind (arith, cases_lt)

      -- the next block lies in the other's
      pub passed_fit : IsFitIn number b c fit.Inside → Passed f form xs ys (i + 1) j
      passed_fit fits = passed_inside j c other fits

    module _ (c : Option (I × I)) (other : HoldsBlock f number last ys j c) where
      before_it : (n : ℕ) → Covers f ys n → Before (bounds_of number c) n → n < number b.0
      before_it n d early = grind (arith, cases_lt, IsAt-from f number last ys j c other, w.passed d.0 d.1 d.1)

      -- the next block doesn't lie in the other chain
      leaves_out : (first : ℕ) → first ≤ number b.0
          → (((n : ℕ) → IsWithin (numbers number b) n → Covers f ys n) → ⊥)
          → IsOverhang f number first last xs ys (record { own_at = i; min = b.0; max = b.1; other_at = j; other = c })
      leaves_out first from out =
          let at : IsAt f xs i (Some (numbers number b)) = (own.0, own.1) in
          record {
            own_block = own;
            other_block = other;
            from_first = from;
            inside = λ n d less. w.inside n d
                (lies_before f form xs i (Some (numbers number b)) w.own_chain at n d less);
            passed = before_it;
            outside = out;
          }

      -- no block of the other chain is left, or one that it isn't inside
      pub leaves : (first : ℕ) → first ≤ number b.0 → MatchOption c ⊤ (λ d. IsFitIn number b d fit.Beyond)
          → IsOverhang f number first last xs ys (record { own_at = i; min = b.0; max = b.1; other_at = j; other = c })
      leaves first from beyond =
          let ordered = ordered_at f form xs i (numbers number b) w.own_chain (own.0, own.1) in
          let behind = behind_it f form number last ys j c w.other_chain other in
          leaves_out first from
          (λ all. grind (arith, all (number b.0), before_it (number b.0), all, behind))

-- the block that was read of a list is at hand
pub held_at : {B I : Type 0} (f : B → ℕ × ℕ) (number : I → ℕ) (last : ℕ) (xs : List B) (i : ℕ) (x : B) (b : I × I)
    → i < length xs → x ≡ get_or xs i x → number b.0 ≡ (f x).0 → number b.1 ≡ (f x).1 → number b.1 ≤ last
    → HoldsBlock f number last xs i (Some b)
held_at f number last xs i x b lt is low high to = grind (arith, get_or_default)

-- the walk over two lists holds a block of the other one, and has the rest behind it still to come
pub record Passing {B I : Type 0} (f : B → ℕ × ℕ) (form : ℕ × ℕ → B) (number : I → ℕ) (last : ℕ) (xs ys : List B)
    (i : ℕ) (c : I × I) (rest : List B) : Type 0 where
  pub more : length rest < length ys
  pub behind : drop (length ys - length rest) ys ≡ rest
  pub held : HoldsBlock f number last ys (length ys - length rest - 1) (Some c)
  pub walk : Passed f form xs ys i (length ys - length rest - 1)

-- at first that is the first block
pub passing_start : {B I : Type 0} {f : B → ℕ × ℕ} {form : ℕ × ℕ → B} {number : I → ℕ} {last : ℕ} {xs ys rest : List B}
    {y : B} {c : I × I} → IsChain f form xs → IsChain f form ys → ys ≡ y ∷ rest → number c.0 ≡ (f y).0
    → number c.1 ≡ (f y).1 → number c.1 ≤ last → Passing f form number last xs ys 0 c rest
passing_start own other is low high to =
    let walk = passed_start own other in
    grind (arith)

module _ {B I : Type 0} {f : B → ℕ × ℕ} {form : ℕ × ℕ → B} {number : I → ℕ} {last : ℕ} {xs ys : List B} {i : ℕ}
    {c : I × I} {rest : List B} (w : Passing f form number last xs ys i c rest) (b : I × I)
    (own : HoldsBlock f number last xs i (Some b)) where
  -- the held block ends before the next one of xs, and the one behind it is held
  pub passing_skip : (y : B) (d : I × I) (more : List B) → number c.1 < number b.0 → rest ≡ y ∷ more
      → number d.0 ≡ (f y).0 → number d.1 ≡ (f y).1 → number d.1 ≤ last → Passing f form number last xs ys i d more
  passing_skip y d more less next low high to =
      let walk = passed_next w.walk number last b own c w.held less in
      grind (arith, drop_more ys (length ys - length rest) y, get_or_default)

  -- it has the next one of xs
  pub passing_fit : IsFitIn number b c fit.Inside → Passing f form number last xs ys (i + 1) c rest
  passing_fit fits =
      let walk = passed_fit w.walk number last b own c w.held fits in
      grind (arith)

  -- it ends before that, and none comes behind: the block leaves the other chain
  pub passing_end : (first : ℕ) → first ≤ number b.0 → number c.1 < number b.0 → length rest ≡ 0
      → IsOverhang f number first last xs ys
      (record { own_at = i; min = b.0; max = b.1; other_at = length ys; other = None })
  passing_end first from less none =
      let more = w.more in
      let end : length ys - length rest - 1 + 1 ≡ length ys = omega arith in
      let walk = subst (Passed f form xs ys i) end (passed_next w.walk number last b own c w.held less) in
      leaves walk number last b own None refl first from tt

-- where a block of a chain ends before a number, so do the blocks before it
pub all_before : {B : Type 0} {f : B → ℕ × ℕ} {form : ℕ × ℕ → B} {ys : List B} → IsChain f form ys → (at m : ℕ)
    → at < length ys → ((d : B) → (f (get_or ys at d)).1 < m) → (k : ℕ) (d : B) → k < at + 1
    → (f (get_or ys k d)).1 < m
all_before h at m lt last k d less = grind (arith, cases_lt, h.apart k at, h.ordered at)

-- where the last block of a chain ends no later than another block, so do all
pub ends_by_last : {B : Type 0} {f : B → ℕ × ℕ} {form : ℕ × ℕ → B} {xs : List B} (ys : List B) → IsChain f form xs
    → (i j : ℕ) (x y : B) → i ≡ length xs - 1 → j < length ys → x ≡ get_or xs i x → y ≡ get_or ys j y
    → (f x).1 ≤ (f y).1 → EndsWithin f xs ys
ends_by_last {f = f} {xs = xs} ys h i j x y last within own other le = λ k d lt.
    let short : (f (get_or xs k d)).1 ≤ (f y).1 = grind
    (arith, cases_lt, h.apart k i d, h.ordered i d, get_or_default) in
    (j, y, within, sym other, short)

-- a chain that ends within no blocks has none
pub nothing_ends : {B : Type 0} (f : B → ℕ × ℕ) (xs ys : List B) → ys ≡ [] → EndsWithin f xs ys → IsInside f xs ys
nothing_ends f xs ys none ends n c =
    let e = ends c.0 c.1 c.2 in
    absurd (omega (arith, ap length none, e.2))

-- the blocks behind the first one begin with the next one
pub next_one : {B : Type 0} (xs more : List B) (y : B) → more ≡ drop 1 xs → 0 < length more → y ≡ get_or more 0 y
    → drop 1 xs ≡ y ∷ drop 1 more
next_one xs more y is some first = grind (arith, drop_more more 0 y)

-- the walk holds a block of the other chain, and all blocks of that before it end before the next block of `xs` does
pub record Reaching {B I : Type 0} (f : B → ℕ × ℕ) (form : ℕ × ℕ → B) (number : I → ℕ) (last : ℕ) (xs ys : List B)
    (i : ℕ) (c : I × I) (rest : List B) : Type 0 where
  pub more : length rest < length ys
  pub behind : drop (length ys - length rest) ys ≡ rest
  pub held : HoldsBlock f number last ys (length ys - length rest - 1) (Some c)
  pub walk : Passed f form xs ys i 0
  pub ended : (k : ℕ) (x y : B) → k < length ys - length rest - 1 → i < length xs
      → (f (get_or ys k y)).1 < (f (get_or xs i x)).1

-- at first that is the first block
pub reaching_start : {B I : Type 0} {f : B → ℕ × ℕ} {form : ℕ × ℕ → B} {number : I → ℕ} {last : ℕ} {xs ys rest : List B}
    {y : B} {c : I × I} → IsChain f form xs → IsChain f form ys → ys ≡ y ∷ rest → number c.0 ≡ (f y).0
    → number c.1 ≡ (f y).1 → number c.1 ≤ last → Reaching f form number last xs ys 0 c rest
reaching_start own other is low high to =
    let walk = passed_start own other in
    grind (arith)

module _ {B I : Type 0} {f : B → ℕ × ℕ} {form : ℕ × ℕ → B} {number : I → ℕ} {last : ℕ} {xs ys : List B} {i : ℕ}
    {c : I × I} {rest : List B} (w : Reaching f form number last xs ys i c rest) (b : I × I)
    (own : HoldsBlock f number last xs i (Some b)) where
  -- where the held block ends before the next one of xs does, so does each up to it
  reaching_ended : number c.1 < number b.1 → (k : ℕ) (x y : B) → k < length ys - length rest → i < length xs
      → (f (get_or ys k y)).1 < (f (get_or xs i x)).1
  reaching_ended less k x y lt = grind (arith, cases_lt)

  -- then the one behind it is held
  pub reaching_skip : (y : B) (d : I × I) (more : List B) → number c.1 < number b.1 → rest ≡ y ∷ more
      → number d.0 ≡ (f y).0 → number d.1 ≡ (f y).1 → number d.1 ≤ last → Reaching f form number last xs ys i d more
  reaching_skip y d more less next low high to =
      let walk = w.walk in
      let ended = reaching_ended less in
      grind (arith, drop_more ys (length ys - length rest) y, get_or_default)

  -- there is one behind it, if the other chain ends no earlier than xs
  pub reaching_more : EndsWithin f xs ys → number c.1 < number b.1 → 0 < length rest
  reaching_more ends less =
      let x = (element_at xs i own.0).0 in
      let e = ends i x own.0 in
      let more = w.more in
      let ended = reaching_ended less e.0 x x in
      grind (arith, get_or_default)

  -- it has the next one of xs
  pub reaching_fit : IsFitIn number b c fit.Inside → Reaching f form number last xs ys (i + 1) c rest
  reaching_fit fits =
      let walk = passed_inside w.walk number last b own (length ys - length rest - 1) c w.held fits in
      let further = λ (d : B). w.walk.own_chain.apart i (i + 1) d in
      let ordered = λ (d : B). w.walk.own_chain.ordered (i + 1) d in
      grind (arith)

  -- it begins behind where the next one of xs does, and ends no earlier: that one leaves the other chain
  pub reaching_leaves : (first at : ℕ) (d : I × I) → first ≤ number b.0 → number b.0 < number c.0
      → number b.1 ≤ number c.1 → HoldsBlock f number last ys at (Some d)
      → ((k : ℕ) (e : B) → k < at → (f (get_or ys k e)).1 < number b.0)
      → IsOverhang f number first last xs ys
      (record { own_at = i; min = b.0; max = b.1; other_at = at; other = Some d })
  reaching_leaves first at d from late reaches holds short =
      let j : ℕ = length ys - length rest - 1 in
      let held : IsAt f ys j (Some (numbers number c)) = (w.held.0, w.held.1) in
      let ordered = ordered_at f form xs i (numbers number b) w.walk.own_chain (own.0, own.1) in
      let walk = passed_skip w.walk number last b own at (λ k e from lt. short k e lt) in
      let out : ((n : ℕ) → IsWithin (numbers number b) n → Covers f ys n) → ⊥ = λ all.
      let last_one = all (number b.1) (omega arith, omega arith) in
      let x = (element_at xs i own.0).0 in
      let place = cases_lt last_one.0 j in
      let ended = w.ended last_one.0 x last_one.1 in
      let begins : number c.0 ≤ number b.1 = grind
      (arith, ascends f form ys w.walk.other_chain j last_one.0 last_one.1, get_or_default) in
      let gap = gap_before f form ys j (numbers number c) w.walk.other_chain held (number c.0 - 1)
      (all (number c.0 - 1) (omega arith, omega arith)) (omega arith) in
      omega arith in
      leaves_out walk number last b own (Some d) holds first from out

module _ {B I : Type 0} (f : B → ℕ × ℕ) (form : ℕ × ℕ → B) (number : I → ℕ) (first last : ℕ) (xs ys : List B) where
  -- then not all of the chain lies in the other
  pub overhang-not_inside : (o : Overhang I) → IsOverhang f number first last xs ys o → IsInside f xs ys → ⊥
  overhang-not_inside o h all =
      let x = (element_at xs o.own_at h.own_block.0).0 in
      h.outside (λ n within. all n (Covers-at f xs o.own_at n x h.own_block.0 (rw (h.own_block.1 x) within)))

  -- none is found exactly where all of it does
  pub none_leaves : (found : Option (Overhang I)) (none : Bool) → is_some found ≡ not none
      → MatchOption found (IsInside f xs ys) (IsOverhang f number first last xs ys) → IsTrue none ↔ IsInside f xs ys
  none_leaves found none e h = grind (arith, nat_tests, overhang-not_inside)

-- what is right of the chain that was made is right of the refusal with it
pub refused_is : {X E : Type 0} (P : X → Type 0) (made : Result X E) (refused : OrMemory X)
    → IfRefused (λ shared. IsOkAnd made (λ chain. shared ≡ chain)) refused → IfOk made P → IfRefused P refused
refused_is P made refused is h = grind arith
