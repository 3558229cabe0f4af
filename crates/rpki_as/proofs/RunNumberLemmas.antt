-- Lists of numbers: those of runs, one after the other.
use Rattle.rpki_as.proofs.Common.{List, None, Option, Some, [], ap, arith, get_or, inl, inr, length, suc, zero, ℕ}
use Rattle.rpki_as.proofs.Common.{⊎_elim, ◌++◌, ◌+◌, ◌-◌, ◌<◌, ◌↔◌, ◌∙◌, ◌∷◌, ◌≡◌, ◌≤◌, ◌⊎◌, cases_lt}
use Rattle.rpki_as.proofs.Common.{get_or-append_right, get_or_append_left, length-append, All-tail}
use Rattle.rpki_as.proofs.Common.{Contains-append_cases, Contains-append_left, Contains-append_right, Contains-get_or}
use Rattle.rpki_as.proofs.Common.{All, AllPairs, flat_map, IsListOf-numbers_within, length-numbers_within, as_bounds}
use Rattle.rpki_as.proofs.Common.{IsListOf, IsSizeOf, numbers_within, AsBlock, Holds, Runs, IsWithin}
use Rattle.std.specs.Iterator.{YieldsFirst}
use Rattle.rpki_chain_core.proofs.Chains.{Covers-nil}
use Rattle.rpki_chain_core.proofs.UniqueChain.{Covers-head, Covers-tail, Covers-cons_cases}

-- two sets of which the one lies below the other: its list stands first
IsListOf-append : (S U : ℕ → Type 0) (ms ns : List ℕ) → IsListOf S ms → IsListOf U ns → ((m n : ℕ) → S m → U n → m < n)
    → IsListOf (λ n. S n ⊎ U n) (ms ++ ns)
IsListOf-append S U ms ns h k apart = record {
  members = λ n. (
    λ c. ⊎_elim (λ m. inl ((h.members n).0 m)) (λ m. inr ((k.members n).0 m)) (Contains-append_cases ms ns n c),
    ⊎_elim (λ s. Contains-append_left ms ns n ((h.members n).1 s))
        (λ u. Contains-append_right ms ns n ((k.members n).1 u)),
  );
  ascending = λ i j d below small.
      let there = j - length ms in
      let first = λ (l : i < length ms). (h.members (get_or ms i d)).0 (Contains-get_or ms i d l) in
      let second = λ (l : there < length ns). (k.members (get_or ns there d)).0 (Contains-get_or ns there d l) in
      grind (
        arith,
        length-append ms ns,
        cases_lt i (length ms),
        cases_lt j (length ms),
        get_or_append_left ms ns d,
        get_or-append_right ms ns (length ms),
        h.ascending i j d,
        k.ascending (i - length ms) there d,
        apart (get_or ms i d) (get_or ns there d),
        first,
        second,
      );
}

-- the same numbers have the same list
pub IsListOf-same : (S U : ℕ → Type 0) (ns : List ℕ) → ((n : ℕ) → S n ↔ U n) → IsListOf S ns → IsListOf U ns
IsListOf-same S U ns same h = grind arith

-- the numbers of runs, run by run
pub runs_listed : (runs : Runs) → All (λ b. b.0 ≤ b.1) runs → AllPairs (λ b c. b.1 + 1 < c.0) runs
    → IsListOf (Holds runs) (flat_map numbers_within runs)
runs_listed [] ordered apart = grind (arith, Covers-nil)
runs_listed (b ∷ runs) ordered apart =
    let rest = runs_listed runs (All-tail (λ (x : ℕ × ℕ). x.0 ≤ x.1) b runs ordered)
    (λ i j d below small. apart (suc i) (suc j) d (omega arith) (omega arith)) in
    IsListOf-same _ _ _ (λ n. (
      ⊎_elim (Covers-head (λ x. x) b runs n) (Covers-tail (λ x. x) b runs n),
      Covers-cons_cases (λ x. x) b runs n,
    )) (IsListOf-append (IsWithin b) (Holds runs) (numbers_within b) (flat_map numbers_within runs)
    (IsListOf-numbers_within b) rest (λ m n within (k, c, small, here, w).
    let far : b.1 + 1 < (get_or runs k c).0 = apart 0 (suc k) c (omega arith) (omega arith) in
    let begins = ap (λ (x : ℕ × ℕ). x.0) here in
    omega (arith, within.1, w.0)))

-- numbers that ascend are no fewer than their places
at_least : (ns : List ℕ) (i d : ℕ) → AllPairs (λ m n. m < n) ns → i < length ns → i ≤ get_or ns i d
at_least ns zero d ascending small = omega arith
at_least ns (suc i) d ascending small = grind (arith, at_least ns i d ascending (omega arith))

-- so a set of numbers below a limit has at most so many
pub size_below : (limit : ℕ) (S : ℕ → Type 0) (k : ℕ) → IsSizeOf S k → ((n : ℕ) → S n → n < limit) → k ≤ limit
size_below limit S zero h below = omega arith
size_below limit S (suc k) h below =
    let long = h.size in
    let last = at_least h.list k 0 h.is_list.ascending (omega arith) in
    let held : S (get_or h.list k 0) = (h.is_list.members _).0 (Contains-get_or h.list k 0 (omega arith)) in
    let small = below _ held in
    omega arith

-- a step at the numbers of a block is one at those of it and of later ones
pub numbers_step : (o : Option ℕ) (old new rest : List ℕ) (x : AsBlock) → (as_bounds x).0 ≤ (as_bounds x).1
    → YieldsFirst (λ (ns : List ℕ). ns) (numbers_within (as_bounds x)) o new
    → old ≡ numbers_within (as_bounds x) ++ rest → YieldsFirst (λ (ns : List ℕ). ns) old o (new ++ rest)
numbers_step None old new rest x ordered none is =
    absurd (let long = length-numbers_within (as_bounds x) in let empty = ap length none.0 in omega arith)
numbers_step (Some n) old new rest x ordered first is = is ∙ ap (λ (ns : List ℕ). ns ++ rest) first
