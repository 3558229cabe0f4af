-- The runs of a set with a bound whose members are decided. So what a claim leaves of a set has runs.
use Rattle.std.proofs.Common.{[], arith, inl, inr, subst, suc, zero, ℕ, ◌+◌, ◌<◌, ◌↔◌, ◌∷◌, ◌≡◌, ◌≤◌, ◌⊎◌}
use Rattle.std.proofs.lemmas.Bool.{cases_lt}
use Rattle.std.proofs.lemmas.List.Elements.{All-cons, All-head, All-tail}
use Rattle.std.proofs.lemmas.List.Kept.{AllPairs-cons}
use Rattle.std.specs.Prelude.{All}
use Rattle.rpki_chain.proofs.Common.{Covers-cons_cases, Covers-head, Covers-tail, IsWithin}
use Rattle.rpki_chain.proofs.RunLists.{Holds-decided, IsRunsOf-same}
use Rattle.rpki_chain.specs.Claims.{Claim}
use Rattle.rpki_chain.specs.Paths.{Leaves}
use Rattle.rpki_chain.specs.Runs.{Holds, IsRunsOf, Runs}
use Rattle.rpki_chain.specs.declared.choice.ResourcesChoice.TheVariants.{Missing, Inherit, Blocks}
use Rattle.rpki_extensions.proofs.OutcomeLemmas.{none_held}

-- one run more holds its numbers more
held_more : (run : ℕ × ℕ) (runs : Runs) (n : ℕ) → Holds (run ∷ runs) n ↔ (IsWithin run n ⊎ Holds runs n)
held_more run runs n = (
  Covers-cons_cases (λ b. b) run runs n,
  λ h. elim h [
    | inl within ↦ Covers-head (λ b. b) run runs n within
    | inr held ↦ Covers-tail (λ b. b) run runs n held
  ],
)

-- a number is above all numbers that runs hold
bounded : (runs : Runs) → (bound : ℕ) × ((n : ℕ) → Holds runs n → n < bound)
bounded [] = (0, λ n h. absurd (none_held n h))
bounded (run ∷ runs) =
    let (bound, below) = bounded runs in (
      run.1 + 1 + bound,
      λ n h. elim ((held_more run runs n).0 h) [
        | inl within ↦ omega (arith, within.1)
        | inr held ↦ omega (arith, below n held)
      ],
    )

-- ---- one number before runs

module _ (S : ℕ → Type 0) (at : ℕ) (has : S at) where
  -- the numbers of S from the number on
  abbrev From : ℕ → Type 0
  From n = S n × (at ≤ n)

  -- and those above it
  abbrev Above : ℕ → Type 0
  Above n = S n × (at + 1 ≤ n)

  -- the number itself, and a number of runs above it
  itself : (n : ℕ) → at ≡ n → From n
  itself n same = (subst S same has, omega (arith, same))

  upper : (n : ℕ) (runs : Runs) → IsRunsOf Above runs → Holds runs n → From n
  upper n runs is held = let above = (is.members n).0 held in (above.0, omega (arith, above.1))

  lower : (n : ℕ) (runs : Runs) → IsRunsOf Above runs → From n → (at ≡ n) ⊎ Holds runs n
  lower n runs is (s, low) = elim (cases_lt at n) [
    | inl above ↦ inr ((is.members n).1 (s, omega (arith, above)))
    | inr beyond ↦ inl (omega (arith, beyond, low))
  ]

  -- as a run of its own
  own_members : (runs : Runs) → IsRunsOf Above runs → (n : ℕ) → Holds ((at, at) ∷ runs) n ↔ From n
  own_members runs is n = (
    λ h. elim ((held_more (at, at) runs n).0 h) [
      | inl within ↦ itself n (omega (arith, within.0, within.1))
      | inr held ↦ upper n runs is held
    ],
    λ h. (held_more (at, at) runs n).1 (elim (lower n runs is h) [
      | inl same ↦ inl (omega (arith, same), omega (arith, same))
      | inr held ↦ inr held
    ]),
  )

  -- in the first run
  longer_members : (run : ℕ × ℕ) (rest : Runs) → IsRunsOf Above (run ∷ rest) → run.0 ≤ run.1 → run.0 ≡ at + 1 → (n : ℕ)
      → Holds ((at, run.1) ∷ rest) n ↔ From n
  longer_members run rest is ordered touches n = (
    λ h. elim ((held_more (at, run.1) rest n).0 h) [
      | inl within ↦ elim (cases_lt at n) [
        | inl above ↦ upper n (run ∷ rest) is ((held_more run rest n).1 (inl (omega (arith, above, touches), within.1)))
        | inr beyond ↦ itself n (omega (arith, beyond, within.0))
      ]
      | inr held ↦ upper n (run ∷ rest) is ((held_more run rest n).1 (inr held))
    ],
    λ h. (held_more (at, run.1) rest n).1 (elim (lower n (run ∷ rest) is h) [
      | inl same ↦ inl (omega (arith, same), omega (arith, same, ordered, touches))
      | inr held ↦ elim ((held_more run rest n).0 held) [
        | inl within ↦ inl (h.1, within.1)
        | inr later ↦ inr later
      ]
    ]),
  )

  first_above : (run : ℕ × ℕ) (rest : Runs) → IsRunsOf Above (run ∷ rest) → run.0 ≤ run.1 → at + 1 ≤ run.0
  first_above run rest is ordered =
      ((is.members run.0).0 ((held_more run rest run.0).1 (inl (omega arith, ordered)))).1

  own_run : (run : ℕ × ℕ) (rest : Runs) → IsRunsOf Above (run ∷ rest) → run.0 ≤ run.1 → at + 1 < run.0
      → IsRunsOf From ((at, at) ∷ run ∷ rest)
  own_run run rest is ordered gap =
      let later : All (λ c. run.1 + 1 < c.0) rest = λ k c lt. is.apart 0 (suc k) c (omega arith) (omega (arith, lt)) in
      record {
        members = own_members (run ∷ rest) is;
        ordered = All-cons (λ b. b.0 ≤ b.1) (at, at) (run ∷ rest) (omega arith) is.ordered;
        apart = AllPairs-cons (λ b c. b.1 + 1 < c.0) (at, at) (run ∷ rest)
            (All-cons (λ c. at + 1 < c.0) run rest gap (λ k c lt. omega (arith, later k c lt, ordered, gap))) is.apart;
      }

  longer_run : (run : ℕ × ℕ) (rest : Runs) → IsRunsOf Above (run ∷ rest) → run.0 ≤ run.1 → run.0 ≡ at + 1
      → IsRunsOf From ((at, run.1) ∷ rest)
  longer_run run rest is ordered touches = record {
    members = longer_members run rest is ordered touches;
    ordered = All-cons (λ b. b.0 ≤ b.1) (at, run.1) rest (omega (arith, ordered, touches))
        (All-tail (λ b. b.0 ≤ b.1) run rest is.ordered);
    apart = AllPairs-cons (λ b c. b.1 + 1 < c.0) (at, run.1) rest
        (λ k c lt. is.apart 0 (suc k) c (omega arith) (omega (arith, lt)))
        (λ i j d lt within. is.apart (suc i) (suc j) d (omega (arith, lt)) (omega (arith, within)));
  }

  one_more : (rest : Runs) → IsRunsOf Above rest → (runs : Runs) × IsRunsOf From runs
  one_more [] is = (
    (at, at) ∷ [],
    record {
      members = own_members [] is;
      ordered = All-cons (λ b. b.0 ≤ b.1) (at, at) [] (omega arith) is.ordered;
      apart = AllPairs-cons (λ b c. b.1 + 1 < c.0) (at, at) [] (λ k c lt. absurd (omega (arith, lt))) is.apart;
    },
  )
  one_more (run ∷ rest) is =
      let ordered = All-head (λ b. b.0 ≤ b.1) run rest is.ordered in
      elim (cases_lt (at + 1) run.0) [
        | inl gap ↦ ((at, at) ∷ run ∷ rest, own_run run rest is ordered gap)
        | inr near ↦
            ((at, run.1) ∷ rest, longer_run run rest is ordered (omega (arith, near, first_above run rest is ordered)))
      ]

-- ---- a set with a bound

module _ (S : ℕ → Type 0) (decided : (n : ℕ) → S n ⊎ (S n → ⊥)) (bound : ℕ) (below : (n : ℕ) → S n → n < bound) where
  -- its numbers from one on
  runs_from : (k at : ℕ) → bound ≤ at + k → (runs : Runs) × IsRunsOf (λ n. S n × (at ≤ n)) runs
  runs_from zero at enough = (
    [],
    record {
      members = λ n. (
        λ h. absurd (none_held n h),
        λ h. absurd (omega (arith, enough, below n h.0, h.1)),
      );
      ordered = λ k c lt. absurd (omega (arith, lt));
      apart = λ i j d lt within. absurd (omega (arith, within));
    },
  )
  runs_from (suc k) at enough =
      let rest = runs_from k (at + 1) (omega (arith, enough)) in
      elim (decided at) [
        | inl has ↦ one_more S at has rest.0 rest.1
        | inr lacks ↦ (
          rest.0,
          IsRunsOf-same rest.0 (λ n. S n × (at + 1 ≤ n)) (λ n. S n × (at ≤ n)) (λ n. (
            λ h. (h.0, omega (arith, h.1)),
            λ h. (
              h.0,
              elim (cases_lt at n) [
                | inl above ↦ omega (arith, above)
                | inr beyond ↦
                    let same : n ≡ at = omega (arith, beyond, h.1) in
                    absurd (lacks (subst S same h.0))
              ],
            ),
          )) rest.1,
        )
      ]

  runs_of_bounded : (runs : Runs) × IsRunsOf S runs
  runs_of_bounded =
      let all = runs_from bound 0 (omega arith) in
      (all.0, IsRunsOf-same all.0 (λ n. S n × (0 ≤ n)) S (λ n. (λ h. h.0, λ h. (h, omega arith))) all.1)

-- ---- what a claim leaves of a set

leaves_decided : (claim : Claim) (n : ℕ) → Leaves claim n ⊎ (Leaves claim n → ⊥)
leaves_decided Missing n = inr (λ h. h)
leaves_decided Inherit n = inl tt
leaves_decided (Blocks runs) n = Holds-decided runs n

both_decided : (A B : Type 0) → A ⊎ (A → ⊥) → B ⊎ (B → ⊥) → (A × B) ⊎ (A × B → ⊥)
both_decided A B (inl a) (inl b) = inl (a, b)
both_decided A B (inr lacks) b = inr (λ h. lacks h.0)
both_decided A B (inl a) (inr lacks) = inr (λ h. lacks h.1)

pub runs_of_left : (set : Runs) (claim : Claim) → (runs : Runs) × IsRunsOf (λ n. Holds set n × Leaves claim n) runs
runs_of_left set claim =
    let (bound, below) = bounded set in
    runs_of_bounded (λ n. Holds set n × Leaves claim n)
    (λ n. both_decided (Holds set n) (Leaves claim n) (Holds-decided set n) (leaves_decided claim n)) bound
    (λ n h. below n h.0)
