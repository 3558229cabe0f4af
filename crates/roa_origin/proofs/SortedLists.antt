-- Lists in order: whether one has an element, and what is sorted and freed of duplicates.
use Rattle.roa_origin.proofs.Common.{AllPairs, Bool, Contains, IsTrue, List, [], arith, inr, refl, ◌↔◌, ◌∷◌, ◌≡◌, ◌⊎◌}
use Rattle.roa_origin.proofs.Common.{Contains-dedup, Contains-from_dedup, IsStrictlySortedBy-dedup}
use Rattle.roa_origin.proofs.Common.{Contains-permutation, IsPermutation-sym, IsEquivalence, IsTotalOrder}
use Rattle.roa_origin.proofs.Common.{IsPermutation, IsSorted, eq_by_cmp, Ordering, Equal, Less}
use Rattle.std.proofs.lemmas.List.Filters.{dedup_is}
use Rattle.std.proofs.lemmas.Map.Keys.{Less-from_sorted}
use Rattle.std.specs.List.Retain.{IsFiltered, DiffersFromLast}
use Rattle.roa_origin.proofs.ListMembers.{cons_cases, here, no_member, there}
use Rattle.roa_origin.proofs.VrpOrder.{cases_ordering}

-- a list without elements is empty
pub nothing : {X : Type 0} (xs : List X) → ((x : X) → ¬ Contains xs x) → xs ≡ []
nothing [] none = refl
nothing (x ∷ xs) none = absurd (none x (here x xs))

-- what stays of what had something, and what is new, is what has it next
pub only_next : {Had Has New Gone Then : Type 0} → Had ⊎ ¬ Had → Has ⊎ ¬ Has → New ↔ (Has × ¬ Had)
    → Gone ↔ (Had × ¬ Has) → Then ↔ ((Had × ¬ Gone) ⊎ New) → Then ↔ Has
only_next had has new gone next = ((λ h. grind (arith, next.0 h)), λ h. next.1 (grind (arith)))

module _ {X : Type 0} (R : X → X → Ordering) (total : IsTotalOrder R)
    (ties : (x y : X) → (R x y ≡ Equal) ↔ (x ≡ y)) where
  -- a list has an element or hasn't
  pub decide : (xs : List X) (p : X) → Contains xs p ⊎ ¬ Contains xs p
  decide [] p = inr (no_member p)
  decide (x ∷ xs) p =
      grind (arith, cases_ordering (R x p), cons_cases x xs p, here x xs, there x xs p, ties x p, decide xs p)

  -- ---- sorted and freed of duplicates

  module _ (equal : X → X → Bool) (same : (x y : X) → IsTrue (equal x y) ↔ (x ≡ y)) where
    decided : (x y : X) → equal x y ≡ eq_by_cmp R x y
    decided x y = grind (arith)

    -- what is left is in order, each once
    pub ascending : (sorted left : List X) → IsSorted R sorted → IsFiltered (DiffersFromLast equal) [] sorted left
        → AllPairs (λ x y. R x y ≡ Less) left
    ascending sorted left ascends filtered i j d less small =
        let strict = IsStrictlySortedBy-dedup total decided sorted ascends in
        Less-from_sorted R left i j d (rw (dedup_is equal sorted left filtered) strict) less small

    -- and has the elements of the list
    pub members : (list sorted left : List X) → IsPermutation list sorted
        → IsFiltered (DiffersFromLast equal) [] sorted left → (p : X) → Contains left p ↔ Contains list p
    members list sorted left moved filtered p =
        let equivalence : IsEquivalence equal = grind (arith) in
        let on = Contains-permutation list sorted p moved in
        let back = Contains-permutation sorted list p (IsPermutation-sym list sorted moved) in
        let there = Contains-dedup equivalence (λ x y e. (same x y).0 e) sorted p in
        rw (dedup_is equal sorted left filtered) ((λ h. back (Contains-from_dedup equal sorted p h)), λ h. there (on h))
