-- Whether a filter matches a VRP is decided, for any VRP; so those that no filter matches are a filtered list.
use Rattle.roa_slurm.proofs.Common.{Any, Bool, IsTrue, List, [], arith, false, inl, inr, length, get_or, refl}
use Rattle.roa_slurm.proofs.Common.{true, ℕ, ◌++◌, ◌+◌, ◌<◌, ◌∷◌, ◌≡◌, ◌≤◌, ◌↔◌, ◌⊎◌, not, CoversPrefix}
use Rattle.roa_slurm.proofs.Common.{FamilyPrefix, MaxLenValue, address_number, is_v6, ByAsn, ByBoth, ByPrefix}
use Rattle.roa_slurm.proofs.Common.{PrefixFilter, IsApplied, IsRemoved, IsRemovedBy}
use Rattle.std.proofs.Common.{add-one}
use Rattle.std.specs.Prelude.{filter}
use Rattle.std.proofs.Common.{append-nil, cond}
use Rattle.std.proofs.lemmas.List.{take_all}
use Rattle.std.proofs.lemmas.List.Elements.{filter_more}
use Rattle.roa_slurm.proofs.Common.{sym, take, ◌∙◌}
use Rattle.std.proofs.lemmas.Bool.{cases_eq, cases_lt}
use Rattle.rpki_prefix.specs.Order.{last_bits}
use Rattle.rpki_prefix.proofs.PrefixCovering.{covers_round, round_covers}

-- it holds or not
abbrev IsDecided : Type 0 → Type 0
IsDecided P = P ⊎ (¬ P)

-- each condition of a filter holds or fails
decided_le : (a b : ℕ) → IsDecided (a ≤ b)
decided_le a b = elim (cases_lt b a) [ inl above ↦ inr (λ h. absurd (omega arith)) | inr below ↦ inl below ]

decided_same : (a b : Bool) → IsDecided (a ≡ b)
decided_same a b = grind (arith)

decided_both : {P Q : Type 0} → IsDecided P → IsDecided Q → IsDecided (P × Q)
decided_both p q = grind (arith)

decided_covers : (p q : FamilyPrefix) → IsDecided (CoversPrefix p q)
decided_covers p q =
    elim
    (decided_both (decided_same (is_v6 p.addr) (is_v6 q.addr))
    (decided_both (decided_le (address_number p.addr) (address_number q.addr))
    (decided_le (last_bits q) (last_bits p)))) [
      | inl round ↦ inl (covers_round p q (record { family = round.0; from = round.1.0; upto = round.1.1 }))
      | inr other ↦ inr (λ h. let round = round_covers p q h in other (round.family, (round.from, round.upto)))
    ]

decided_by : (vrp : MaxLenValue × ℕ) (one : PrefixFilter) → IsDecided (IsRemovedBy vrp one)
decided_by vrp (ByPrefix prefix) = decided_covers prefix vrp.0.prefix
decided_by vrp (ByAsn asn) = cases_eq vrp.1 asn
decided_by vrp (ByBoth prefix asn) = decided_both (cases_eq vrp.1 asn) (decided_covers prefix vrp.0.prefix)

-- of a list whose first element doesn't have it, the rest does
any_of : {X : Type 0} (P : X → Type 0) (x : X) (xs : List X) → Any P (x ∷ xs) → P x ⊎ Any P xs
any_of P x xs h = grind (arith)

decided_any : {X : Type 0} (P : X → Type 0) → ((x : X) → IsDecided (P x)) → (xs : List X) → IsDecided (Any P xs)
decided_any P each [] = inr (λ h. absurd (omega (arith, h.2)))
decided_any P each (x ∷ xs) =
    elim (each x) [
      | inl has ↦ inl (0, x, omega arith, refl, has)
      | inr other ↦ elim (decided_any P each xs) [
        | inl h ↦ inl (h.0 + 1, h.1, omega (arith, h.2), rw add-one h.3, h.4)
        | inr none ↦ inr (λ h. elim (any_of P x xs h) [ inl has ↦ other has | inr later ↦ none later ])
      ]
    ]

-- the test that a VRP passes if no filter matches it
abbrev is_negative : {P : Type 0} → IsDecided P → Bool
is_negative (inl holds) = false
is_negative (inr other) = true

negative_iff : {P : Type 0} (d : IsDecided P) → IsTrue (is_negative d) ↔ (¬ P)
negative_iff d = grind (arith)

-- whether a VRP stays: no filter matches it
pub stays : List PrefixFilter → MaxLenValue × ℕ → Bool
stays filters vrp = is_negative (decided_any (IsRemovedBy vrp) (decided_by vrp) filters)

pub stays_iff : (filters : List PrefixFilter) (vrp : MaxLenValue × ℕ)
    → IsTrue (stays filters vrp) ↔ (¬ IsRemoved filters vrp)
unfolding stays
stays_iff filters vrp = negative_iff (decided_any (IsRemovedBy vrp) (decided_by vrp) filters)

-- a test that says the negation of being removed is this one
negated_same : {P : Type 0} (removed kept : Bool) → IsTrue removed ↔ P → IsTrue kept ↔ (¬ P) → not removed ≡ kept
negated_same removed kept h k = grind (arith)

pub stays_same : (filters : List PrefixFilter) (vrp : MaxLenValue × ℕ) (removed : Bool)
    → IsTrue removed ↔ IsRemoved filters vrp → not removed ≡ stays filters vrp
stays_same filters vrp removed is = negated_same removed (stays filters vrp) is (stays_iff filters vrp)

-- the next VRP stays if no filter matches it
pub kept_more : (filters : List PrefixFilter) (all kept : List (MaxLenValue × ℕ)) (i : ℕ) (vrp : MaxLenValue × ℕ)
    → i < length all → vrp ≡ get_or all i vrp → kept ≡ filter (stays filters) (take i all) → (removed : Bool)
    → IsTrue removed ↔ IsRemoved filters vrp
    → (removed ≡ false → kept ++ vrp ∷ [] ≡ filter (stays filters) (take (i + 1) all))
    × (removed ≡ true → kept ≡ filter (stays filters) (take (i + 1) all))
kept_more filters all kept i vrp less at had removed is =
    let more = filter_more (stays filters) all i vrp less in
    let here : filter (stays filters) (take (i + 1) all) ≡ kept ++ cond (not removed) (vrp ∷ []) [] =
    more ∙ rw (← at, stays_same filters vrp removed is, ← had) refl in
    ((λ e. sym (rw e at here)), λ e. sym (rw (e, append-nil) at here))

-- those that stay, and then the assertions
pub applied_all : (filters : List PrefixFilter) (assertions all kept after : List (MaxLenValue × ℕ)) (i : ℕ)
    → length all ≤ i → kept ≡ filter (stays filters) (take i all) → after ≡ kept ++ assertions
    → IsApplied filters assertions all after
applied_all filters assertions all kept after i end had is = grind (arith, stays_iff, take_all)
