-- The order of VRPs is total, and VRPs tie in it exactly where they are the same.
use Rattle.roa_origin.proofs.Common.{Bool, IsTrue, ap, arith, subst, true, ◌&&◌, ◌==◌, ◌↔◌, ◌≡◌, ◌≢◌, ◌⊎◌, and_parts}
use Rattle.roa_origin.proofs.Common.{eq-eqb, eqb-true, IsTotalOrder, nat_cmp, ordering_reverse, Ordering, Equal}
use Rattle.roa_origin.proofs.Common.{Greater, Less, MaxLenValue, max_len_cmp, Vrp, vrp_cmp}
use Rattle.std.proofs.lemmas.Cmp.{nat_cmp_total, on_total, then_total, tied_itself}
use Rattle.std.proofs.lemmas.Map.Lookups.{exact_pairs, exact_unsigned}
use Rattle.std.specs.Ordering.{is_eq, is_lt}
use Rattle.rpki_prefix.proofs.PrefixOrderLemmas.{max_len_one_place, max_len_total}

pub total : IsTotalOrder vrp_cmp
total = then_total (on_total (λ p. p.0) max_len_total) (on_total (λ p. p.1) nat_cmp_total)

-- what is less isn't greater
pub not_back : {X : Type 0} {R : X → X → Ordering} → IsTotalOrder R → (x y : X) → R x y ≡ Less → R y x ≢ Less
not_back is_total x y less back = let turned = ap ordering_reverse back in let is = is_total.antisymm x y in cc

-- which of the three two VRPs are
pub cases_ordering : (o : Ordering) → (o ≡ Less) ⊎ ((o ≡ Equal) ⊎ (o ≡ Greater))
cases_ordering o = grind (arith)

pub ties : (p q : Vrp) → (vrp_cmp p q ≡ Equal) ↔ (p ≡ q)
ties p q = (
  exact_pairs max_len_cmp nat_cmp (λ m n. (max_len_one_place m n).0) exact_unsigned p q,
  λ e. subst (λ (r : Vrp). vrp_cmp p r ≡ Equal) e (tied_itself total p),
)

pub less_of : (o : Ordering) → is_lt o ≡ true → o ≡ Less
less_of o e = grind (arith)

pub equal_of : (o : Ordering) → is_eq o ≡ true → o ≡ Equal
equal_of o e = grind (arith)

-- VRPs are equal where they are the same
pub equal_where_the_same : {eq : MaxLenValue → MaxLenValue → Bool} → ((m n : MaxLenValue) → IsTrue (eq m n) ↔ (m ≡ n))
    → (p q : Vrp) → IsTrue (eq p.0 q.0 && (p.1 == q.1)) ↔ (p ≡ q)
equal_where_the_same same p q = grind (arith, and_parts, eq-eqb, eqb-true)
