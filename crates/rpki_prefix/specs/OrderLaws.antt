-- Lemmas: prefixes tie in the order if and only if they are equal.
use Rattle.std.proofs.Common.{◌≡◌, ℕ, ◌+◌, ◌-◌, ◌^◌, ◌<◌, Bool, false, ◌&&◌, eqb, sym, ◌∙◌, ap, refl, arith, inl, inr}
use Rattle.std.proofs.Common.{Option, Some, None}
use Rattle.std.proofs.lemmas.Bool.{cases_eq, cases_order, eq-eqb, ne_eqb, lt-ltb, le-ltb, and_right}
use Rattle.std.proofs.lemmas.Nat.{pow_pos}
use Rattle.std.specs.declared.cmp.Ordering.{Ordering}
use Rattle.std.specs.declared.cmp.Ordering.TheVariants.{Less, Equal, Greater}
use Rattle.std.specs.Option.{option_eq, option_cmp}
use Rattle.std.specs.Ordering.{is_eq, nat_cmp, ordering_then}
use Rattle.rpki_addr.specs.declared.addr.IpAddr.{IpAddr}
use Rattle.rpki_addr.specs.declared.addr.IpAddr.TheVariants.{V4, V6}
use Rattle.rpki_prefix.specs.MaxLen.{MaxLenValue, max_len_cmp}
use Rattle.rpki_prefix.specs.Order.{prefix_cmp}
use Rattle.rpki_prefix.specs.Values.{FamilyPrefix}

-- a test of whether two addresses are the same
pub record IsSameAddress (test : IpAddr → IpAddr → Bool) : Type 0 where
  pub of_v4 : (m n : ℕ) → test (V4 m) (V4 n) ≡ eqb m n
  pub of_v6 : (m n : ℕ) → test (V6 m) (V6 n) ≡ eqb m n
  pub v4_v6 : (m n : ℕ) → test (V4 m) (V6 n) ≡ false
  pub v6_v4 : (m n : ℕ) → test (V6 m) (V4 n) ≡ false

-- two comparisons one after the other tie if and only if each ties
is_eq_then : (a b : Ordering) → is_eq (ordering_then a b) ≡ (is_eq a && is_eq b)
is_eq_then Less b = refl
is_eq_then Equal b = refl
is_eq_then Greater b = refl

-- numbers tie if and only if they are equal
is_eq_nat : (x y : ℕ) → is_eq (nat_cmp x y) ≡ eqb x y
is_eq_nat x y = elim (cases_order x y) [
  | inl e ↦ rw (le-ltb x y (omega arith), eq-eqb x y e) refl
  | inr (inl l) ↦ rw (lt-ltb x y l, ne_eqb x y (λ e. omega arith)) refl
  | inr (inr g) ↦ rw (le-ltb x y (omega arith), ne_eqb x y (λ e. omega arith)) refl
]

-- the test of equality with its arguments exchanged
eq_turned : (x y : ℕ) → eqb x y ≡ eqb y x
eq_turned x y =
    elim (cases_eq x y) [
      | inl e ↦ rw (eq-eqb x y e, eq-eqb y x (sym e)) refl
      | inr n ↦ rw
          (ne_eqb x y n, ne_eqb y x (λ e. n (sym e))) refl
    ]

-- with equal lengths, the first numbers are equal if and only if the last ones are
same_ends : (w a b k l : ℕ) → (eqb a b && eqb k l) ≡ (eqb (a + 2 ^ (w - k) - 1) (b + 2 ^ (w - l) - 1) && eqb l k)
same_ends w a b k l = elim (cases_eq k l) [
  | inr n ↦ rw (ne_eqb k l n, ne_eqb l k (λ e. n (sym e)))
      (and_right (eqb a b) false refl ∙ sym (and_right (eqb (a + 2 ^ (w - k) - 1) (b + 2 ^ (w - l) - 1)) false refl))
  | inl e ↦ (
      let p : 2 ^ (w - k) ≡ 2 ^ (w - l) = ap (λ x. 2 ^ (w - x)) e in
      let q : 0 < 2 ^ (w - l) = pow_pos (w - l) in
      elim (cases_eq a b) [
        | inl f ↦ rw (
          eq-eqb a b f,
          eq-eqb k l e,
          eq-eqb l k (sym e),
          eq-eqb (a + 2 ^ (w - k) - 1) (b + 2 ^ (w - l) - 1)
              (omega arith),
        ) refl
        | inr n ↦ rw (ne_eqb a b n, ne_eqb (a + 2 ^ (w - k) - 1) (b + 2 ^ (w - l) - 1) (λ g. n (omega arith))) refl
      ])
]

-- within a family, the keys of the order are equal if and only if the first numbers and the lengths are
same_keys : (w a b k l : ℕ)
    → (eqb a b && eqb k l) ≡ is_eq (ordering_then (nat_cmp (a + 2 ^ (w - k) - 1) (b + 2 ^ (w - l) - 1)) (nat_cmp l k))
same_keys w a b k l =
    same_ends w a b k l
    ∙ sym (is_eq_then (nat_cmp (a + 2 ^ (w - k) - 1) (b + 2 ^ (w - l) - 1)) (nat_cmp l k)
    ∙ (λ i. is_eq_nat (a + 2 ^ (w - k) - 1) (b + 2 ^ (w - l) - 1) i && is_eq_nat l k i))

module _ (test : IpAddr → IpAddr → Bool) (is : IsSameAddress test) where
  -- two addresses with lengths tie if and only if both are the same
  ties_at : (a b : IpAddr) (k l : ℕ)
      → (test a b && eqb k l) ≡ is_eq (prefix_cmp (record { addr = a; len = k }) (record { addr = b; len = l }))
  ties_at (V4 m) (V4 n) k l = rw (is.of_v4 m n) (same_keys 32 m n k l)
  ties_at (V6 m) (V6 n) k l = rw (is.of_v6 m n) (same_keys 128 m n k l)
  ties_at (V4 m) (V6 n) k l = rw (is.v4_v6 m n) refl
  ties_at (V6 m) (V4 n) k l = rw (is.v6_v4 m n) refl

  -- prefixes tie if and only if they are equal
  pub prefix_ties : (x y : FamilyPrefix) → (test x.addr y.addr && eqb x.len y.len) ≡ is_eq (prefix_cmp x y)
  prefix_ties x y = ties_at x.addr y.addr x.len y.len

-- optional maximum lengths tie if and only if they are equal
option_ties : (m n : Option ℕ) → option_eq eqb m n ≡ is_eq (option_cmp nat_cmp n m)
option_ties None None = refl
option_ties None (Some y) = refl
option_ties (Some x) None = refl
option_ties (Some x) (Some y) = eq_turned x y ∙ sym (is_eq_nat y x)

module _ (test : IpAddr → IpAddr → Bool) (is : IsSameAddress test) where
  -- prefixes with maximum lengths tie if and only if they are equal
  pub max_len_ties : (x y : MaxLenValue)
      → ((test x.prefix.addr y.prefix.addr && eqb x.prefix.len y.prefix.len) && option_eq eqb x.max_len y.max_len)
      ≡ is_eq (max_len_cmp x y)
  max_len_ties x y =
      rw (
        is_eq_then (prefix_cmp x.prefix y.prefix) (option_cmp nat_cmp y.max_len x.max_len),
        prefix_ties test is
            x.prefix y.prefix,
        option_ties x.max_len y.max_len,
      ) refl
