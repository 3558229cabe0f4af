-- Of the prefixes that cover a prefix, those cover a route whose length is below a limit. The limit tells how many
-- first bits the prefix and the route have in common.
use Rattle.roa_origin.proofs.Common.{ap, arith, inl, inr, suc, sym, ℕ, ◌*◌, ◌+◌, ◌-◌, ◌/◌, ◌<◌, ◌↔◌, ◌^◌, ◌∙◌, ◌≡◌, ◌≤◌}
use Rattle.roa_origin.proofs.Common.{cases_lt, le-div, pow_pos, CoversPrefix, FamilyPrefix, IsFamilyPrefix}
use Rattle.roa_origin.proofs.Common.{address_number, is_v6, width}
use Rattle.std.proofs.Common.{◌%◌}
use Rattle.std.proofs.Math.Nat.{div-eq_of_lt, div-lt_iff_lt-mul, div-mul-le_self, lt-div-mul-add, pow-le-pow_right}
use Rattle.std.proofs.Math.Nat.{two-pow-succ}
use Rattle.std.proofs.lemmas.Nat.{leading_length, shr_split, xor_lt, xor_of_32, xor_shr}
use Rattle.std.specs.Int.Bits.{bit_xor, xor_assoc, xor_self, xor_zero_l, xor_zero_r}
use Rattle.std.specs.Int.Count.{count_leading_zeros}
use Rattle.rpki_addr.proofs.WidthLemmas.{width_small}
use Rattle.roa_origin.proofs.NestedRoutes.{begins_inside, covers_inside, number_small, same_width, starts_by}
use Rattle.roa_origin.proofs.OrderNumbers.{covers_len}
use Rattle.roa_origin.specs.Vrps.{IsCoveringLimit}

-- ---- numbers with the same first bits

-- numbers that differ in no bit are the same
same_number : (a b : ℕ) → bit_xor a b ≡ 0 → a ≡ b
same_number a b e =
    sym (xor_zero_r a) ∙ ap (λ x. bit_xor a x) (sym e) ∙ sym (xor_assoc a a b) ∙ ap (λ x. bit_xor x b) (xor_self a)
    ∙ xor_zero_l b

-- numbers are the same before the last k bits exactly where they differ in those bits alone
same_before : (k a b : ℕ) → (a / 2 ^ k ≡ b / 2 ^ k) ↔ (bit_xor a b < 2 ^ k)
same_before k a b = (
  (λ e.
      let none : bit_xor a b / 2 ^ k ≡ 0 = rw (xor_shr a b k, e) (xor_self (b / 2 ^ k)) in
      let less : bit_xor a b < bit_xor a b / 2 ^ k * 2 ^ k + 2 ^ k = lt-div-mul-add (pow_pos k) in
      omega (arith, rw none at less)),
  (λ less. same_number (a / 2 ^ k) (b / 2 ^ k) (sym (xor_shr a b k) ∙ div-eq_of_lt less)),
)

-- a number is below a power of 2 exactly where it has enough zeros in front
zeros_before : (w k x : ℕ) → x < 2 ^ w → (x < 2 ^ k) ↔ (w ≤ count_leading_zeros w x + k)
zeros_before w k x below = (
  (λ less. elim (cases_lt k t.0) [
    | inl more ↦ absurd (
        let whole : 2 ^ suc k ≤ 2 ^ t.0 = pow-le-pow_right {n = 2} (omega arith) (omega (arith, more)) in
        let twice : 2 ^ suc k ≡ 2 ^ k + 2 ^ k = two-pow-succ k in
        omega (arith, whole, twice, less, t.3))
    | inr few ↦ omega (arith, few, t.1)
  ]),
  (λ few.
      let fits : 2 ^ t.0 ≤ 2 ^ k = pow-le-pow_right {n = 2} (omega arith) (omega (arith, few, t.1)) in
      omega (arith, fits, t.2)),
)
  where
    t : (m : ℕ) × (count_leading_zeros w x + m ≡ w) × (x < 2 ^ m) × (2 ^ m ≤ 2 * x + 1)
    t = leading_length w x below

-- numbers of 32 bits differ in none of the first 96 of 128 bits
pub zeros_of_v4 : (a b : ℕ) → a < 2 ^ 32 → b < 2 ^ 32 → 96 ≤ count_leading_zeros 128 (bit_xor a b)
zeros_of_v4 a b small other =
    let below : bit_xor a b < 2 ^ 32 = xor_of_32 a b small other in
    omega (arith, (zeros_before 128 32 (bit_xor a b) (omega (arith, below))).0 below)

-- a number lies in a block exactly where its first bits are those of the block
in_block : (k a n : ℕ) → a % 2 ^ k ≡ 0 → ((a ≤ n) × (n < a + 2 ^ k)) ↔ (a / 2 ^ k ≡ n / 2 ^ k)
in_block k a n aligned =
    let start : a ≡ a / 2 ^ k * 2 ^ k = omega (arith, shr_split a k, aligned) in
    let from : n / 2 ^ k * 2 ^ k ≤ n = div-mul-le_self n (2 ^ k) in
    let to : n < n / 2 ^ k * 2 ^ k + 2 ^ k = lt-div-mul-add (pow_pos k) in
    grind (arith, le-div, div-lt_iff_lt-mul, pow_pos)

-- ---- prefixes

-- a prefix covers one of its family that is no shorter and has its first bits
covers_by_bits : (q r : FamilyPrefix) → IsFamilyPrefix q → IsFamilyPrefix r → is_v6 q.addr ≡ is_v6 r.addr
    → CoversPrefix q r ↔ ((q.len ≤ r.len)
    × (address_number q.addr / 2 ^ (width q.addr - q.len) ≡ address_number r.addr / 2 ^ (width q.addr - q.len)))
covers_by_bits q r is is' family =
    let block = in_block (width q.addr - q.len) (address_number q.addr) (address_number r.addr) is.aligned in
    grind (arith, begins_inside, covers_inside, covers_len, starts_by)

-- of the prefixes that cover p, those cover a route of its family that are no longer than the first bits that both have
-- in common, and no longer than the route
pub limit_by_bits : (p r : FamilyPrefix) (shared : ℕ) → IsFamilyPrefix p → IsFamilyPrefix r
    → is_v6 p.addr ≡ is_v6 r.addr
    → let zeros = count_leading_zeros 128 (bit_xor (address_number p.addr) (address_number r.addr)) in
    ((l : ℕ) → l ≤ width p.addr → (l ≤ shared) ↔ ((l ≤ r.len) × (l + (128 - width p.addr) ≤ zeros)))
    → IsCoveringLimit p r (shared + 1)
limit_by_bits p r shared is is' family least q is'' covers =
    let k = width q.addr - q.len in
    let x = bit_xor (address_number p.addr) (address_number r.addr) in
    let below : x < 2 ^ 128 = xor_lt 128 _ _ (number_small p is) (number_small r is') in
    let one = (covers_by_bits q p is'' is covers.family).0 covers in
    let other = covers_by_bits q r is'' is' (covers.family ∙ family) in
    let same = same_before k (address_number p.addr) (address_number r.addr) in
    let zeros = zeros_before 128 k x below in
    let wide : width q.addr ≡ width p.addr = same_width q.addr p.addr covers.family in
    let small : width q.addr ≤ 128 = width_small q.addr in
    let fits : q.len ≤ width q.addr = is''.short in
    let enough = least q.len (omega (arith, fits, wide)) in (
      (λ c.
          let (short, bits) = other.0 c in
          let many : 128 ≤ count_leading_zeros 128 x + k = zeros.0 (same.0 (sym one.1 ∙ bits)) in
          let within : q.len ≤ shared = enough.1 (short, omega (arith, many, fits, wide)) in
          omega (arith, within)),
      (λ less.
          let (short, many) = enough.0 (omega (arith, less)) in
          other.1 (short, one.1 ∙ same.1 (zeros.1 (omega (arith, many, fits, wide))))),
    )

-- of another family they cover none
pub no_limit : (p r : FamilyPrefix) → ¬ (is_v6 p.addr ≡ is_v6 r.addr) → IsCoveringLimit p r 0
no_limit p r differ q is covers = (
  (λ other. absurd (differ (sym covers.family ∙ other.family))),
  (λ less. absurd (omega (arith, less))),
)
