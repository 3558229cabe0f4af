-- Addresses of the usual form, as std's readers take them.
use Rattle.rpki_addr.proofs.Common.{List, None, Some, ap, arith, drop, false, true, get_or, length, length-take-le}
use Rattle.rpki_addr.proofs.Common.{lit<, lit≤, nat_lt, option_map, refl, sym, take, ℕ, ◌*◌, ◌+◌, ◌-◌, ◌<◌, ◌==◌, ◌^◌}
use Rattle.rpki_addr.proofs.Common.{◌∙◌, ◌∷◌, ◌≡◌, ◌≢◌, ◌≤◌, cases_eq, digit_value, inl, inr, read_ipv6, read_segments}
use Rattle.rpki_addr.proofs.Common.{read_separator, from_groups, numbered}
use Rattle.std.proofs.Common.{add-zero, eq-eqb, ne_eqb, subst, Bool, Option}
use Rattle.std.proofs.lemmas.List.{get_or-drop, drop-drop, drop_more, take_rest}
use Rattle.std.specs.Net.Reader.{read_byte}
use Rattle.rpki_addr.specs.GroupProgress.{EndsGroupAt, IsGroupAt, IsSoFarAt, groups_at}
use Rattle.rpki_addr.specs.ReaderResults.{with_number}
use Rattle.rpki_addr.proofs.DigitGroupLemmas.{AreDigits, digits_are, group_fits, group_none, group_some, no_group}
use Rattle.rpki_addr.proofs.DigitGroupLemmas.{no_last_two, written}
use Rattle.rpki_addr.proofs.GroupLemmas.{all_read, fits_behind, no_colon, no_more, number_elided, one_more_fits}
use Rattle.rpki_addr.proofs.GroupLemmas.{with_group}

-- ---- one group

module _ (text : List ℕ) (at : ℕ) (room : at + 5 ≤ length text) where
  -- digits at an index are a group if no digit follows them
  group_of : (k : ℕ) → 0 < k → k ≤ 4 → AreDigits 16 (drop at text) k
      → IsGroupAt text at (written 16 (drop at text) k) (at + k)
  group_of k some few all =
      let (within, digits, value) = digits_are 16 (drop at text) k (lit≤ tt) all in
      let count = length-take-le k (drop at text) within in
      let fits = group_fits (take k (drop at text)) digits (omega (arith, count, few)) in
      record {
        some = omega (arith, some);
        few = omega (arith, few);
        small = omega (arith, fits, value);
        read = λ stop. rw (take_rest, drop-drop) at (group_some (drop at text) k some few all (rw get_or-drop stop));
      }

  digit : (k d : ℕ) → digit_value (get_or text (at + k) 0) ≡ d → digit_value (get_or (drop at text) k 0) ≡ d
  digit k d e = rw get_or-drop e

  first : (d : ℕ) → digit_value (get_or text at 0) ≡ d → digit_value (get_or (drop at text) 0 0) ≡ d
  first d e = digit 0 d (rw add-zero e)

  pub one_digit : (a : ℕ) → a < 16 → digit_value (get_or text at 0) ≡ a → IsGroupAt text at a (at + 1)
  one_digit a small e =
      let e₀ = first a e in
      let all : AreDigits 16 (drop at text) 1 = (tt, omega (arith, e₀, small)) in
      let value : written 16 (drop at text) 1 ≡ a = omega (arith, e₀) in
      subst (λ (v : ℕ). IsGroupAt text at v (at + 1)) value (group_of 1 (lit< tt) (lit≤ tt) all)

  pub two_digits : (a b : ℕ) → a < 16 → b < 16 → digit_value (get_or text at 0) ≡ a
      → digit_value (get_or text (at + 1) 0) ≡ b → IsGroupAt text at (a * 16 + b) (at + 2)
  two_digits a b small_a small_b e f =
      let e₀ = first a e in
      let e₁ = digit 1 b f in
      let all : AreDigits 16 (drop at text) 2 = ((tt, omega (arith, e₀)), omega (arith, e₁)) in
      let value : written 16 (drop at text) 2 ≡ a * 16 + b = omega (arith, e₀, e₁) in
      subst (λ (v : ℕ). IsGroupAt text at v (at + 2)) value (group_of 2 (lit< tt) (lit≤ tt) all)

  pub three_digits : (a b c : ℕ) → a < 16 → b < 16 → c < 16 → digit_value (get_or text at 0) ≡ a
      → digit_value (get_or text (at + 1) 0) ≡ b → digit_value (get_or text (at + 2) 0) ≡ c
      → IsGroupAt text at ((a * 16 + b) * 16 + c) (at + 3)
  three_digits a b c small_a small_b small_c e f g =
      let e₀ = first a e in
      let e₁ = digit 1 b f in
      let e₂ = digit 2 c g in
      let all : AreDigits 16 (drop at text) 3 = (((tt, omega (arith, e₀)), omega (arith, e₁)), omega (arith, e₂)) in
      let value : written 16 (drop at text) 3 ≡ (a * 16 + b) * 16 + c = omega (arith, e₀, e₁, e₂) in
      subst (λ (v : ℕ). IsGroupAt text at v (at + 3)) value (group_of 3 (lit< tt) (lit≤ tt) all)

  pub four_digits : (a b c d : ℕ) → a < 16 → b < 16 → c < 16 → d < 16 → digit_value (get_or text at 0) ≡ a
      → digit_value (get_or text (at + 1) 0) ≡ b → digit_value (get_or text (at + 2) 0) ≡ c
      → digit_value (get_or text (at + 3) 0) ≡ d → IsGroupAt text at (((a * 16 + b) * 16 + c) * 16 + d) (at + 4)
  four_digits a b c d small_a small_b small_c small_d e f g h =
      let e₀ = first a e in
      let e₁ = digit 1 b f in
      let e₂ = digit 2 c g in
      let e₃ = digit 3 d h in
      let three : AreDigits 16 (drop at text) 3 = (((tt, omega (arith, e₀)), omega (arith, e₁)), omega (arith, e₂)) in
      let all : AreDigits 16 (drop at text) 4 = (three, omega (arith, e₃)) in
      let value : written 16 (drop at text) 4 ≡ ((a * 16 + b) * 16 + c) * 16 + d = omega (arith, e₀, e₁, e₂, e₃) in
      subst (λ (v : ℕ). IsGroupAt text at v (at + 4)) value (group_of 4 (lit< tt) (lit≤ tt) all)

-- ---- colons

pub colon_at : (text : List ℕ) (i : ℕ) → i < length text → get_or text i 0 ≡ 58
    → Some (drop (i + 1) text) ≡ read_byte 58 (drop i text)
colon_at text i within colon = rw (drop_more text i 0 within, colon) refl

no_colon_at : (text : List ℕ) (i : ℕ) → i < length text → get_or text i 0 ≢ 58 → None ≡ read_byte 58 (drop i text)
no_colon_at text i within other = rw (drop_more text i 0 within, ne_eqb _ _ other) refl

pub colons_at : (text : List ℕ) (i : ℕ) → i + 1 < length text → get_or text i 0 ≡ 58 → get_or text (i + 1) 0 ≡ 58
    → drop i text ≡ 58 ∷ 58 ∷ drop (i + 2) text
colons_at text i within one two =
    let here : i < length text = omega (arith, within) in
    let e : drop i text ≡ get_or text i 0 ∷ drop (i + 1) text = drop_more text i 0 here in
    let f : drop (i + 1) text ≡ get_or text (i + 1) 0 ∷ drop (i + 1 + 1) text = drop_more text (i + 1) 0 within in
    let place : i + 1 + 1 ≡ i + 2 = omega arith in
    let rest : drop (i + 1 + 1) text ≡ drop (i + 2) text = ap (λ (k : ℕ). drop k text) place in
    cc

-- ---- groups

module _ (n : ℕ) (text : List ℕ) (bits count end at : ℕ) (so_far : IsSoFarAt n text bits count end)
    (next : Some (drop at text) ≡ read_separator (count == 0) (drop end text)) (fewer : count < n) where
  other : count ≢ n
  other = omega (arith, fewer)

  -- one group more
  pub one_more : (value last : ℕ) → IsGroupAt text at value last → EndsGroupAt text last
      → IsSoFarAt n text (bits * 0x10000 + value) (count + 1) last
  one_more value last group ends =
      let read = group.read ends.no_digit in
      let no_dot = ne_eqb (get_or (drop last text) 0 0) 46 (rw (get_or-drop, add-zero) ends.no_dot) in
      let no_ipv4 = no_last_two (nat_lt (count + 1) n) (drop at text) (drop last text) value read no_dot in
      with_group n text (groups_at text bits count end) refl so_far other (drop at text) next no_ipv4 value value
      (record { ref_ptr = (0, 0); now = drop last text }) (sym read) group.small refl

  -- no group follows
  pub none_more : 16 ≤ digit_value (get_or text at 0)
      → (bits, count, false, drop end text) ≡ numbered (read_segments n true text)
  none_more stop =
      let none = group_none (drop at text) (rw (get_or-drop, add-zero) stop) in
      let no_ipv4 = no_group (nat_lt (count + 1) n) (drop at text) none in
      no_more n text (groups_at text bits count end) refl so_far other (drop at text) next no_ipv4 none

-- no group more may follow
pub all_taken : (n : ℕ) (text : List ℕ) (bits count end : ℕ) → IsSoFarAt n text bits count end → n ≤ count
    → (bits, count, false, drop end text) ≡ numbered (read_segments n true text)
all_taken n text bits count end so_far most =
    let within : count ≤ n = so_far.within in
    all_read n text (groups_at text bits count end) refl so_far (omega (arith, within, most))

-- no colon follows the last group
pub groups_end : (n : ℕ) (text : List ℕ) (bits count end : ℕ) → IsSoFarAt n text bits (count + 1) end
    → end < length text → get_or text end 0 ≢ 58
    → (bits, count + 1, false, drop end text) ≡ numbered (read_segments n true text)
groups_end n text bits count end so_far within colon =
    let none = no_colon_at text end within colon in
    let some = ne_eqb (count + 1) 0 (omega arith) in
    elim (cases_eq (count + 1) n) [
      | inl full ↦ all_read n text (groups_at text bits (count + 1) end) refl so_far full
      | inr more ↦ no_colon n text (groups_at text bits (count + 1) end) refl so_far more (rw some none)
    ]

-- the colon behind a group
pub colon_next : (text : List ℕ) (count end : ℕ) → end < length text → get_or text end 0 ≡ 58
    → Some (drop (end + 1) text) ≡ read_separator (count + 1 == 0) (drop end text)
colon_next text count end within colon =
    let some = ne_eqb (count + 1) 0 (omega arith) in
    rw some (colon_at text end within colon)

-- where a colon is, a group ends
pub ends_at_colon : (text : List ℕ) (at : ℕ) → get_or text at 0 ≡ 58 → EndsGroupAt text at
ends_at_colon text at colon = record {
  no_digit = rw colon (lit≤ tt);
  no_dot = λ dot. omega (arith, colon, dot);
}

-- what a turn of the loop keeps, and what is returned
pub ruleset usual_step = (one_more_fits, one_more, colon_next, ends_at_colon)

pub ruleset usual_end = (one_more, none_more, all_taken, groups_end)

-- ---- addresses

abbrev Parts : Type 0
Parts = ℕ × ℕ × Bool × List ℕ

pub eight_read : (text : List ℕ) (bits end : ℕ)
    → (bits, 8, false, drop end text) ≡ numbered (read_segments 8 true text)
    → Some (bits, drop end text) ≡ option_map with_number (read_ipv6 text)
unfolding read_ipv6
eight_read text bits end e =
    let count : length (read_segments 8 true text).0 ≡ 8 = sym (ap (λ (p : Parts). p.1) e) in
    let seen : Parts → Option (ℕ × List ℕ) = λ p. Some (p.0, p.3) in
    rw (eq-eqb _ _ count) (ap seen e)

elided_of : (text behind : List ℕ) (count : ℕ) → length (read_segments 8 true text).0 ≡ count → count < 8
    → (read_segments 8 true text).1 ≡ false → (read_segments 8 true text).2 ≡ 58 ∷ 58 ∷ behind
    → length (read_segments (7 - count) true behind).0 ≤ 7 - count
    → option_map with_number (read_ipv6 text)
    ≡ Some (
      from_groups (read_segments 8 true text).0 * 0x10000 ^ (8 - count)
          + from_groups (read_segments (7 - count) true behind).0,
      (read_segments (7 - count) true behind).2,
    )
unfolding read_ipv6
elided_of text behind count c few closed colons within =
    let front = (read_segments 8 true text).0 in
    let back = read_segments (7 - count) true behind in
    let number = number_elided front back.0 (omega (arith, c, few, within)) in
    let seen : ℕ → Option (ℕ × List ℕ) = λ n. Some (n, back.2) in
    rw (ne_eqb (length front) 8 (omega (arith, c, few)), closed, colons, c) (ap seen (rw c at number))

pub elided_read : (text : List ℕ) (bits count end low more : ℕ) (behind rest : List ℕ) → count < 8 → more ≤ 7 - count
    → (bits, count, false, drop end text) ≡ numbered (read_segments 8 true text)
    → drop end text ≡ 58 ∷ 58 ∷ behind
    → (low, more, false, rest) ≡ numbered (read_segments (7 - count) true behind)
    → Some (bits * 0x10000 ^ (8 - count) + low, rest) ≡ option_map with_number (read_ipv6 text)
elided_read text bits count end low more behind rest few within front colons back =
    let high : bits ≡ from_groups (read_segments 8 true text).0 = ap (λ (p : Parts). p.0) front in
    let counted : count ≡ length (read_segments 8 true text).0 = ap (λ (p : Parts). p.1) front in
    let closed : false ≡ (read_segments 8 true text).1 = ap (λ (p : Parts). p.2) front in
    let left : drop end text ≡ (read_segments 8 true text).2 = ap (λ (p : Parts). p.3) front in
    let low_is : low ≡ from_groups (read_segments (7 - count) true behind).0 = ap (λ (p : Parts). p.0) back in
    let more_is : more ≡ length (read_segments (7 - count) true behind).0 = ap (λ (p : Parts). p.1) back in
    let rest_is : rest ≡ (read_segments (7 - count) true behind).2 = ap (λ (p : Parts). p.3) back in
    let fits : length (read_segments (7 - count) true behind).0 ≤ 7 - count = omega (arith, more_is, within) in
    let e = elided_of text behind count (sym counted) few (sym closed) (sym left ∙ colons) fits in
    rw (high, low_is, rest_is) (sym e)

-- what is read of an address
pub ruleset usual_read = (eight_read, elided_read, colons_at, ends_at_colon, fits_behind, take_rest)
