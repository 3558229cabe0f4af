-- Digits at the front of a text, as std's readers take them.
use Rattle.rpki_addr.proofs.Common.{suc, zero, Bool, List, None, Some, [], ap, append_assoc, arith, decimal, drop}
use Rattle.rpki_addr.proofs.Common.{drop_at, false, get_or, length, length-take-le, lit<, lit≤, option_map, refl, subst}
use Rattle.rpki_addr.proofs.Common.{take, ℕ, ◌*◌, ◌++◌, ◌+◌, ◌-◌, ◌<◌, ◌==◌, ◌∙◌, ◌∷◌, ◌≡◌, ◌≢◌, ◌≤◌, pow-le-pow_right}
use Rattle.rpki_addr.proofs.Common.{read_ipv4_sound, cases_lt, nat_tests, decimal_is_IsNumeral, digits_value-lt}
use Rattle.rpki_addr.proofs.Common.{none-some, same_Some, digit_value, digit_count, Read, read_ipv4, read_ipv4_if}
use Rattle.rpki_addr.proofs.Common.{read_number, read_octet, read_segment, AllDigits, digits_value, with_octets}
use Rattle.std.proofs.lemmas.Fmt.{length-decimal-le}
use Rattle.std.proofs.lemmas.Int.Digits.{digits_more, digits_value_more}
use Rattle.std.proofs.lemmas.List.{get_or_past, take-append-drop, take_rest}
use Rattle.std.proofs.NetLemmas.Numbers.{digit_count-append, read_number_empty, read_number_large_at, read_number_some}
use Rattle.std.proofs.NetLemmas.Numbers.{read_number_some_at}

-- the first k bytes of a text are digits
abbrev pub AreDigits : ℕ → List ℕ → ℕ → Type 0
AreDigits radix s zero = Unit {0}
AreDigits radix s (suc k) = AreDigits radix s k × (digit_value (get_or s k 0) < radix)

-- which write this number
abbrev pub written : ℕ → List ℕ → ℕ → ℕ
written radix s zero = 0
written radix s (suc k) = written radix s k * radix + digit_value (get_or s k 0)

-- so the first k bytes are digits that write n
abbrev pub AreWritten : ℕ → List ℕ → ℕ → ℕ → Type 0
AreWritten radix s k n = (k ≤ length s) × AllDigits radix (take k s) × (digits_value radix (take k s) ≡ n)

pub digits_are : (radix : ℕ) (s : List ℕ) (k : ℕ) → radix ≤ 36 → AreDigits radix s k
    → AreWritten radix s k (written radix s k)
digits_are radix s zero most all = (omega arith, tt, refl)
digits_are radix s (suc k) most (before, small) =
    let (within, digits, value) = digits_are radix s k most before in
    let here : k < length s = grind (arith, get_or_past, cases_lt) in
    let place : k + 1 ≡ suc k = omega arith in
    let number = digits_value_more radix s k here ∙ ap (λ n. n * radix + digit_value (get_or s k 0)) value in
    subst (λ i. AreWritten radix s i (written radix s (suc k))) place
    (omega (arith, here), digits_more radix s k here digits small, number)

-- these k digits are read, and what is behind them is left
abbrev pub Reads : (List ℕ → Read ℕ) → ℕ → List ℕ → ℕ → Type 0
Reads read radix s k = read s ≡ Some (written radix s k, take (length s - k) (drop k s))

-- no digit, no octet
pub octet_none : (s : List ℕ) → 10 ≤ digit_value (get_or s 0 0) → None ≡ read_octet s
unfolding read_octet
octet_none s stop = rw (read_number_empty 10 255 s stop) refl

-- digits with no leading zero, up to 255
octet_some : (s : List ℕ) (k : ℕ) → 0 < k → AreDigits 10 s k → 10 ≤ digit_value (get_or s k 0)
    → (1 < k → digit_value (get_or s 0 0) ≢ 0) → written 10 s k ≤ 255 → Reads read_octet 10 s k
unfolding read_octet
octet_some s k some all stop other fits =
    let (within, digits, value) = digits_are 10 s k (lit≤ tt) all in
    let read = read_number_some_at 10 255 s k some within digits (omega (arith, value, fits)) stop in
    grind (arith, take_rest, read, nat_tests, other)

pub octet_one : (s : List ℕ) → AreDigits 10 s 1 → 10 ≤ digit_value (get_or s 1 0) → Reads read_octet 10 s 1
octet_one s all stop = octet_some s 1 (lit< tt) all stop (λ more. omega arith) (omega (arith, all.1))

pub octet_two : (s : List ℕ) → AreDigits 10 s 2 → 10 ≤ digit_value (get_or s 2 0) → digit_value (get_or s 0 0) ≢ 0
    → Reads read_octet 10 s 2
octet_two s all stop other = octet_some s 2 (lit< tt) all stop (λ more. other) (omega (arith, all.0.1, all.1))

pub octet_three : (s : List ℕ) → AreDigits 10 s 3 → 10 ≤ digit_value (get_or s 3 0) → digit_value (get_or s 0 0) ≢ 0
    → written 10 s 3 ≤ 255 → Reads read_octet 10 s 3
octet_three s all stop other fits = octet_some s 3 (lit< tt) all stop (λ more. other) fits

-- above 255
large : (s : List ℕ) (k : ℕ) → AreDigits 10 s k → 255 < written 10 s k → None ≡ read_octet s
unfolding read_octet
large s k all over = grind (arith, digits_are, read_number_large_at)

pub octet_large : (s : List ℕ) → AreDigits 10 s 3 → 255 < written 10 s 3 → None ≡ read_octet s
octet_large s all over = large s 3 all over

pub octet_long : (s : List ℕ) → AreDigits 10 s 4 → digit_value (get_or s 0 0) ≢ 0 → None ≡ read_octet s
octet_long s all other = large s 4 all (omega (arith, other))

digits_counted : (radix : ℕ) (s : List ℕ) (k : ℕ) → radix ≤ 36 → AreDigits radix s k → k ≤ digit_count radix s
digits_counted radix s k most all =
    let (within, digits, value) = digits_are radix s k most all in
    let count = rw take-append-drop at (digit_count-append radix (take k s) (drop k s) digits) in
    omega (arith, length-take-le k s within, count)

-- a zero before another digit
pub octet_zero : (s : List ℕ) → AreDigits 10 s 2 → digit_value (get_or s 0 0) ≡ 0 → None ≡ read_octet s
unfolding read_octet read_number
octet_zero s all first = grind (arith, digits_counted 10 s 2 (lit≤ tt) all, nat_tests)

-- what is read of an octet
pub ruleset octet_read = (octet_none, octet_one, octet_two, octet_three, octet_large, octet_long, octet_zero)

-- no hexadecimal digit, no group
pub group_none : (s : List ℕ) → 16 ≤ digit_value (get_or s 0 0) → None ≡ read_segment s
unfolding read_segment
group_none s stop = rw (read_number_empty 16 0xffff s stop) refl

-- one to four of them
pub group_fits : (ds : List ℕ) → AllDigits 16 ds → length ds ≤ 4 → digits_value 16 ds ≤ 0xffff
group_fits ds digits few = grind (arith, digits_value-lt, pow-le-pow_right)

pub group_some : (s : List ℕ) (k : ℕ) → 0 < k → k ≤ 4 → AreDigits 16 s k → 16 ≤ digit_value (get_or s k 0)
    → Reads read_segment 16 s k
unfolding read_segment
group_some s k some few all stop =
    let (within, digits, value) = digits_are 16 s k (lit≤ tt) all in
    let fits = group_fits (take k s) digits (omega (arith, length-take-le k s within, few)) in
    let read = read_number_some_at 16 0xffff s k some within digits fits stop in
    grind (arith, take_rest, read, nat_tests)

pub group_one : (s : List ℕ) → AreDigits 16 s 1 → 16 ≤ digit_value (get_or s 1 0) → Reads read_segment 16 s 1
group_one s all stop = group_some s 1 (lit< tt) (lit≤ tt) all stop

pub group_two : (s : List ℕ) → AreDigits 16 s 2 → 16 ≤ digit_value (get_or s 2 0) → Reads read_segment 16 s 2
group_two s all stop = group_some s 2 (lit< tt) (lit≤ tt) all stop

pub group_three : (s : List ℕ) → AreDigits 16 s 3 → 16 ≤ digit_value (get_or s 3 0) → Reads read_segment 16 s 3
group_three s all stop = group_some s 3 (lit< tt) (lit≤ tt) all stop

pub group_four : (s : List ℕ) → AreDigits 16 s 4 → 16 ≤ digit_value (get_or s 4 0) → Reads read_segment 16 s 4
group_four s all stop = group_some s 4 (lit< tt) (lit≤ tt) all stop

-- five or more
pub group_long : (s : List ℕ) → AreDigits 16 s 5 → None ≡ read_segment s
unfolding read_segment read_number
group_long s all = grind (arith, digits_counted 16 s 5 (lit≤ tt) all, nat_tests)

-- what is read of a group
pub ruleset group_read = (group_none, group_one, group_two, group_three, group_four, group_long)

-- decimal digits are hexadecimal ones
all_wider : (ds : List ℕ) → AllDigits 10 ds → AllDigits 16 ds
all_wider [] all = tt
all_wider (d ∷ ds) all = (let small = all.0 in omega arith, all_wider ds all.1)

-- a group stands at the front of an IPv4 text, and a dot behind it
group_before_dot : (text : List ℕ) (p : List ℕ × List ℕ) → read_ipv4 text ≡ Some p
    → (v : ℕ) × (rest : List ℕ) × (read_segment text ≡ Some (v, 46 ∷ rest))
unfolding read_segment
group_before_dot text p e =
    let (front, split, h) = read_ipv4_sound text p.0 p.1 e in
    let rest : List ℕ = decimal h.b ++ 46 ∷ (decimal h.c ++ 46 ∷ (decimal h.d ++ p.1)) in
    let spelled : front ++ p.1 ≡ decimal h.a ++ 46 ∷ rest = rw h.spelled (simp append_assoc) in
    let numeral = decimal_is_IsNumeral h.a (omega (arith, h.fit.0)) in
    let few = length-decimal-le 4 h.a (lit< tt) (omega (arith, h.fit.0)) (omega (arith, h.fit.0)) in
    let digits = all_wider (decimal h.a) numeral.0.1 in
    let fits = group_fits (decimal h.a) digits few in
    let read = read_number_some 16 0xffff (decimal h.a) (46 ∷ rest) (numeral.0.0, digits) fits (lit≤ tt) in
    (digits_value 16 (decimal h.a), rest, grind (arith, split, spelled, read, few, drop_at, nat_tests))

-- so where no group stands, or no dot behind it, there is no IPv4 text, whether it fits or not
pub no_group : (fits : Bool) (text : List ℕ) → None ≡ read_segment text
    → None ≡ option_map with_octets (read_ipv4_if fits text)
no_group fits text none = grind (arith, group_before_dot, none-some)

pub no_last_two : (fits : Bool) (text behind : List ℕ) (v : ℕ) → read_segment text ≡ Some (v, behind)
    → (get_or behind 0 0 == 46) ≡ false → None ≡ option_map with_octets (read_ipv4_if fits text)
no_last_two fits text behind v group other = grind (arith, group_before_dot, same_Some)
