-- What is written is in the grammars, and how long it is.
use Rattle.rpki_ip.proofs.Common.{List, append_assoc, arith, length, refl, sym, ℕ, ◌%◌, ◌++◌, ◌+◌, ◌-◌, ◌<◌, ◌^◌, ◌≡◌}
use Rattle.rpki_ip.proofs.Common.{◌≤◌, cases_lt, lt-ltb, length-append, pow_below, pow_pos, IsPrefix, PrefixValue}
use Rattle.rpki_ip.proofs.Common.{mod_multiple, multiple_diff, multiple_gap, multiple_least, multiple_mod}
use Rattle.rpki_ip.proofs.Common.{multiple_self, value_is, header, length_octets, IsPrefixDer, prefix_bits, prefix_der}
use Rattle.rpki_ip.proofs.Common.{IsRangeDer, IsRangeWithin, range_content, range_der, without_end_ones}
use Rattle.rpki_ip.proofs.Common.{without_end_zeros, RangeValue, IsSequence, Refines, IsSpan, IsPrefixWithin}
use Rattle.rpki_der.specs.SequenceReading.{SaysPair}
use Rattle.rpki_ip.proofs.PrefixBits.{bits_few, bits_fit, bits_say}
use Rattle.rpki_ip.proofs.ShortestPrefixes.{shortest_from_is, shortest_to_is}

-- ---- lengths

-- the BIT STRING of a prefix
pub length_prefix : (p : PrefixValue) → IsPrefix 128 p → length (prefix_der p) < 20
unfolding header length_octets
length_prefix p is = grind (arith, bits_few p is, lt-ltb)

-- what was appended in three parts
pub joined : (old first front back first' front' back' b c d : List ℕ) → b ≡ old ++ first → c ≡ b ++ front
    → d ≡ c ++ back → first ≡ first' → front ≡ front' → back ≡ back' → d ≡ old ++ (first' ++ (front' ++ back'))
joined old first front back first' front' back' b c d eb ec ed e1 e2 e3 = grind (arith, append_assoc)

-- ---- values

-- the BIT STRING of a prefix
pub prefix_written : (limit : ℕ) (p : PrefixValue) → IsPrefix 128 p → p.len ≤ limit → IsPrefixDer limit (prefix_der p) p
prefix_written limit p is short =
    let spelled = value_is 3 _ (omega arith) (omega (arith, bits_few p is)) in
    (prefix_bits p, (bits_fit p is, spelled), bits_say limit p is short)

-- a greatest address of limit bits is written with at most limit bits
pub to_short : (limit a : ℕ) → limit ≤ 128 → a < 2 ^ 128 → (a + 1) % 2 ^ (128 - limit) ≡ 0
    → (without_end_ones a).len ≤ limit
to_short limit a le lt z =
    let m = mod_multiple (128 - limit) (a + 1) z in
    let enough = multiple_least (2 ^ (128 - limit)) a m in
    let first = multiple_diff (2 ^ (128 - limit)) (2 ^ (128 - limit)) (a + 1) (multiple_self _) m in
    (shortest_to_is a lt).shortest (record { first = a + 1 - 2 ^ (128 - limit); len = limit })
    (grind (arith, multiple_mod, pow_pos)) (omega arith)

-- a range is the SEQUENCE of the prefixes that are written of it, by each grammar of prefixes that has what is written
pub range_spelled : (limit : ℕ) (r : RangeValue) → limit ≤ 128 → IsRangeWithin limit r
    → (G : List ℕ → PrefixValue → Type 0) → ((p : PrefixValue) → IsPrefixWithin limit p → G (prefix_der p) p)
    → (C : PrefixValue → PrefixValue → RangeValue → Type 0)
    → (IsSpan (without_end_zeros r.min) (without_end_ones r.max) r → C (without_end_zeros r.min)
    (without_end_ones r.max) r)
    → Refines IsSequence (SaysPair G C) (range_der r) r
range_spelled limit r le is G written C says =
    let low = without_end_zeros r.min in
    let high = without_end_ones r.max in
    let small : r.min < 2 ^ 128 = omega (arith, is.is_range.ordered, is.is_range.below) in
    let p = shortest_from_is r.min small in
    let q = shortest_to_is r.max is.is_range.below in
    let first = length_prefix low p.is_prefix in
    let second = length_prefix high q.is_prefix in
    let short : length (range_content r) < 2 ^ 64 = omega (arith, length-append (prefix_der low) (prefix_der high)) in
    let one = written low (p.is_prefix, p.shortest (record { first = r.min; len = limit }) (grind arith) refl) in
    let two = written high (q.is_prefix, to_short limit r.max le is.is_range.below is.ones) in
    let span = says (record { begins = refl; ends = sym q.ends; ordered = is.is_range.ordered }) in
    (_, value_is 48 _ (omega arith) short, (low, high, (prefix_der high, (prefix_der low, one, refl), two), span))

pub range_written : (limit : ℕ) (r : RangeValue) → limit ≤ 128 → IsRangeWithin limit r
    → IsRangeDer limit (range_der r) r
range_written limit r le is =
    range_spelled limit r le is (IsPrefixDer limit) (λ p (is, short). prefix_written limit p is short) IsSpan
    (λ span. span)

-- a prefix whose first number and whose next one are multiples has no more bits than the limit
pub few_bits : (limit len first next : ℕ) → limit ≤ 128 → len ≤ 128 → first % 2 ^ (128 - limit) ≡ 0
    → next % 2 ^ (128 - limit) ≡ 0 → first < next → first + 2 ^ (128 - len) ≡ next → len ≤ limit
few_bits limit len first next le short low high some count =
    let low_times = mod_multiple (128 - limit) first low in
    let high_times = mod_multiple (128 - limit) next high in
    let gap = multiple_gap (2 ^ (128 - limit)) first next low_times high_times some in
    grind (arith, cases_lt limit len, gap, pow_below (128 - len) (128 - limit))
