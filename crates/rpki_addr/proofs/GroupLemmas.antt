-- Groups as one number while they are read.
use Rattle.rpki_addr.proofs.Common.{Bor, List, None, Some, [], ap, append-nil, append_assoc, arith, false, length}
use Rattle.rpki_addr.proofs.Common.{length-append, lit<, lit≤, nat_lt, option_map, refl, replicate, suc, true, zero, ℕ}
use Rattle.rpki_addr.proofs.Common.{◌*◌, ◌++◌, ◌+◌, ◌-◌, ◌<◌, ◌==◌, ◌^◌, ◌∷◌, ◌≡◌, ◌≢◌, ◌≤◌, mul-one, pow-le-pow_right}
use Rattle.rpki_addr.proofs.Common.{pow-succ', pow-zero, read_ipv4_sound, nat_tests, number_after_append, number_push}
use Rattle.rpki_addr.proofs.Common.{length-replicate, mul-add-lt, pow-add, none-some, number_from_digits_after}
use Rattle.rpki_addr.proofs.Common.{segments_of, read_ipv4, read_ipv4_if, read_segment, read_segments, read_separator}
use Rattle.rpki_addr.proofs.Common.{below_power, next_below, from_groups, from_octets, numbered, with_octets, IsSoFar}
use Rattle.rpki_addr.proofs.Common.{parts}
use Rattle.std.proofs.Common.{◌%◌}
use Rattle.std.proofs.Math.Nat.{mod-eq_of_lt}
use Rattle.rpki_addr.specs.declared.addr.read.Groups.{Groups}
use Rattle.rpki_addr.proofs.AddressFronts.{seen_some}
use Rattle.rpki_addr.proofs.AddressLemmas.{two_groups}

-- groups behind others, as numbers
number_after_is : (n : ℕ) (ys : List ℕ)
    → number_from_digits_after 0x10000 n ys ≡ n * 0x10000 ^ length ys + from_groups ys
number_after_is n [] = omega (arith, ap (λ k. n * k) (pow-zero 0x10000), mul-one n)
number_after_is n (y ∷ ys) =
    let more = number_after_is (n * 0x10000 + y) ys in
    rw pow-succ' (omega (arith, more, number_after_is (0 * 0x10000 + y) ys))

zeros_front : (k : ℕ) (ys : List ℕ) → from_groups (replicate k 0 ++ ys) ≡ from_groups ys
zeros_front zero ys = refl
zeros_front (suc k) ys = zeros_front k ys

-- the groups of a text with two colons
pub number_elided : (front back : List ℕ) → length front + length back ≤ 8
    → from_groups (front ++ replicate (8 - length front - length back) 0 ++ back)
    ≡ from_groups front * 0x10000 ^ (8 - length front) + from_groups back
number_elided front back within_bound =
    grind (arith, append_assoc, number_after_append, number_after_is, zeros_front, length-append, length-replicate)

-- what fits behind so many groups
pub fits_behind : (high low i j : ℕ) → high < 0x10000 ^ i → low < 0x10000 ^ j → i + j ≤ 8
    → high * 0x10000 ^ (8 - i) + low < 2 ^ 128
fits_behind high low i j small few within_bound =
    let up : 0x10000 ^ j ≤ 0x10000 ^ (8 - i) = pow-le-pow_right (lit≤ tt) (omega (arith, within_bound)) in
    let fits = mul-add-lt high (0x10000 ^ (8 - i)) low (0x10000 ^ i) in
    grind (arith, fits, pow-add 0x10000 (8 - i) i)

pub elided_fits : (front back : Groups) → front.bits < 0x10000 ^ front.count → back.bits < 0x10000 ^ back.count
    → front.count + back.count ≤ 8 → front.bits * 0x10000 ^ (8 - front.count) + back.bits < 2 ^ 128
elided_fits front back low high within_bound =
    fits_behind front.bits back.bits front.count back.count low high within_bound

-- zero groups as a shift
power_of_two : (n : ℕ) → 2 ^ (16 * n) ≡ 0x10000 ^ n
power_of_two zero = refl
power_of_two (suc n) = grind (arith, power_of_two n, pow-add 2 (16 * n) 16, pow-succ')

pub shifted : (bits n : ℕ) → bits * 0x10000 ^ n < 2 ^ 128 → (bits * 2 ^ (16 * n)) % 2 ^ 128 ≡ bits * 0x10000 ^ n
shifted bits n fits = rw (power_of_two n) (mod-eq_of_lt fits)

pub none_before_eight : (bits n : ℕ) → n ≡ 8 → bits * 0x10000 ^ n < 2 ^ 128 → 0 ≡ bits * 0x10000 ^ n
none_before_eight bits n eight fits =
    let none : bits * 0x10000 ^ 8 < 2 ^ 128 = rw eight at fits in
    rw eight (omega (arith, none))

two_more : (bits count low : ℕ) → bits < 0x10000 ^ count → low < 2 ^ 32
    → bits * 0x100000000 + low < 0x10000 ^ (count + 2)
two_more bits count low small value = rw pow-add (omega (arith, small, value))

-- so one group more fits, and two
pub one_fits : (groups : Groups) → groups.bits < 0x10000 ^ groups.count → groups.count < 8
    → groups.bits * 0x10000 + 0xffff < 2 ^ 128
one_fits groups small few =
    omega (arith, below_power 0x10000 (lit< tt) groups.count 8 groups.bits 0xffff few small (lit< tt))

pub one_more_fits : (bits count value : ℕ) → bits < 0x10000 ^ count → count < 8 → value < 0x10000
    → bits * 0x10000 + value < 2 ^ 128
one_more_fits bits count value small few fits =
    omega (arith, fits, below_power 0x10000 (lit< tt) count 8 bits 0xffff few small (lit< tt))

pub two_fit : (groups : Groups) → groups.bits < 0x10000 ^ groups.count → groups.count + 2 ≤ 8
    → groups.bits * 0x100000000 + 0xffffffff < 2 ^ 128
two_fit groups small few = grind (arith, pow-le-pow_right, two_more)

-- ---- how far a reader of groups has come

-- groups that no IPv4 text closes
module _ (n : ℕ) (text : List ℕ) (groups : Groups) (unclosed : groups.closed ≡ false)
    (so_far : IsSoFar n text groups) where
  -- if no group may follow, the groups are all
  pub all_read : groups.count ≡ n → parts groups ≡ numbered (read_segments n true text)
  unfolding read_segments
  all_read full = grind (arith, so_far.read, so_far.value, so_far.count, append-nil)

  module _ (within_bound : groups.count ≢ n) where
    -- so many groups may follow the next one
    abbrev left : ℕ
    left = n - (groups.count + 1)

    one_left : n - groups.count ≡ suc left
    one_left = omega (arith, so_far.within, within_bound)

    two_left : nat_lt (groups.count + 1) n ≡ nat_lt 0 left
    two_left = grind (arith, nat_tests)

    pub no_colon : None ≡ read_separator (groups.count == 0) groups.rest.now
        → parts groups ≡ numbered (read_segments n true text)
    unfolding read_segments
    no_colon none = grind (arith, so_far.read, so_far.value, so_far.count, append-nil, one_left)

    module _ (behind : List ℕ) (colon : Some behind ≡ read_separator (groups.count == 0) groups.rest.now) where
      pub with_ipv4 : (low number : ℕ) (rest : Bor (List ℕ))
          → Some (low, rest.now) ≡ option_map with_octets (read_ipv4_if (nat_lt (groups.count + 1) n) behind)
          → low < 2 ^ 32 → number ≡ low
          → IsSoFar n text
          (record { bits = groups.bits * 0x100000000 + number; count = groups.count + 2; closed = true; rest = rest })
      unfolding read_segments
      with_ipv4 low number rest e small is =
          let (octets, read, value) = seen_some from_octets (read_ipv4_if _ behind) low rest.now e in
          let whole : read_ipv4 behind ≡ Some (octets, rest.now) = grind (arith, read, none-some) in
          let (spelled, split, dotted) = read_ipv4_sound behind octets rest.now whole in
          let two = two_groups spelled octets low dotted value in
          record {
            front = so_far.front ++ segments_of octets;
            read = grind (arith, so_far.read, one_left, two_left, read);
            count = grind (arith, two, so_far.count, length-append);
            value = rw (two, is) (grind (arith, number_after_append, so_far.value));
            small = rw is (two_more groups.bits groups.count low so_far.small small);
            within = grind (arith, read, none-some, nat_tests);
          }

      module _ (no_ipv4 : None ≡ option_map with_octets (read_ipv4_if (nat_lt (groups.count + 1) n) behind)) where
        no_dots : None ≡ read_ipv4_if (nat_lt 0 left) behind
        no_dots = grind (arith, none-some, two_left)

        pub no_more : None ≡ read_segment behind → parts groups ≡ numbered (read_segments n true text)
        unfolding read_segments
        no_more none = grind (arith, so_far.read, so_far.value, so_far.count, append-nil, one_left, no_dots)

        pub with_group : (group number : ℕ) (rest : Bor (List ℕ)) → Some (group, rest.now) ≡ read_segment behind
            → group < 0x10000 → number ≡ group
            → IsSoFar n text
            (record { bits = groups.bits * 0x10000 + number; count = groups.count + 1; closed = false; rest = rest })
        unfolding read_segments
        with_group group number rest e small is = rw is (record {
          front = so_far.front ++ group ∷ [];
          read = grind (arith, so_far.read, one_left, no_dots, append_assoc, nat_tests);
          count = grind (arith, so_far.count, length-append);
          value = grind (arith, number_push, so_far.value);
          small = next_below 0x10000 (lit< tt) groups.count groups.bits group so_far.small small;
          within = omega (arith, so_far.within, within_bound);
        })
