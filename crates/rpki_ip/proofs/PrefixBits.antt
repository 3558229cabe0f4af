-- The bits of a prefix, as octets and as a number.
use Rattle.rpki_ip.proofs.Common.{subst, mul-mod_left, List, [], ap, arith, drop, length, refl, replicate, suc, take}
use Rattle.rpki_ip.proofs.Common.{zero, ℕ, ◌%◌, ◌*◌, ◌++◌, ◌+◌, ◌-◌, ◌/◌, ◌<◌, ◌^◌, ◌∙◌, ◌∷◌, ◌≡◌, ◌≤◌}
use Rattle.rpki_ip.proofs.Common.{div-div-eq-div-mul, pow-suc, drop-replicate, length-take, div-add-mod', pow-add}
use Rattle.rpki_ip.proofs.Common.{shl-shr, shl_below, shr-shr, shr_below, shr_split, byte_at, bytes_high_first}
use Rattle.rpki_ip.proofs.Common.{from_be_bytes, to_be_bytes, w128, IsPrefix, PrefixValue, IsBytes-rest, Bits, IsBits}
use Rattle.rpki_ip.proofs.Common.{IsBytes, big_endian, big_endian_after, SaysPrefix, octet_count, prefix_bits}
use borrow.Rule.Slice.PartMut.{put_mid}

-- ---- the number that octets spell

-- an octet is eight bits
octet_powers : (k : ℕ) → 256 ^ k ≡ 2 ^ (8 * k)
octet_powers zero = refl
octet_powers (suc k) = grind (arith, octet_powers k, pow-add 2 8 (8 * k), pow-suc)

-- octets behind a number of j bits
below_after : (xs : List ℕ) (n j : ℕ) → IsBytes xs → n < 2 ^ j → big_endian_after n xs < 2 ^ (j + 8 * length xs)
below_after [] n j fits lt = grind arith
below_after (x ∷ xs) n j fits lt =
    let digit : 2 ^ (j + 8) ≡ 2 ^ j * 256 = pow-add 2 j 8 in
    let more = below_after xs (n * 256 + x) (j + 8) (IsBytes-rest x xs fits) (omega (arith, fits 0)) in
    subst (λ k. big_endian_after (n * 256 + x) xs < 2 ^ k) (omega arith) more

-- octets spell a number of their bits
pub big_endian_below : (xs : List ℕ) → IsBytes xs → big_endian xs < 2 ^ (8 * length xs)
big_endian_below xs fits = subst (λ k. big_endian xs < 2 ^ k) (omega arith) (below_after xs 0 0 fits (omega arith))

-- bits with zeros behind them, of which only those stay that are used
pub used_bits : (n k u m : ℕ) → m ≡ k + u → n * 2 ^ k / 2 ^ m ≡ n / 2 ^ u
used_bits n k u m e = rw (e, ← shr-shr (n * 2 ^ k) k u, shl-shr n k) refl

-- ---- the first octets of a number

-- an octet of a number
pub byte_is : (k n : ℕ) → byte_at k n ≡ n / 256 ^ k % 256
byte_is k n = grind arith

-- the octets before it, and it
one_octet : (k a : ℕ) → a / 256 ^ suc k * 256 + byte_at k a ≡ a / 256 ^ k
one_octet k a = grind (arith, byte_is, div-add-mod', div-div-eq-div-mul, pow-suc)

-- the first n of the last k octets, behind the octets before them
first_octets : (n k a : ℕ) → n ≤ k → big_endian_after (a / 256 ^ k) (take n (bytes_high_first k a)) ≡ a / 256 ^ (k - n)
first_octets zero k a le = grind arith
first_octets (suc n) zero a le = absurd (omega arith)
first_octets (suc n) (suc k) a le = grind (arith, one_octet, first_octets n k a (omega arith))

-- the first n octets of an address spell its first bits
pub first_bits : (n a : ℕ) → n ≤ 16 → a < 2 ^ 128 → big_endian (take n (to_be_bytes w128 a)) ≡ a / 2 ^ (8 * (16 - n))
first_bits n a le lt =
    let none : 0 ≡ a / 256 ^ 16 = omega arith in
    ap (λ (t : ℕ). big_endian_after t (take n (bytes_high_first 16 a))) none ∙ first_octets n 16 a le
    ∙ ap (λ (t : ℕ). a / t) (octet_powers (16 - n))

-- these are n
pub length_first : (n a : ℕ) → n ≤ 16 → length (take n (to_be_bytes w128 a)) ≡ n
length_first n a le = omega (arith, length-take n (to_be_bytes w128 a))

-- ---- the bits of a prefix

-- they are a bit string
pub bits_fit : (p : PrefixValue) → IsPrefix 128 p → IsBits (prefix_bits p)
bits_fit p is = grind arith

-- of sixteen octets at most
pub bits_few : (p : PrefixValue) → IsPrefix 128 p → length (prefix_bits p).octets ≤ 16
bits_few p is = omega (arith, is.short, length_first (octet_count p.len) p.first (omega (arith, is.short)))

-- and say the prefix
pub bits_say : (limit : ℕ) (p : PrefixValue) → IsPrefix 128 p → p.len ≤ limit → SaysPrefix limit (prefix_bits p) p
bits_say limit p is short =
    let count : octet_count p.len ≤ 16 = omega (arith, is.short) in
    let long = length_first (octet_count p.len) p.first count in
    let number = first_bits (octet_count p.len) p.first count is.below in
    grind (arith, shr-shr, shr_split)

-- what bits say is a prefix
pub said_prefix : (limit : ℕ) (b : Bits) (p : PrefixValue) → limit ≤ 128 → IsBytes b.octets → SaysPrefix limit b p
    → IsPrefix 128 p
said_prefix limit b p le fits s = record {
  short = omega (arith, s.short, le);
  aligned = rw s.first (mul-mod_left (big_endian b.octets / 2 ^ b.unused) (2 ^ (128 - p.len)));
  below =
      (let bits : 8 * length b.octets ≡ p.len + b.unused = omega arith in
      let kept = shr_below (big_endian b.octets) p.len b.unused (rw bits at (big_endian_below b.octets fits)) in
      let all : p.len + (128 - p.len) ≡ 128 = omega (arith, s.short, le) in
      rw s.first (rw all at (shl_below (big_endian b.octets / 2 ^ b.unused) p.len (128 - p.len) kept)));
}

-- ---- octets with zeros behind them

-- sixteen octets that begin with these
abbrev padded : List ℕ → List ℕ
padded octets = octets ++ replicate (16 - length octets) 0

-- each zero makes the number an octet longer
from_be_bytes-padded : (octets : List ℕ) → length octets ≤ 16
    → from_be_bytes w128 (padded octets) ≡ big_endian octets * 2 ^ (128 - 8 * length octets)
from_be_bytes-padded [] le = refl
from_be_bytes-padded (a ∷ []) le = omega arith
from_be_bytes-padded (a ∷ b ∷ []) le = omega arith
from_be_bytes-padded (a ∷ b ∷ c ∷ []) le = omega arith
from_be_bytes-padded (a ∷ b ∷ c ∷ d ∷ []) le = omega arith
from_be_bytes-padded (a ∷ b ∷ c ∷ d ∷ e ∷ []) le = omega arith
from_be_bytes-padded (a ∷ b ∷ c ∷ d ∷ e ∷ f ∷ []) le = omega arith
from_be_bytes-padded (a ∷ b ∷ c ∷ d ∷ e ∷ f ∷ g ∷ []) le = omega arith
from_be_bytes-padded (a ∷ b ∷ c ∷ d ∷ e ∷ f ∷ g ∷ h ∷ []) le = omega arith
from_be_bytes-padded (a ∷ b ∷ c ∷ d ∷ e ∷ f ∷ g ∷ h ∷ i ∷ []) le = omega arith
from_be_bytes-padded (a ∷ b ∷ c ∷ d ∷ e ∷ f ∷ g ∷ h ∷ i ∷ j ∷ []) le = omega arith
from_be_bytes-padded (a ∷ b ∷ c ∷ d ∷ e ∷ f ∷ g ∷ h ∷ i ∷ j ∷ k ∷ []) le = omega arith
from_be_bytes-padded (a ∷ b ∷ c ∷ d ∷ e ∷ f ∷ g ∷ h ∷ i ∷ j ∷ k ∷ l ∷ []) le = omega arith
from_be_bytes-padded (a ∷ b ∷ c ∷ d ∷ e ∷ f ∷ g ∷ h ∷ i ∷ j ∷ k ∷ l ∷ m ∷ []) le = omega arith
from_be_bytes-padded (a ∷ b ∷ c ∷ d ∷ e ∷ f ∷ g ∷ h ∷ i ∷ j ∷ k ∷ l ∷ m ∷ n ∷ []) le = omega arith
from_be_bytes-padded (a ∷ b ∷ c ∷ d ∷ e ∷ f ∷ g ∷ h ∷ i ∷ j ∷ k ∷ l ∷ m ∷ n ∷ o ∷ []) le = omega arith
from_be_bytes-padded (a ∷ b ∷ c ∷ d ∷ e ∷ f ∷ g ∷ h ∷ i ∷ j ∷ k ∷ l ∷ m ∷ n ∷ o ∷ p ∷ []) le = omega arith
from_be_bytes-padded (a ∷ b ∷ c ∷ d ∷ e ∷ f ∷ g ∷ h ∷ i ∷ j ∷ k ∷ l ∷ m ∷ n ∷ o ∷ p ∷ q ∷ xs) le = absurd (omega arith)

-- sixteen zeros, with octets written over the first of them
pub number_before : (octets written : List ℕ) → length octets ≤ 16 → written ≡ octets
    → from_be_bytes w128
    (put_mid 0 (length octets) (0 ∷ 0 ∷ 0 ∷ 0 ∷ 0 ∷ 0 ∷ 0 ∷ 0 ∷ 0 ∷ 0 ∷ 0 ∷ 0 ∷ 0 ∷ 0 ∷ 0 ∷ 0 ∷ []) written)
    ≡ big_endian octets * 2 ^ (128 - 8 * length octets)
number_before octets written le e =
    let behind : drop (length octets) (replicate {A = ℕ} 16 0) ≡ _ = drop-replicate (length octets) 16 0 in
    rw (e, behind) (from_be_bytes-padded octets le)
