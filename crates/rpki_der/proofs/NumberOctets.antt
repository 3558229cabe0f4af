-- Numbers and the octets that spell them.
use Rattle.rpki_der.proofs.Common.{List, [], ap, arith, get_or, length, refl, replicate, suc, sym, take, zero, ℕ, ◌*◌}
use Rattle.rpki_der.proofs.Common.{◌++◌, ◌+◌, ◌-◌, ◌<◌, ◌^◌, ◌∙◌, ◌∷◌, ◌≡◌, ◌≢◌, ◌≤◌, length-append, length-replicate}
use Rattle.rpki_der.proofs.Common.{from_be_bytes, to_be_bytes, w64, IsBytes, big_endian, big_endian_after, octets}
use Rattle.rpki_der.proofs.Common.{without_zeros}
use Rattle.std.proofs.Common.{lit≤}
use Rattle.std.proofs.Math.Nat.{pow-le-pow_right}
use Rattle.std.proofs.lemmas.Nat.{be_bytes_8, from_be_bytes-to_be_bytes_8, pow-add}
use Rattle.rpki_der.proofs.ReadingSteps.{IsBytes-zeros}

-- ---- one digit more

-- from any number on
more_after : (n : ℕ) (ds : List ℕ) (i : ℕ) → i < length ds
    → big_endian_after n (take (suc i) ds) ≡ big_endian_after n (take i ds) * 256 + get_or ds i 0
more_after n [] i lt = absurd (omega arith)
more_after n (d ∷ ds) zero lt = refl
more_after n (d ∷ ds) (suc i) lt = more_after (n * 256 + d) ds i (omega arith)

pub big_endian_more : (ds : List ℕ) (i : ℕ) → i < length ds
    → big_endian (take (i + 1) ds) ≡ big_endian (take i ds) * 256 + get_or ds i 0
big_endian_more ds i lt = let e : i + 1 ≡ suc i = omega arith in rw e (more_after 0 ds i lt)

-- it is eight bits
pub digit_more : (i : ℕ) → 2 ^ (8 * (i + 1)) ≡ 2 ^ (8 * i) * 256
digit_more i = let e : 8 * (i + 1) ≡ 8 * i + 8 = omega arith in ap (λ k. 2 ^ k) e ∙ pow-add 2 (8 * i) 8

-- so seven octets have 56 at most
pub digits_fit : (i : ℕ) → i < 8 → 2 ^ (8 * i) ≤ 2 ^ 56
digits_fit i few = pow-le-pow_right {n = 2} (lit≤ tt) {i = 8 * i} {j = 56} (omega (arith, few))

-- ---- digits behind zeros, eight in all

-- eight octets that end with the digits
abbrev padded : List ℕ → List ℕ
padded digits = replicate (8 - length digits) 0 ++ digits

-- zeros in front change no number
from_be_bytes-padded : (ds : List ℕ) → length ds ≤ 8 → from_be_bytes w64 (padded ds) ≡ big_endian ds
from_be_bytes-padded [] le = refl
from_be_bytes-padded (a ∷ []) le = omega arith
from_be_bytes-padded (a ∷ b ∷ []) le = omega arith
from_be_bytes-padded (a ∷ b ∷ c ∷ []) le = omega arith
from_be_bytes-padded (a ∷ b ∷ c ∷ d ∷ []) le = omega arith
from_be_bytes-padded (a ∷ b ∷ c ∷ d ∷ e ∷ []) le = omega arith
from_be_bytes-padded (a ∷ b ∷ c ∷ d ∷ e ∷ f ∷ []) le = omega arith
from_be_bytes-padded (a ∷ b ∷ c ∷ d ∷ e ∷ f ∷ g ∷ []) le = omega arith
from_be_bytes-padded (a ∷ b ∷ c ∷ d ∷ e ∷ f ∷ g ∷ h ∷ []) le = omega arith
from_be_bytes-padded (a ∷ b ∷ c ∷ d ∷ e ∷ f ∷ g ∷ h ∷ i ∷ ds) le = absurd (omega arith)

-- ---- octets without zeros in front

-- zeros in front go
without_zeros-zeros : (n : ℕ) (ds : List ℕ) → without_zeros (replicate n 0 ++ ds) ≡ without_zeros ds
without_zeros-zeros zero ds = refl
without_zeros-zeros (suc n) ds = without_zeros-zeros n ds

-- octets that begin with no zero stay
without_zeros-head : (d : ℕ) (ds : List ℕ) → d ≢ 0 → without_zeros (d ∷ ds) ≡ d ∷ ds
without_zeros-head d ds h = grind arith

-- no octet is added
pub length-without_zeros : (ds : List ℕ) → length (without_zeros ds) ≤ length ds
length-without_zeros [] = omega arith
length-without_zeros (zero ∷ ds) = omega (arith, length-without_zeros ds)
length-without_zeros (suc d ∷ ds) = omega arith

-- the number stays
big_endian-without_zeros : (ds : List ℕ) → big_endian (without_zeros ds) ≡ big_endian ds
big_endian-without_zeros [] = refl
big_endian-without_zeros (zero ∷ ds) = big_endian-without_zeros ds
big_endian-without_zeros (suc d ∷ ds) = refl

-- what stays begins with no zero
head_or_nil : (ds : List ℕ) → (without_zeros ds ≡ [] → ⊥) → get_or (without_zeros ds) 0 0 ≢ 0
head_or_nil [] h e = h refl
head_or_nil (zero ∷ ds) h e = head_or_nil ds h e
head_or_nil (suc d ∷ ds) h e = absurd (omega arith)

-- ---- the octets of a number

-- the fewest octets of a number spell it
pub big_endian-octets : (n : ℕ) → n < 2 ^ 64 → big_endian (octets n) ≡ n
unfolding octets
big_endian-octets n lt =
    let same = from_be_bytes-padded (to_be_bytes w64 n) (omega arith) in
    big_endian-without_zeros (to_be_bytes w64 n) ∙ sym same ∙ from_be_bytes-to_be_bytes_8 n lt

-- octets that don't begin with zero are the fewest of their number
pub octets-big_endian : (ds : List ℕ) → IsBytes ds → 0 < length ds → length ds ≤ 8 → get_or ds 0 0 ≢ 0
    → octets (big_endian ds) ≡ ds
unfolding octets
octets-big_endian [] fits some le nonzero = absurd (omega arith)
octets-big_endian (d ∷ ds) fits some le nonzero =
    let m = 8 - suc (length ds) in
    let len : length (padded (d ∷ ds)) ≡ 8 =
    omega (arith, length-append (replicate m 0) (d ∷ ds), length-replicate {A = ℕ} m 0) in
    let number = sym (from_be_bytes-padded (d ∷ ds) le) in
    let same = be_bytes_8 (padded (d ∷ ds)) (big_endian (d ∷ ds)) len (IsBytes-zeros m (d ∷ ds) fits) number in
    grind (arith, without_zeros-zeros m (d ∷ ds), without_zeros-head)

-- eight octets spell a number below 2 ^ 64
eight : (bs : List ℕ) → IsBytes bs → from_be_bytes w64 bs < 2 ^ 64
eight bs h = omega (arith, h 0, h 1, h 2, h 3, h 4, h 5, h 6, h 7)

-- at most eight octets spell a number below 2 ^ 64
pub big_endian_small : (ds : List ℕ) → IsBytes ds → length ds ≤ 8 → big_endian ds < 2 ^ 64
big_endian_small ds fits le =
    grind (arith, from_be_bytes-padded ds le, eight (padded ds), IsBytes-zeros (8 - length ds) ds)

-- a number below 2 ^ 64 has eight octets at most
pub length-octets : (n : ℕ) → length (octets n) ≤ 8
unfolding octets
length-octets n = length-without_zeros (to_be_bytes w64 n)

-- 0 has none
pub octets-zero : octets 0 ≡ []
unfolding octets
octets-zero = refl

-- the first octet of a number above 0 is no zero
pub octets_head : (n : ℕ) → 0 < n → n < 2 ^ 64 → get_or (octets n) 0 0 ≢ 0
unfolding octets
octets_head n pos lt =
    let back = big_endian-octets n lt in head_or_nil (to_be_bytes w64 n) (λ none. grind arith)
