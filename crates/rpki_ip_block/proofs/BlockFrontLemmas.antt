-- Blocks at the front of a text: the addresses that write one, and what stands round them.
use Rattle.rpki_ip_block.proofs.Common.{List, Some, [], append_assoc, arith, inl, length, length-append, lit<, lit≤}
use Rattle.rpki_ip_block.proofs.Common.{refl, subst, ℕ, ◌++◌, ◌<◌, ◌∷◌, ◌≡◌, ◌≢◌, ◌≤◌, All-append, All-cons}
use Rattle.rpki_ip_block.proofs.Common.{All-contains, All-from_recursion, All-weaker, Contains-append_left}
use Rattle.rpki_ip_block.proofs.Common.{recursion_from_All, digit_from_value, IsDigitOrDot, IsInRange, AllByRecursion}
use Rattle.rpki_ip_block.proofs.Common.{PrefixValue, IpAddr, V4, V6, AddressFamily, Ipv4, Ipv6, IsAddressText}
use Rattle.rpki_ip_block.proofs.Common.{IsIpBlockText, IsPrefixAt, IsRangeFrom, RangeValue, HasNo, dash, slash, no_dash}
use Rattle.rpki_ip_block.proofs.Common.{no_slash, not_slash, IsBlockAtFront, IsPrefixAfterSlash, IsRangeAfterDash}
use Rattle.rpki_ip_block.proofs.Common.{IsForeign, IpBlock, Prefix, Range, Around, IsCutAt, All, Contains}
use Rattle.std.specs.Str.Parse.{AllDigits}
use Rattle.rpki_addr.specs.AddressFronts.{IsAtFront}
use Rattle.rpki_addr.proofs.WrittenBytes.{IsWrittenByte, ipv4_written, ipv4_some, ipv6_written, ipv6_colon, wider}

-- what keeps a text from being taken for one of the other family: in IPv4 no byte from the colon on, in IPv6 a colon
abbrev pub OwnBytes : AddressFamily → List ℕ → Type 0
OwnBytes Ipv4 text = All (λ b. b < 58) text
OwnBytes Ipv6 text = Contains text 58

pub not_foreign : (family : AddressFamily) (text : List ℕ) → OwnBytes family text → ¬ IsForeign family text
not_foreign Ipv4 text h foreign = let below = All-contains (λ b. b < 58) text 58 h foreign in omega (arith, below)
not_foreign Ipv6 text h foreign = foreign.1 h

own_and_more : (family : AddressFamily) (xs : List ℕ) (b : ℕ) (ys : List ℕ) → OwnBytes family xs → b < 58
    → (family ≡ Ipv4 → All (λ c. c < 58) ys) → OwnBytes family (xs ++ b ∷ ys)
own_and_more Ipv4 xs b ys own low more = search (arith, All-append, All-cons, more refl)
own_and_more Ipv6 xs b ys own low more = Contains-append_left xs (b ∷ ys) 58 own

-- the text of an address of a family, by its bytes
record IsPlain (family : AddressFamily) (text : List ℕ) : Type 0 where
  some : 0 < length text
  written : All IsWrittenByte text
  own : OwnBytes family text

below_colon : (b : ℕ) → IsDigitOrDot b → b < 58
below_colon b h = grind arith

contains_some : (xs : List ℕ) (x : ℕ) → Contains xs x → 0 < length xs
contains_some xs x h = omega (arith, h.1)

plain : (family : AddressFamily) (text : List ℕ) (a : IpAddr) → IsAddressText (Some family) text a → IsPlain family text
plain Ipv4 text (V4 n) h = search (arith, All-weaker, below_colon, wider, ipv4_some, ipv4_written)
plain Ipv4 text (V6 n) h = absurd (let other = h.0 in cc)
plain Ipv6 text (V4 n) h = absurd (let other = h.0 in cc)
plain Ipv6 text (V6 n) h = search (arith, contains_some, ipv6_colon, ipv6_written)

-- its bytes are shown, and two with a dash between them have no slash
all_shown : (text : List ℕ) → All IsWrittenByte text → All (IsInRange 45 126) text
all_shown text h = All-weaker IsWrittenByte (IsInRange 45 126) (λ b byte. grind arith) text h

no_slash_between : (left right : List ℕ) → All IsWrittenByte left → All IsWrittenByte right
    → HasNo slash (left ++ dash ∷ right)
no_slash_between left right h k i l =
    let all = All-append (λ b. b ≢ slash) left (dash ∷ right) (All-weaker IsWrittenByte _ not_slash left h)
    (All-cons (λ b. b ≢ slash) dash right (λ e. omega (arith, e)) (All-weaker IsWrittenByte _ not_slash right k)) in
    all i 0 l

-- digits
digits_written : (ds : List ℕ) → AllDigits 10 ds → AllByRecursion (IsInRange 48 57) ds
digits_written [] h = tt
digits_written (c ∷ cs) h = (grind (arith, digit_from_value c h.0), digits_written cs h.1)

-- ---- the texts of blocks

-- a text that writes the block, with bytes of its family that are shown
pub record IsPlainBlock (family : AddressFamily) (text : List ℕ) (block : IpBlock) : Type 0 where
  pub some : 0 < length text
  pub own : OwnBytes family text
  pub writes : IsIpBlockText (Some family) text block
  pub shown : AllByRecursion (IsInRange 45 126) text

-- an address, and something behind it
plain_pair : (family : AddressFamily) (xs : List ℕ) (b : ℕ) (ys : List ℕ) (block : IpBlock) → IsPlain family xs → 45 ≤ b
    → b < 58 → All (IsInRange 45 126) ys → (family ≡ Ipv4 → All (λ c. c < 58) ys)
    → IsIpBlockText (Some family) (xs ++ b ∷ ys) block → IsPlainBlock family (xs ++ b ∷ ys) block
plain_pair family xs b ys block here high low seen more writes = record {
  some = omega (arith, length-append xs (b ∷ ys), here.some);
  own = own_and_more family xs b ys here.own low more;
  writes = writes;
  shown =
      recursion_from_All (IsInRange 45 126) (xs ++ b ∷ ys) (All-append (IsInRange 45 126) xs (b ∷ ys)
      (all_shown xs here.written) (All-cons (IsInRange 45 126) b ys (high, omega (arith, low)) seen));
}

-- what stands round the first of a byte
around_here : (b : ℕ) (xs ys : List ℕ) (P : List ℕ → List ℕ → Type 0) → HasNo b xs → P xs ys
    → Around b (xs ++ b ∷ ys) P
around_here b xs ys P none holds =
    let cut : IsCutAt b (xs ++ b ∷ ys) xs ys = record { split = refl; first = none } in
    record { left = xs; right = ys; cut = cut; holds = holds }

-- one address
pub plain_single : (family : AddressFamily) (text : List ℕ) (a : IpAddr) (r : RangeValue)
    → IsAddressText (Some family) text a → IsRangeFrom a a r → IsPlainBlock family text (Range r)
plain_single family text a r at is =
    grind (arith, all_shown, no_dash, no_slash, plain family text a at, recursion_from_All (IsInRange 45 126) text)

-- two round a dash
pub plain_range : (family : AddressFamily) (xs ys : List ℕ) (a b : IpAddr) (r : RangeValue)
    → IsAddressText (Some family) xs a → IsAddressText (Some family) ys b → IsRangeFrom a b r
    → IsPlainBlock family (xs ++ dash ∷ ys) (Range r)
plain_range family xs ys a b r at to is =
    let here = plain family xs a at in
    let there = plain family ys b to in
    let bare = no_slash_between xs ys here.written there.written in
    plain_pair family xs dash ys (Range r) here (lit≤ tt) (lit< tt) (all_shown ys there.written)
    (λ v4. subst (λ f. OwnBytes f ys) v4 there.own)
    (bare, inl (around_here dash xs ys _ (no_dash xs here.written) (a, at, (b, to, is))))

-- one and a length round a slash
pub plain_prefix : (family : AddressFamily) (xs ys : List ℕ) (a : IpAddr) (p : PrefixValue)
    → IsAddressText (Some family) xs a → AllDigits 10 ys → IsPrefixAt a ys p
    → IsPlainBlock family (xs ++ slash ∷ ys) (Prefix p)
plain_prefix family xs ys a p at digits is =
    let here = plain family xs a at in
    let all = All-from_recursion (IsInRange 48 57) ys (digits_written ys digits) in
    plain_pair family xs slash ys (Prefix p) here (lit≤ tt) (lit< tt)
    (All-weaker (IsInRange 48 57) (IsInRange 45 126) (λ b h. (omega (arith, h.0), omega (arith, h.1))) ys all)
    (λ v4. All-weaker (IsInRange 48 57) (λ b. b < 58) (λ b h. omega (arith, h.1)) ys all)
    (around_here slash xs ys _ (no_slash xs here.written) (a, at, is))

-- ---- at the front of a text

at_front : (family : AddressFamily) (text front : List ℕ) (block : IpBlock) (rest : List ℕ)
    → IsPlainBlock family front block → text ≡ front ++ rest → IsBlockAtFront family text block rest
at_front family text front block rest is split = grind (arith, not_foreign)

-- one address is a block
pub single_front : (family : AddressFamily) (text : List ℕ) (a : IpAddr) (rest : List ℕ) (r : RangeValue)
    → IsAtFront (IsAddressText (Some family)) text a rest → IsRangeFrom a a r
    → IsBlockAtFront family text (Range r) rest
single_front family text a rest r h is =
    at_front family text h.front (Range r) rest (plain_single family h.front a r h.writes is) h.split

-- so is what is found behind a dash or a slash
pub range_found : (family : AddressFamily) (text : List ℕ) (a : IpAddr) (rest last : List ℕ) (block : IpBlock)
    (left : List ℕ) → IsAtFront (IsAddressText (Some family)) text a rest → rest ≡ dash ∷ last
    → IsRangeAfterDash family a last block left → IsBlockAtFront family text block left
range_found family text a rest last (Range r) left h is k =
    at_front family text (h.front ++ dash ∷ k.front) (Range r) left
    (plain_range family h.front k.front a k.writes.0 r h.writes k.writes.1 k.writes.2)
    (grind (arith, append_assoc, h.split, k.split))
range_found family text a rest last (Prefix p) left h is k = absurd k

pub prefix_found : (family : AddressFamily) (text : List ℕ) (a : IpAddr) (rest len : List ℕ) (block : IpBlock)
    (left : List ℕ) → IsAtFront (IsAddressText (Some family)) text a rest → rest ≡ slash ∷ len
    → IsPrefixAfterSlash a len block left → IsBlockAtFront family text block left
prefix_found family text a rest len (Prefix p) left h is k =
    at_front family text (h.front ++ slash ∷ k.front) (Prefix p) left
    (plain_prefix family h.front k.front a p h.writes k.writes.0 k.writes.1)
    (grind (arith, append_assoc, h.split, k.split))
prefix_found family text a rest len (Range r) left h is k = absurd k
