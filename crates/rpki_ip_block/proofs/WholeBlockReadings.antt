-- What is read as blocks of IPv4, from texts and from octets, begins and ends with whole IPv4 addresses.
use Rattle.rpki_ip_block.proofs.Common.{Err, List, Ok, Result, Some, [], arith, sym, ℕ, ◌*◌, ◌+◌, ◌-◌, ◌/◌, ◌^◌, ◌∷◌}
use Rattle.rpki_ip_block.proofs.Common.{◌≡◌, ◌≤◌, add-mul, mul-mod_left, mul_assoc, All-cons, All-nil, pow-add, pow_pos}
use Rattle.rpki_ip_block.proofs.Common.{IfOk, first_of, cleared, PrefixValue, family_of, AddressFamily, Ipv4, Each}
use Rattle.rpki_ip_block.proofs.Common.{FromStrError, FamilyPrefix, IsFamilyPrefix, HaveValues, elements}
use Rattle.rpki_ip_block.proofs.Common.{AnswersOrMemory, OrMemory, IsIpBlockDer, IsIpBlockText, ip_bounds}
use Rattle.rpki_ip_block.proofs.Common.{prefix_bounds, HasBlocks, HasBlocksFault, HasIpBlocks, IsElementText}
use Rattle.rpki_ip_block.proofs.Common.{IsFamilyOf, IpBlock, All}
use Rattle.rpki_ip.specs.Whole.{HasWholeBounds}
use Rattle.rpki_ip_block.proofs.BlockFormLemmas.{family_prefix}
use Rattle.rpki_ip_block.proofs.BlockListLemmas.{same_family}

-- ---- texts

-- a prefix of at most 32 bits has whole bounds
whole_at : (p : PrefixValue) (m : ℕ) → p.len ≤ 32 → p.first ≡ m * 2 ^ (128 - p.len) → HasWholeBounds (prefix_bounds p)
whole_at p m short first =
    let more : 128 - p.len ≡ (32 - p.len) + 96 = omega (arith, short) in
    grind (arith, add-mul, mul-mod_left, mul_assoc, pow-add, pow_pos)

whole_prefix : (p : PrefixValue) (n : ℕ) → p.len ≤ 32 → p.first ≡ cleared 128 n p.len → HasWholeBounds (prefix_bounds p)
whole_prefix p n = whole_at p (n / 2 ^ (128 - p.len))

-- so has the block of an IPv4 prefix
pub whole_family_prefix : (p : FamilyPrefix) → IsFamilyPrefix p → family_of p.addr ≡ Ipv4
    → HasWholeBounds (prefix_bounds (record { first = first_of p.addr; len = p.len }))
whole_family_prefix p is v4 =
    whole_prefix (record { first = first_of p.addr; len = p.len }) (first_of p.addr) (grind arith)
    (sym (family_prefix p is))

-- so has a block that is read as one of IPv4
pub whole_text : (text : List ℕ) (b : IpBlock) → IsIpBlockText (Some Ipv4) text b → HasWholeBounds (ip_bounds b)
whole_text text b h = grind (arith, whole_prefix)

-- and each block of a list of IPv4
pub whole_values : (Has : List ℕ → IpBlock → Type 0)
    → ((text : List ℕ) (b : IpBlock) → Has text b → IsIpBlockText (Some Ipv4) text b)
    → (texts : List (List ℕ)) (blocks : List IpBlock) → HaveValues Has texts blocks
    → All (λ b. HasWholeBounds (ip_bounds b)) blocks
whole_values Has is_text [] [] h = All-nil (λ b. HasWholeBounds (ip_bounds b))
whole_values Has is_text [] (b ∷ blocks) h = absurd h
whole_values Has is_text (text ∷ texts) [] h = All-nil (λ b. HasWholeBounds (ip_bounds b))
whole_values Has is_text (text ∷ texts) (b ∷ blocks) h =
    grind (arith, All-cons, whole_text, whole_values Has is_text texts blocks h.1)

-- of one that is told to be of IPv4
pub whole_list : (text : List ℕ) (blocks : List IpBlock) → HasBlocks Ipv4 text blocks
    → All (λ b. HasWholeBounds (ip_bounds b)) blocks
whole_list text = whole_values (IsElementText Ipv4) (λ t b h. h.1) (elements text)

-- and of one that tells it
pub whole_list_without_family : (text : List ℕ) (blocks : List IpBlock) → IsFamilyOf text Ipv4 → HasIpBlocks text blocks
    → All (λ b. HasWholeBounds (ip_bounds b)) blocks
whole_list_without_family text blocks v4 (family, ensured, have) =
    let same = same_family text family Ipv4 ensured v4 in
    whole_values (IsIpBlockText (Some Ipv4)) (λ t b h. h) (elements text) blocks (rw same at have)

-- so the reader of lists answers such blocks
pub whole_family_list : {V : Type 0} (view : V → List IpBlock) (family : AddressFamily) (text : List ℕ)
    (r : Result V (OrMemory FromStrError)) → AnswersOrMemory view (HasBlocks family text) (HasBlocksFault family text) r
    → IfOk r (λ v. family ≡ Ipv4 → All (λ b. HasWholeBounds (ip_bounds b)) (view v))
whole_family_list view family text (Ok v) exact = λ v4. whole_list text (view v) (rw v4 at exact.found)
whole_family_list view family text (Err e) exact = tt

-- ---- octets

-- what octets say with at most 32 bits has whole bounds
whole_der : (bytes : List ℕ) (block : IpBlock) → IsIpBlockDer 32 bytes block → HasWholeBounds (ip_bounds block)
whole_der bytes block h = grind (arith, whole_at)

pub whole_each : (bytes : List ℕ) (blocks : List IpBlock) → Each (IsIpBlockDer 32) bytes blocks
    → All (λ b. HasWholeBounds (ip_bounds b)) blocks
whole_each bytes [] is = All-nil (λ b. HasWholeBounds (ip_bounds b))
whole_each bytes (b ∷ blocks) (rest, (front, is, split), more) =
    grind (arith, All-cons, whole_der, whole_each rest blocks more)
