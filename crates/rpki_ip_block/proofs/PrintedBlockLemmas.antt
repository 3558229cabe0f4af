-- What is printed of a block is a text of a block with its bounds.
use Rattle.rpki_ip_block.proofs.Common.{List, MatchResult, None, Result, Some, ap, arith, decimal, inl, inr, refl, sym}
use Rattle.rpki_ip_block.proofs.Common.{ℕ, ◌∙◌, ◌≡◌, ◌≤◌, cases_eq, eq-eqb, ne_eqb, IsIpText-ip_text, cleared_first}
use Rattle.rpki_ip_block.proofs.Common.{first_of, greatest_of, cleared, ip_text, bits_of, family_of, AddressFamily}
use Rattle.rpki_ip_block.proofs.Common.{single_of, IsAddressText, as_ip, shown_bits, FromStrError, Answers}
use Rattle.rpki_ip_block.proofs.Common.{HasIpBlockFault, IsIpBlockText, ip_bounds, IsBlockOf, ReadsIpBlock}
use Rattle.rpki_ip_block.proofs.Common.{ip_block_text, IpBlock, Prefix, Range}
use Rattle.rpki_addr.specs.Widths.{width}
use Rattle.rpki_addr.specs.FromStrResults.{IsAddress}
use Rattle.rpki_text.proofs.NumberTexts.{IsNumberText-decimal}
use Rattle.std.proofs.lemmas.Fmt.{decimal_is_IsNumeral}
use Rattle.rpki_ip_block.proofs.IpBlockDerWritten.{family_within}
use Rattle.rpki_ip_block.proofs.BlockFrontLemmas.{IsPlainBlock, plain_prefix, plain_range, plain_single}

-- the address of a family is of that family
of_family : (family : AddressFamily) (bits : ℕ) → family_of (as_ip family bits) ≡ family
of_family family bits = grind arith

-- with as many bits
as_wide : (family : AddressFamily) (bits : ℕ) → width (as_ip family bits) ≡ bits_of family
as_wide family bits = grind arith

-- and its text writes it
is_written : (family : AddressFamily) (bits : ℕ) → IsAddress (as_ip family bits)
    → IsAddressText (Some family) (ip_text (as_ip family bits)) (as_ip family bits)
is_written family bits small = (of_family family bits, IsIpText-ip_text (as_ip family bits) small)

-- n is the least number of the address that is printed of it
record Begins (family : AddressFamily) (n : ℕ) : Type 0 where
  small : IsAddress (as_ip family (shown_bits family n))
  is : n ≡ first_of (as_ip family (shown_bits family n))

-- or the greatest
record Ends (family : AddressFamily) (n : ℕ) : Type 0 where
  small : IsAddress (as_ip family (shown_bits family n))
  is : n ≡ greatest_of (as_ip family (shown_bits family n))

-- so the least number of a block of the family
begins_of : (family : AddressFamily) (b : IpBlock) → IsBlockOf family b → Begins family (ip_bounds b).0
begins_of family b is = grind arith

-- a block that the text writes, with the bounds of b
pub record WritesBoundsOf (family : AddressFamily) (text : List ℕ) (b : IpBlock) : Type 0 where
  pub block : IpBlock
  pub plain : IsPlainBlock family text block
  pub bounds : ip_bounds block ≡ ip_bounds b

-- what is printed of a block writes its bounds
pub written_of : (family : AddressFamily) (b : IpBlock) → IsBlockOf family b
    → WritesBoundsOf family (ip_block_text family b) b
written_of family (Prefix p) h =
    let begins = begins_of family (Prefix p) h in
    let (prefix, short) = family_within family (Prefix p) h in
    let a = as_ip family (shown_bits family p.first) in
    let is = is_written family (shown_bits family p.first) begins.small in
    elim (cases_eq p.len (bits_of family)) [
      | inl e ↦ rw (eq-eqb p.len (bits_of family) e) (record {
        block = Range (record { min = first_of a; max = greatest_of a });
        plain = plain_single family (ip_text a) a _ is (single_of a _ _ _ refl refl refl);
        bounds = grind arith;
      })
      | inr n ↦ rw (ne_eqb p.len (bits_of family) n) (record {
        block = Prefix p;
        plain =
            plain_prefix family (ip_text a) (decimal p.len) a p is
            (decimal_is_IsNumeral p.len (omega (arith, prefix.short))).0.1
            (record {
              length_text = IsNumberText-decimal 255 p.len (omega (arith, prefix.short)) (omega (arith, prefix.short));
              within = rw (as_wide family (shown_bits family p.first)) short;
              first = sym (cleared_first 128 p prefix) ∙ ap (λ x. cleared 128 x p.len) begins.is;
            });
        bounds = refl;
      })
    ]
written_of family (Range r) h =
    let begins = begins_of family (Range r) h in
    let ends : Ends family r.max = grind arith in
    let ordered : r.min ≤ r.max = grind arith in
    let a = as_ip family (shown_bits family r.min) in
    let b = as_ip family (shown_bits family r.max) in
    let is = is_written family (shown_bits family r.min) begins.small in
    let iz = is_written family (shown_bits family r.max) ends.small in
    elim (cases_eq (shown_bits family r.min) (shown_bits family r.max)) [
      | inl e ↦ rw (eq-eqb (shown_bits family r.min) (shown_bits family r.max) e) (record {
        block = Range r;
        plain = plain_single family (ip_text a) a r is (grind arith);
        bounds = refl;
      })
      | inr n ↦ rw (ne_eqb (shown_bits family r.min) (shown_bits family r.max) n) (record {
        block = Range r;
        plain = plain_range family (ip_text a) (ip_text b) a b r is iz (grind (arith, of_family));
        bounds = refl;
      })
    ]

-- so a reader that answers what a text writes reads it back
pub block_back : (family : AddressFamily) (text : List ℕ) (r : Result IpBlock FromStrError)
    → Answers (IsIpBlockText (Some family) text) (HasIpBlockFault (Some family) text) r → (b : IpBlock)
    → IsBlockOf family b → text ≡ ip_block_text family b → MatchResult r (λ read. ip_bounds read ≡ ip_bounds b) (λ _. ⊥)
block_back family text r exact b h is = grind (arith, written_of)

-- a block of one family that the text writes is one of either
either_family : (family : AddressFamily) (text : List ℕ) (b : IpBlock) → IsIpBlockText (Some family) text b
    → IsIpBlockText None text b
either_family family text b h = grind arith

-- so a reader of either family reads both back
pub reads_block : (text : List ℕ) (r : Result IpBlock FromStrError)
    → Answers (IsIpBlockText None text) (HasIpBlockFault None text) r → ReadsIpBlock text r
reads_block text r exact = grind (arith, either_family, written_of)
