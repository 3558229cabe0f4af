-- A text of a list of blocks has one list of values or one first fault.
use Rattle.rpki_ip_block.proofs.Common.{Bool, Err, IsTrue, List, MatchResult, Ok, Option, Result, Some, false, inl, inr}
use Rattle.rpki_ip_block.proofs.Common.{sym, true, ℕ, ◌↔◌, ◌∙◌, ◌≡◌, AddressFamily, FromStrError, HasFirstFault}
use Rattle.rpki_ip_block.proofs.Common.{HaveValues, elements, IfRefused, AnswersOrMemory, OrMemory, HasIpBlockFault}
use Rattle.rpki_ip_block.proofs.Common.{IsIpBlockText, HasBlocks, HasBlocksFault, HasElementFault, HasIpBlocks}
use Rattle.rpki_ip_block.proofs.Common.{HasIpBlocksFault, HasMismatch, IsElementText, IsFamilyOf, IsForeign, IpBlock}
use Rattle.rpki_ip_block.proofs.Common.{arith}
use Rattle.rpki_text.proofs.TextListLemmas.{AnswersOrMemory-from_found, HaveValues-one, first_fault_apart}
use Rattle.rpki_text.proofs.TextListLemmas.{same_first_fault}
use Rattle.rpki_ip_block.proofs.BlockTextLemmas.{block_one}

-- an element that isn't taken for one of the other family is read as a block
pub element_found : (family : AddressFamily) (text : List ℕ) (r : Result IpBlock FromStrError) (test : Bool)
    → (IsTrue test ↔ IsForeign family text) → test ≡ false
    → MatchResult r (IsIpBlockText (Some family) text) (HasIpBlockFault (Some family) text)
    → MatchResult r (IsElementText family text) (HasElementFault family text)
element_found family text (Ok b) test same is h = ((λ foreign. let yes : test ≡ true = same.1 foreign in cc), h)
element_found family text (Err e) test same is h = inr ((λ foreign. let yes : test ≡ true = same.1 foreign in cc), h)

-- a text has one block at most, or one fault
same_block : (w : Option AddressFamily) (text : List ℕ) (a b : IpBlock) → IsIpBlockText w text a
    → IsIpBlockText w text b → a ≡ b
same_block w text a b h k = let is = block_one w text (Ok a) (Ok b) h k in cc

element_apart : (family : AddressFamily) (text : List ℕ) (a : IpBlock) (e : FromStrError) → IsElementText family text a
    → HasElementFault family text e → ⊥
element_apart family text a e h (inl k) = h.0 k.0
element_apart family text a e h (inr k) = let is = block_one (Some family) text (Ok a) (Err e) h.1 k.1 in cc

same_element_fault : (family : AddressFamily) (text : List ℕ) (d e : FromStrError) → HasElementFault family text d
    → HasElementFault family text e → d ≡ e
same_element_fault family text d e (inl h) (inl k) = h.1 ∙ sym k.1
same_element_fault family text d e (inl h) (inr k) = absurd (k.0 h.0)
same_element_fault family text d e (inr h) (inl k) = absurd (h.0 k.0)
same_element_fault family text d e (inr h) (inr k) =
    let is = block_one (Some family) text (Err d) (Err e) h.1 k.1 in cc

ruleset one_element = (element_apart, same_element_fault)

-- a list of one family writes one list of blocks at most
pub same_blocks : (family : AddressFamily) (text : List ℕ) (a b : List IpBlock) → HasBlocks family text a
    → HasBlocks family text b → a ≡ b
same_blocks family text =
    HaveValues-one (IsElementText family) (λ t a b h k. same_block (Some family) t a b h.1 k.1) (elements text)

-- or has one fault
pub family_answers : {V : Type 0} (view : V → List IpBlock) (family : AddressFamily) (text : List ℕ)
    (r : Result V (OrMemory FromStrError))
    → MatchResult r (λ v. HasBlocks family text (view v)) (IfRefused (HasBlocksFault family text))
    → AnswersOrMemory view (HasBlocks family text) (HasBlocksFault family text) r
family_answers view family text r found =
    search (arith, AnswersOrMemory-from_found, first_fault_apart, one_element, same_blocks, same_first_fault)

-- a list that tells no family has one
pub same_family : (text : List ℕ) (f g : AddressFamily) → IsFamilyOf text f → IsFamilyOf text g → f ≡ g
same_family text f g h h2 = grind arith

pub same_ip_blocks : (text : List ℕ) (a b : List IpBlock) → HasIpBlocks text a → HasIpBlocks text b → a ≡ b
same_ip_blocks text a b h h2 = grind (arith, HaveValues-one, same_block, same_family)

ip_blocks_apart : (text : List ℕ) (a : List IpBlock) (e : FromStrError) → HasIpBlocks text a → HasIpBlocksFault text e
    → ⊥
ip_blocks_apart text a e (f, is, h) (g, iz, k) =
    first_fault_apart (IsIpBlockText (Some f)) (HasMismatch f) (λ text a e h k. k.0 a h) (elements text) a e h
    (rw (same_family text g f iz is) at k)

pub ip_answers : {V : Type 0} (view : V → List IpBlock) (family : AddressFamily) (text : List ℕ)
    → IsFamilyOf text family → (r : Result V (OrMemory FromStrError))
    → MatchResult r (λ v. HaveValues (IsIpBlockText (Some family)) (elements text) (view v))
    (IfRefused (HasFirstFault (IsIpBlockText (Some family)) (HasMismatch family) (elements text)))
    → AnswersOrMemory view (HasIpBlocks text) (HasIpBlocksFault text) r
ip_answers view family text is r found =
    AnswersOrMemory-from_found view (HasIpBlocks text) (HasIpBlocksFault text) (same_ip_blocks text)
    (ip_blocks_apart text) (λ d e h k. grind arith) r (grind arith)
