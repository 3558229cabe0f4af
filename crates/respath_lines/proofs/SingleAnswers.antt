-- An answer is that of one value or of one fault, so there is one answer.
use Rattle.respath_lines.proofs.Common.{Err, List, MatchResult, Ok, Result, [], ap, arith, inl, inr, refl, subst, sym}
use Rattle.respath_lines.proofs.Common.{ℕ, ◌∙◌, ◌≡◌, ◌≢◌, ◌⊎◌, AddressFamily, Claim, Holds, Runs, FromStrError}
use Rattle.respath_lines.proofs.Common.{HasBlocks, HasBlocksFault, IsSetOf, IfRefused, AnswersOrMemory, OrMemory}
use Rattle.respath_lines.proofs.Common.{Refused, HasFault, IsHexadecimal, ShowsHexadecimal, fault_text, false}
use Rattle.respath_lines.proofs.Common.{HasAsListFault, IsAsListText, HasAsResourcesFault, IsAsResourcesText}
use Rattle.respath_lines.proofs.Common.{IsShortestCover, PrefixValue, OneFront, DerError, IsCoverOf}
use Rattle.respath_lines.proofs.Common.{HasIpResourcesFault, IsIpResourcesText, error_line}
use Rattle.std.proofs.lemmas.Bool.{cases_Bool}
use Rattle.std.proofs.lemmas.Slice.Eq.{bytes_eq-Decides}
use Rattle.std.specs.Bool.{Decides}
use Rattle.std.specs.Prelude.{Bool, true}
use Rattle.std.specs.Str.{bytes_eq}
use Rattle.rpki_as.proofs.AsListLemmas.{list_answers}
use Rattle.rpki_as.proofs.AsResourcesTexts.{resources_answers}
use Rattle.rpki_chain.specs.declared.choice.ResourcesChoice.TheVariants.{Blocks, Inherit, Missing}
use Rattle.rpki_ip_block.proofs.BlockListLemmas.{family_answers, same_blocks}
use Rattle.rpki_ip_block.specs.declared.block.IpBlock.{IpBlock}
use Rattle.rpki_ipres.proofs.PrintedSets.{one_set}

-- ---- texts

text_decided : (a b : List ℕ) (same : Bool) → ((same ≡ true) ⊎ (same ≡ false)) → Decides same (a ≡ b) → ((a ≢ b) → ⊥)
    → a ≡ b
text_decided a b same which decides stable = grind (arith, inl, inr, sym)

-- texts that cannot differ are equal
pub same_text : (a b : List ℕ) → ((a ≢ b) → ⊥) → a ≡ b
same_text a b stable = text_decided a b (bytes_eq a b) (cases_Bool (bytes_eq a b)) (bytes_eq-Decides a b) stable

-- ---- one value or one fault

-- there is one value or one fault
pub record IsSingle {V E : Type 0} (Has : V → Type 0) (Fails : E → Type 0) : Type 0 where
  pub one : (v w : V) → Has v → Has w → v ≡ w
  pub apart : (v : V) (e : E) → Has v → Fails e → ⊥
  pub same : (d e : E) → Fails d → Fails e → d ≡ e

module _ {V E : Type 0} {Has : V → Type 0} {Fails : E → Type 0} where
  -- the contract of a reader that decides its result says so
  pub single_from : ((r : Result V (OrMemory E)) → MatchResult r Has (IfRefused Fails)
      → AnswersOrMemory (λ v. v) Has Fails r) → IsSingle Has Fails
  single_from answers = record {
    one = λ v w h k. (answers (Ok v) h).each_value w k;
    apart = λ v e h f. (answers (Ok v) h).each_fault e f;
    same = λ d e f g. (answers (Err (Refused d)) f).each_fault e g;
  }

  -- what is shown of the value or of the fault is one text
  pub shown_once : IsSingle Has Fails → (value_text : V → List ℕ) (error_text : E → List ℕ) (a b : List ℕ)
      → ((v : V) × Has v × (a ≡ value_text v)) ⊎ ((e : E) × Fails e × (a ≡ error_text e))
      → ((v : V) × Has v × (b ≡ value_text v)) ⊎ ((e : E) × Fails e × (b ≡ error_text e)) → a ≡ b
  shown_once single value_text error_text a b h k = grind (arith, ap, inl, inr, sym)

-- ---- lists

pub single_as : (list : List ℕ) → IsSingle (IsAsListText list) (HasAsListFault list)
single_as list = single_from (list_answers (λ (set : Runs). set) list)

pub single_as_resources : (list : List ℕ) → IsSingle (IsAsResourcesText list) (HasAsResourcesFault list)
single_as_resources list = search (arith, resources_answers, single_from)

module _ (family : AddressFamily) (list : List ℕ) where
  pub single_ip : IsSingle (IsSetOf (HasBlocks family list)) (HasBlocksFault family list)
  single_ip = record {
    one = one_set (HasBlocks family list) (same_blocks family list);
    apart = λ set e h f.
        (family_answers (λ (v : List IpBlock). v) family list (Ok h.blocks) h.are_written).each_fault e f;
    same = λ d e f g. (family_answers (λ (v : List IpBlock). v) family list (Err (Refused d)) f).each_fault e g;
  }

  one_claim : (a b : Claim) → IsIpResourcesText family list a → IsIpResourcesText family list b → a ≡ b
  one_claim Missing Missing h k = refl
  one_claim Missing Inherit h k = absurd (h.0 k)
  one_claim Missing (Blocks y) h k = absurd (k.2 (single_ip.one y [] k.1 h.1))
  one_claim Inherit Missing h k = absurd (k.0 h)
  one_claim Inherit Inherit h k = refl
  one_claim Inherit (Blocks y) h k = absurd (k.0 h)
  one_claim (Blocks x) Missing h k = absurd (h.2 (single_ip.one x [] h.1 k.1))
  one_claim (Blocks x) Inherit h k = absurd (h.0 k)
  one_claim (Blocks x) (Blocks y) h k = ap (λ (set : Runs). Blocks set) (single_ip.one x y h.1 k.1)

  claim_apart : (a : Claim) (e : FromStrError) → IsIpResourcesText family list a → HasIpResourcesFault family list e → ⊥
  claim_apart Missing e h f = single_ip.apart [] e h.1 f.1
  claim_apart Inherit e h f = f.0 h
  claim_apart (Blocks x) e h f = single_ip.apart x e h.1 f.1

  pub single_ip_resources : IsSingle (IsIpResourcesText family list) (HasIpResourcesFault family list)
  single_ip_resources =
      record { one = one_claim; apart = claim_apart; same = λ d e f g. single_ip.same d e f.1 g.1 }

  one_cover : (ps qs : List PrefixValue) → IsCoverOf family list ps → IsCoverOf family list qs → ps ≡ qs
  one_cover ps qs (x, h, p) (y, k, q) =
      let same : x ≡ y = single_ip.one x y h k in
      let also : IsShortestCover 128 (Holds y) ps = subst (λ (set : Runs). IsShortestCover 128 (Holds set) ps) same p in
      q.only ps also.list

  pub single_cover : IsSingle (IsCoverOf family list) (HasBlocksFault family list)
  single_cover =
      record { one = one_cover; apart = λ ps e h f. single_ip.apart h.0 e h.1 f; same = single_ip.same }

-- ---- octets

module _ {V Y : Type 0} (Is : List ℕ → V → Type 0) (reading : List ℕ → Result (Y × List ℕ) DerError)
    (value_text : V → List ℕ) (one : OneFront Is) where
  single_octets : (octets : List ℕ) → IsSingle (Is octets) (HasFault Is reading octets)
  single_octets octets = record {
    one = λ v w h k. (one octets octets v w [] [] h k refl).1;
    apart = λ v e h f. f.0 v h;
    same = λ d e f g. grind (arith, f.1, g.1);
  }

  pub read_once : (text a b : List ℕ) → ShowsHexadecimal Is reading value_text text a
      → ShowsHexadecimal Is reading value_text text b → a ≡ b
  read_once text a b h k = same_text a b (λ other.
      let none : (octets : List ℕ) → ¬ IsHexadecimal text octets = λ octets is.
      other (shown_once (single_octets octets) value_text (λ fault. error_line (fault_text fault)) a b
      (h.octets octets is) (k.octets octets is)) in
      other (h.none none ∙ sym (k.none none)))
