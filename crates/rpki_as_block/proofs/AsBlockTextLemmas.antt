-- A text writes one block at most, or has one fault; what is printed of a block writes it.
use Rattle.rpki_as_block.proofs.Common.{List, MatchResult, None, Some, lit<, Result, ap, arith, refl, ℕ, ◌<◌, ◌^◌, ◌≡◌}
use Rattle.rpki_as_block.proofs.Common.{◌≤◌, IsInRange, AllByRecursion, range_bounds, HasNo, dash, HasAsBlockFault}
use Rattle.rpki_as_block.proofs.Common.{IsAsBlockText, IsAsRangeBetween, NoRange, ReadsAsBlock, as_block_text}
use Rattle.rpki_as_block.proofs.Common.{as_bounds, AsBlock, Id, Range}
use Rattle.std.proofs.lemmas.List.Elements.{All-from_recursion}
use Rattle.std.proofs.lemmas.Str.Pattern.{IsSplitOnceResult, split_parts}
use Rattle.std.specs.Borrow.{Bor}
use Rattle.rpki_base.specs.AsnText.{asn_text}
use Rattle.rpki_text.specs.Cuts.{Around, IsCutAt}
use Rattle.rpki_base.proofs.AsnLemmas.{IsAsnText-asn_text, IsAsnText-one, asn_text_bytes}
use Rattle.rpki_text.proofs.CutLemmas.{none_around, around_at}
use Rattle.rpki_text.proofs.ReadingLemmas.{Answers-from_found}
use Rattle.rpki_as_block.specs.declared.error.FromStrError.{FromStrError}
use Rattle.rpki_as_block.specs.declared.error.FromStrError.TheVariants.{BadAsn, BadRange, BadBlocks}

-- a text writes one block at most
pub IsAsBlockText-one : (text : List ℕ) (a b : AsBlock) → IsAsBlockText text a → IsAsBlockText text b → a ≡ b
IsAsBlockText-one text (Id m) (Id n) h k = ap Id (IsAsnText-one text m n h.1 k.1)
IsAsBlockText-one text (Id m) (Range s) h k = absurd (none_around dash text _ h.0 k)
IsAsBlockText-one text (Range r) (Id n) h k = absurd (none_around dash text _ k.0 h)
IsAsBlockText-one text (Range r) (Range s) h k =
    let same = around_at dash text h.left h.right (λ l q. IsAsRangeBetween l q (range_bounds s)) h.cut k in
    let min = IsAsnText-one h.left r.min s.min h.holds.min_text same.min_text in
    let max = IsAsnText-one h.right r.max s.max h.holds.max_text same.max_text in
    λ i. Range (record { min = min i; max = max i })

-- no text has a value and a fault
pub block_apart : (text : List ℕ) (b : AsBlock) (e : FromStrError) → IsAsBlockText text b → HasAsBlockFault text e → ⊥
block_apart text (Id n) BadAsn h f = f.1 n h.1
block_apart text (Id n) BadRange h f = none_around dash text _ h.0 f
block_apart text (Id n) BadBlocks h f = absurd f
block_apart text (Range r) BadAsn h f = none_around dash text _ f.0 h
block_apart text (Range r) BadRange h f = around_at dash text h.left h.right NoRange h.cut f (range_bounds r) h.holds
block_apart text (Range r) BadBlocks h f = absurd f

-- no text has two faults
pub same_block_fault : (text : List ℕ) (d e : FromStrError) → HasAsBlockFault text d → HasAsBlockFault text e → d ≡ e
same_block_fault text d e f g = grind (arith, none_around)

-- digits and letters aren't dashes
pub no_dash : (last : ℕ) (bs : List ℕ) → AllByRecursion (IsInRange 48 last) bs → HasNo dash bs
no_dash last bs h i small e =
    let byte = All-from_recursion (IsInRange 48 last) bs h i 0 small in
    omega (arith, byte.0, e)

-- what is printed of a block writes it
pub IsAsBlockText-block_text : (b : AsBlock) → (as_bounds b).0 ≤ (as_bounds b).1 → (as_bounds b).1 < 2 ^ 32
    → IsAsBlockText (as_block_text b) b
IsAsBlockText-block_text (Id n) ordered small =
    (no_dash 90 (asn_text n) (asn_text_bytes n small), IsAsnText-asn_text n small)
IsAsBlockText-block_text (Range r) ordered small =
    let low : r.min < 2 ^ 32 = omega arith in
    let bare = no_dash 90 (asn_text r.min) (asn_text_bytes r.min low) in
    let min = IsAsnText-asn_text r.min low in
    let max = IsAsnText-asn_text r.max small in
    let cut : IsCutAt dash (as_block_text (Range r)) (asn_text r.min) (asn_text r.max) =
    record { split = refl; first = bare } in
    record { left = asn_text r.min; right = asn_text r.max; cut = cut; holds = grind arith }

-- a reader that finds what the text has meets the whole contract
pub reads_block : (text : List ℕ) (r : Result AsBlock FromStrError)
    → MatchResult r (IsAsBlockText text) (HasAsBlockFault text) → ReadsAsBlock text r
reads_block text r found =
    let exact = Answers-from_found r found (IsAsBlockText-one text) (block_apart text) (same_block_fault text) in
    record { exact = exact; reads_back = λ b le lt is. exact.each_value b (rw is (IsAsBlockText-block_text b le lt)) }

-- a text is cut at no dash where it has none, and else at its first
pub no_cut : (text : List ℕ) → IsSplitOnceResult dash text None → HasNo dash text
no_cut text cases = split_parts dash text None cases (lit< tt)

pub around_split : (text : List ℕ) (left right : Bor (List ℕ)) (P : List ℕ → List ℕ → Type 0)
    → IsSplitOnceResult dash text (Some (left, right)) → P left.now right.now → Around dash text P
around_split text left right P cases holds =
    let (split, first) = split_parts dash text (Some (left, right)) cases (lit< tt) in
    record { left = left.now; right = right.now; cut = record { split = split; first = first }; holds = holds }
