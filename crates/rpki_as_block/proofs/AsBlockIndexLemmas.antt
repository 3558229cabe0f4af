-- AS blocks at a place among bytes: one number, or two round a dash.
use Rattle.rpki_as_block.proofs.Common.{List, Ok, Option, Some, [], ap, arith, drop, get_or, length, length-drop, subst}
use Rattle.rpki_as_block.proofs.Common.{suc, take, ℕ, ◌++◌, ◌+◌, ◌-◌, ◌<◌, ◌∙◌, ◌∷◌, ◌≡◌, ◌≤◌, take-append-add}
use Rattle.rpki_as_block.proofs.Common.{take-length, drop-drop, drop_more, length-take, take-append-drop, IsInRange}
use Rattle.rpki_as_block.proofs.Common.{AllByRecursion, RangeValue, IsAsBlockAt, IsAsBlockBetween, StandsAt}
use Rattle.rpki_as_block.proofs.Common.{IsAsBlockText, ReadsAsBlock, AsBlock, Id, Range}
use Rattle.rpki_base.specs.AsnPlaces.{IsAsnAt, IsAsnBetween}
use Rattle.rpki_text.proofs.PrintedListLemmas.{IsShown}
use Rattle.rpki_as_block.proofs.AsBlockTextLemmas.{no_dash, reads_block}

-- digits and letters can stand in a list
pub shown : (last : ℕ) (bs : List ℕ) → last ≤ 126 → AllByRecursion (IsInRange 48 last) bs
    → AllByRecursion (IsInRange 45 126) bs
shown last [] le h = tt
shown last (b ∷ bs) le h = ((omega (arith, h.0.0), omega (arith, h.0.1, le)), shown last bs le h.1)

-- and so can two such texts
pub shown-append : (xs ys : List ℕ) → AllByRecursion IsShown xs → AllByRecursion IsShown ys
    → AllByRecursion IsShown (xs ++ ys)
shown-append [] ys h k = k
shown-append (x ∷ xs) ys h k = (h.0, shown-append xs ys h.1 k)

shown_both : (xs ys : List ℕ) → AllByRecursion (IsInRange 48 122) xs → AllByRecursion (IsInRange 48 122) ys
    → AllByRecursion (IsInRange 45 126) (xs ++ 45 ∷ ys)
shown_both xs ys h k =
    shown-append xs (45 ∷ ys) (shown 122 xs (omega arith) h) ((omega arith, omega arith), shown 122 ys (omega arith) k)

-- one number is a block
pub id_between : (start end : ℕ) (text : List ℕ) (n : ℕ) → IsAsnBetween start end text n
    → IsAsBlockBetween start end text (Id n)
id_between start end text n h = grind (arith, no_dash 122, shown 122)

-- the rest behind a place is that behind a later one
pub drop_later : {A : Type 0} (start end : ℕ) (xs : List A) → start ≤ end
    → drop (end - start) (drop start xs) ≡ drop end xs
drop_later start end xs h = drop-drop (end - start) start xs ∙ ap (λ k. drop k xs) (omega (arith, h))

-- the bytes to a later place are those to the byte between, this byte, and those behind it
cut_between : (start middle end : ℕ) (text : List ℕ) (b : ℕ) → start ≤ middle → middle < end → end ≤ length text
    → get_or text middle 0 ≡ b
    → take (end - start) (drop start text)
    ≡ take (middle - start) (drop start text) ++ b ∷ take (end - (middle + 1)) (drop (middle + 1) text)
cut_between start middle end text b first last within is =
    let left = take (middle - start) (drop start text) in
    let count : length left ≡ middle - start = omega (arith, length-take {A = ℕ}, length-drop {A = ℕ}) in
    let later = drop_later start middle text first ∙ drop_more text middle 0 (omega arith) in
    let whole = take-append-drop (middle - start) (drop start text) in
    let places : end - start ≡ length left + suc (end - (middle + 1)) = omega (arith, count) in
    grind (arith, take-append-add)

-- and two round a dash are one too
pub range_between : (start middle end : ℕ) (text : List ℕ) (r : RangeValue) → IsAsnBetween start middle text r.min
    → get_or text middle 0 ≡ 45 → IsAsnBetween (middle + 1) end text r.max → r.min ≤ r.max
    → IsAsBlockBetween start end text (Range r)
range_between start middle end text r h dash_is k ordered =
    grind (arith, cut_between, no_dash 122, shown 122, shown_both)

-- what is found at a place is the number of the usual form there
abbrev pub IsOneNumber : ℕ → List ℕ → Option (ℕ × ℕ) → Type 0
IsOneNumber start text found = (n end : ℕ) → IsAsnAt start end text n → found ≡ Some (n, end)

-- a block of the usual form begins with one
pub first_number : (start end : ℕ) (text : List ℕ) (b : AsBlock) → IsAsBlockAt start end text b
    → (n middle : ℕ) × IsAsnAt start middle text n
first_number start end text b h = grind (arith)

-- without a dash behind it, it is the block
pub id_alone : (start min dash_at : ℕ) (text : List ℕ) → IsOneNumber start text (Some (min, dash_at))
    → ¬ StandsAt 45 dash_at text → (b : AsBlock) (end : ℕ) → IsAsBlockAt start end text b
    → ◌≡◌ {A = Option (AsBlock × ℕ)} (Some (Id min, dash_at)) (Some (b, end))
id_alone start min dash_at text one alone (Id n) end h = let found = one n end h.0 in grind arith
id_alone start min dash_at text one alone (Range r) end h = let found = one r.min h.0 h.1 in grind arith

-- with one, a second number follows
pub two_numbers : (start min dash_at : ℕ) (text : List ℕ) → IsOneNumber start text (Some (min, dash_at))
    → StandsAt 45 dash_at text → (b : AsBlock) (end : ℕ) → IsAsBlockAt start end text b
    → (max : ℕ) × (b ≡ Range (record { min = min; max = max })) × IsAsnAt (dash_at + 1) end text max × (min ≤ max)
two_numbers start min dash_at text one dash_there (Id n) end h = let found = one n end h.0 in grind arith
two_numbers start min dash_at text one dash_there (Range r) end h = let found = one r.min h.0 h.1 in grind arith

-- which ends the block, and is not less than the first
pub range_alone : (start min dash_at max last : ℕ) (text : List ℕ) → IsOneNumber start text (Some (min, dash_at))
    → StandsAt 45 dash_at text → IsOneNumber (dash_at + 1) text (Some (max, last)) → (b : AsBlock) (end : ℕ)
    → IsAsBlockAt start end text b
    → ◌≡◌ {A = Option (AsBlock × ℕ)} (Some (Range (record { min = min; max = max }), last)) (Some (b, end))
    × (min ≤ max)
range_alone start min dash_at max last text one dash_there two b end h =
    let (other, is, there, ordered) = two_numbers start min dash_at text one dash_there b end h in
    let found = two other end there in
    grind arith

-- a block that takes the whole text is the answer
pub reads_whole : (text bytes : List ℕ) (b : AsBlock) (end : ℕ) → bytes ≡ text → IsAsBlockBetween 0 end bytes b
    → end ≡ length bytes → ReadsAsBlock text (Ok b)
reads_whole text bytes b end same h all =
    let whole : take (end - 0) (drop 0 bytes) ≡ text =
    ap (λ k. take k bytes) (omega (arith, all)) ∙ (take-length bytes ∙ same) in
    reads_block text (Ok b) (subst (λ t. IsAsBlockText t b) whole h.block)
