-- The elements of a printed list are the texts that were joined.
use Rattle.rpki_text.proofs.Common.{suc, zero, List, [], ap, arith, codes, drop, eqb, false, get_or, length, lit<, map}
use Rattle.rpki_text.proofs.Common.{refl, take, ℕ, ◌++◌, ◌+◌, ◌-◌, ◌<◌, ◌∙◌, ◌∷◌, ◌≡◌, ◌≤◌, ◌⊎◌, nat_tests, append-nil}
use Rattle.rpki_text.proofs.Common.{take_all, take_more, All-from_recursion, slice_split_at, slice_split_none}
use Rattle.rpki_text.proofs.Common.{is_whitespace, IsInRange, AllByRecursion, flat_map, drop_trailing_whitespace}
use Rattle.rpki_text.proofs.Common.{skip_leading_whitespace, trim, trim_end, trim_start, comma, elements, joined}
use Rattle.std.proofs.Common.{inl, inr, replicate}
use Rattle.std.proofs.lemmas.List.{flat_map_more}
use Rattle.std.proofs.lemmas.List.Elements.{All-push}
use Rattle.std.proofs.lemmas.Str.{IsAscii-append, chars-IsAscii}
use Rattle.std.proofs.lemmas.Str.Ascii.{IsAscii-cons, IsAscii-nil, encodes-IsAscii}
use Rattle.std.specs.List.{All}
use Rattle.std.specs.Str.{IsAscii}
use Rattle.rpki_text.proofs.TextListLemmas.{elements_are, kept_first}

-- visible ASCII from `-` on, so neither a comma nor white space
abbrev pub IsShown : ℕ → Type 0
IsShown b = IsInRange 45 126 b

-- visible bytes with spaces behind them are ASCII
shown_ascii : (bs : List ℕ) (j : ℕ) → AllByRecursion IsShown bs → IsAscii (bs ++ replicate j 32)
shown_ascii [] zero h = IsAscii-nil
shown_ascii [] (suc j) h = IsAscii-cons 32 (replicate j 32) (lit< tt) (shown_ascii [] j h)
shown_ascii (b ∷ bs) j h = IsAscii-cons b (bs ++ replicate j 32) (omega (arith, h.0.1)) (shown_ascii bs j h.1)

-- and no white space
not_white : (b : ℕ) → IsShown b → is_whitespace b ≡ false
not_white b h = grind (arith, nat_tests)

-- so trimming takes these spaces at the back
drop_spaces : (bs : List ℕ) (j : ℕ) → AllByRecursion IsShown bs → drop_trailing_whitespace (bs ++ replicate j 32) ≡ bs
drop_spaces [] zero h = refl
drop_spaces [] (suc j) h = rw (drop_spaces [] j h) refl
drop_spaces (b ∷ bs) j h = rw (not_white b h.0, drop_spaces bs j h.1)

trim_end_spaces : (bs : List ℕ) (j : ℕ) → AllByRecursion IsShown bs → trim_end (bs ++ replicate j 32) ≡ bs
unfolding trim_end
trim_end_spaces bs j h =
    let own : IsAscii bs = rw append-nil at (shown_ascii bs 0 h) in
    rw (chars-IsAscii (bs ++ replicate j 32) (shown_ascii bs j h), drop_spaces bs j h) (encodes-IsAscii bs own)

-- and those at the front
skip_spaces : (i b : ℕ) (more : List ℕ) → IsShown b → skip_leading_whitespace (replicate i 32 ++ b ∷ more) ≡ b ∷ more
skip_spaces zero b more h = rw (not_white b h) refl
skip_spaces (suc i) b more h = skip_spaces i b more h

-- a text of visible bytes, one or more
pub record IsElement (text : List ℕ) : Type 0 where
  pub shown : AllByRecursion IsShown text
  pub some : 0 < length text

-- such a text between spaces is trimmed of them
pub trim_round : (i j : ℕ) (text : List ℕ) → IsElement text → trim (replicate i 32 ++ (text ++ replicate j 32)) ≡ text
unfolding trim_start
trim_round i j [] h = absurd (omega (arith, h.some))
trim_round i j (b ∷ bs) h =
    let ascii = shown_ascii (b ∷ bs) j h.shown in
    let all = IsAscii-append (replicate i 32) (b ∷ bs ++ replicate j 32) (shown_ascii [] i tt) ascii in
    rw (chars-IsAscii _ all, skip_spaces i b (bs ++ replicate j 32) h.shown.0, encodes-IsAscii _ ascii)
    (trim_end_spaces (b ∷ bs) j h.shown)

pub trim_shown : (bs : List ℕ) → AllByRecursion IsShown bs → trim bs ≡ bs
unfolding trim_start
trim_shown [] h = rw (chars-IsAscii [] IsAscii-nil) (trim_end_spaces [] 0 h)
trim_shown (b ∷ bs) h = rw append-nil at (trim_round 0 0 (b ∷ bs) (record { shown = h; some = omega arith }))

-- no comma is among them
pub no_comma : (bs : List ℕ) → AllByRecursion IsShown bs → AllByRecursion (λ b. eqb b comma ≡ false) bs
no_comma [] h = tt
no_comma (b ∷ bs) h = (grind (arith, nat_tests), no_comma bs h.1)

-- ---- an element of a list stands at the front, with one space before it or none; behind the last may stand one too

-- the part is the element, or this behind a space
abbrev pub IsPartOf : List ℕ → List ℕ → Type 0
IsPartOf part element = (part ≡ element) ⊎ (part ≡ 32 ∷ element)

-- such a part has no comma
part_no_comma : (part element : List ℕ) → IsPartOf part element → IsElement element
    → AllByRecursion (λ b. eqb b comma ≡ false) part
part_no_comma part element h h2 = grind (arith, no_comma)

-- and is trimmed to the element
part_trims : (part element : List ℕ) → IsPartOf part element → IsElement element → trim part ≡ element
part_trims part element p h = grind (arith, append-nil, trim_round 0 0 element h, trim_round 1 0 element h)

-- an element before a comma is the first
pub elements_first : (part element rest : List ℕ) → IsPartOf part element → IsElement element
    → elements (part ++ 44 ∷ rest) ≡ element ∷ elements rest
elements_first part element rest p h =
    grind (arith, All-from_recursion, elements_are, kept_first, part_no_comma, part_trims, slice_split_at)

-- what ends a text is a part, or a part before a space
abbrev pub IsLastPartOf : List ℕ → List ℕ → Type 0
IsLastPartOf last element = (part : List ℕ) × IsPartOf part element × ((last ≡ part) ⊎ (last ≡ part ++ 32 ∷ []))

last_no_comma : (last element : List ℕ) → IsLastPartOf last element → IsElement element
    → All (λ b. eqb b comma ≡ false) last
last_no_comma last element p h =
    grind (arith, All-from_recursion, All-push (λ b. eqb b comma ≡ false) p.0 32, no_comma element h.shown)

last_trims : (last element : List ℕ) → IsLastPartOf last element → IsElement element → trim last ≡ element
last_trims last element p h =
    let round = λ (i j : ℕ). trim_round i j element h in
    grind (arith, append-nil, round 0 0, round 1 0, round 0 1, round 1 1)

-- one that ends the text is the only one
pub elements_last : (last element : List ℕ) → IsLastPartOf last element → IsElement element
    → elements last ≡ element ∷ []
elements_last last element p h =
    grind (arith, elements_are, kept_first, last_no_comma, last_trims, slice_split_none (λ b. eqb b comma) last)

-- ---- joined texts

-- what is joined behind a part has the elements that were joined
joined_behind : (part element : List ℕ) (more : List (List ℕ)) → IsPartOf part element → IsElement element
    → AllByRecursion IsElement more → elements (part ++ flat_map (λ next. codes ", " ++ next) more) ≡ element ∷ more
joined_behind part element [] p h k = rw append-nil (elements_last part element (part, p, inl refl) h)
joined_behind part element (next ∷ more) p h k =
    elements_first part element (32 ∷ next ++ flat_map (λ next. codes ", " ++ next) more) p h
    ∙ ap (λ all. element ∷ all) (joined_behind (32 ∷ next) next more (inr refl) k.0 k.1)

pub elements-joined : (texts : List (List ℕ)) → AllByRecursion IsElement texts → elements (joined texts) ≡ texts
elements-joined [] h = elements_are [] ∙ (rw (trim_shown [] tt))
elements-joined (t ∷ texts) h = joined_behind t t texts (inl refl) h.0 h.1

-- what is written behind the first item
more_shown : {A : Type 0} (show : A → List ℕ) (xs : List A)
    → flat_map (λ b. codes ", " ++ show b) xs ≡ flat_map (λ next. codes ", " ++ next) (map show xs)
more_shown show [] = refl
more_shown show (x ∷ xs) = ap (λ t. 44 ∷ 32 ∷ (show x ++ t)) (more_shown show xs)

-- the first item and a loop over the rest write the joined texts
pub joined_by_loop : {A : Type 0} (show : A → List ℕ) (items : List A) (first : A) (i : ℕ) → 1 ≤ length items
    → first ≡ get_or items 0 first → length (take (length items - 1) (drop 1 items)) ≤ i
    → show first ++ flat_map (λ b. codes ", " ++ show b) (take i (take (length items - 1) (drop 1 items)))
    ≡ joined (map show items)
joined_by_loop show items first i some is end = grind (arith, more_shown, take_all)

-- one more item of a loop that writes each
pub written_more : {A : Type 0} (f : A → List ℕ) (xs : List A) (i : ℕ) (item : A) → i < length xs
    → item ≡ get_or xs i item → flat_map f (take i xs) ++ f item ≡ flat_map f (take (i + 1) xs)
written_more f xs i item l is = rw (take_more xs i item l, ← is) (flat_map_more f [] (take i xs) item)
