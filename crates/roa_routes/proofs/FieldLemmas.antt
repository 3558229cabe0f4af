-- How a line of a dump is cut: at each bar, and its path at the last space. Its kind, by its first field and its third.
use Rattle.roa_routes.proofs.Common.{AnnouncesNothing, IsFieldAt, IsNoDump, IsPathPlace, IsTableName, IsUpdate}
use Rattle.roa_routes.proofs.Common.{IsUpdateName, List, None, Some, after_first, after_last, ap, arith, before_first}
use Rattle.roa_routes.proofs.Common.{drop, eq-eqb, fails_before_first, fields_of, get_or, get_or-drop, inl, inr, is_bar}
use Rattle.roa_routes.proofs.Common.{is_space, len_utf8_ascii, length, length-drop, ne_eqb, not, position_or_len}
use Rattle.roa_routes.proofs.Common.{prefix_len-le-length, slice_get, suffix_len, suffix_len_is, take_all, ℕ, [], ◌-◌}
use Rattle.roa_routes.proofs.Common.{◌<◌, ◌∙◌, ◌∷◌, ◌≡◌, ◌≢◌, ◌≤◌}
use Rattle.std.proofs.lemmas.List.Splits.{slice_split_first, slice_split_none}
use Rattle.std.proofs.lemmas.Str.Pattern.{NoCharPasses-char}
use Rattle.std.specs.Str.Pattern.{RFindsChar, SplitsAroundMatch}

-- a text with a bar is a field and the fields behind it
pub cut_some : (text field behind : List ℕ) → position_or_len is_bar text < length text
    → field ≡ before_first is_bar text → behind ≡ after_first is_bar text → fields_of text ≡ field ∷ fields_of behind
cut_some text field behind some one more = grind (arith, slice_split_first)

-- and one without is one field
pub cut_none : (text : List ℕ) → position_or_len is_bar text ≡ length text → fields_of text ≡ text ∷ []
cut_none text none = grind (arith, fails_before_first, slice_split_none)

-- the first field ends at the first bar, or with the text
pub first_field : (text field : List ℕ) → (124 < 128 → field ≡ before_first is_bar text) → IsFieldAt 0 text field
first_field text field ascii =
    let is : field ≡ before_first is_bar text = ascii (omega arith) in
    let within = prefix_len-le-length (λ b. not (is_bar b)) text in
    grind (arith, cut_none text, slice_split_first is_bar text 0, take_all, within)

-- the fields behind the first one
pub field_next : (text field behind : List ℕ) (n : ℕ) → fields_of text ≡ field ∷ fields_of behind → 0 < n
    → slice_get (fields_of text) n ≡ slice_get (fields_of behind) (n - 1)
field_next text field behind n cut some = grind (arith)

-- there is none behind the only one
pub field_none : (text : List ℕ) (n : ℕ) → fields_of text ≡ text ∷ [] → 0 < n → slice_get (fields_of text) n ≡ None
field_none text n cut some = grind (arith)

pub field_first : (text field : List ℕ) (fields : List (List ℕ)) → fields_of text ≡ field ∷ fields
    → slice_get (fields_of text) 0 ≡ Some field
field_first text field fields cut = ap (λ all. slice_get all 0) cut

-- ---- the last word of a path

-- it begins behind the last space, or where the text does
last_from : (text : List ℕ) (n : ℕ) → n ≤ length text
    → ((k : ℕ) → n ≤ k → k < length text → get_or text k 0 ≢ 32) → (0 < n → get_or text (n - 1) 0 ≡ 32)
    → drop n text ≡ after_last is_space text
last_from text n within later at =
    let behind : suffix_len (λ b. not (is_space b)) text ≡ length text - n =
    suffix_len_is (λ b. not (is_space b)) text n 0 within
    (λ k from small. ap not (ne_eqb (get_or text k 0) 32 (later k from small)))
    (λ some. ap not (eq-eqb _ 32 (at some))) in
    let all : n ≡ length text - suffix_len (λ b. not (is_space b)) text = omega (arith, behind) in
    ap (λ m. drop m text) all

pub last_some : (text front word : List ℕ) → SplitsAroundMatch (RFindsChar 32) text front word
    → word ≡ after_last is_space text
last_some text front word (i, j, found, _, is, _, _, long) =
    let low : 32 < 128 = omega arith in
    let later : (k : ℕ) → j ≤ k → k < length text → get_or text k 0 ≢ 32 = λ k from small e.
    let other = NoCharPasses-char 32 (drop j text) (k - j) found.0 low in
    grind (arith, other, get_or-drop j text (k - j) 0, length-drop) in
    let gap : get_or text (j - 1) 0 ≡ 32 = grind (arith, found.1.ends, found.1.byte low, len_utf8_ascii 32 low) in
    is ∙ last_from text j (omega (arith, long)) later (λ some. gap)

pub last_none : (text : List ℕ) → RFindsChar 32 text None → text ≡ after_last is_space text
last_none text none =
    last_from text 0 (omega arith) (λ k from small. NoCharPasses-char 32 text k none (omega arith) small)
    (λ some. absurd (omega (arith, some)))

-- the first field is this name
module _ (line name : List ℕ) (at : IsFieldAt 0 line name) where
  same_name : (other : List ℕ) → IsFieldAt 0 line other → other ≡ name
  same_name other is = cc

  pub update_is : (n : ℕ) (kind : List ℕ) → IsUpdateName name n → IsFieldAt 2 line kind → IsUpdate line n kind
  update_is n kind update third = record { name = name; name_is = at; update = update; kind_is = third }

  no_update : ((n : ℕ) → ¬ IsUpdateName name n) → (n : ℕ) (kind : List ℕ) → IsUpdate line n kind → ⊥
  no_update none n kind update = none n (rw (same_name update.name update.name_is) at update.update)

  -- a line of neither kind announces nothing, and withdraws nothing
  pub no_dump : ((n : ℕ) → ¬ IsTableName name n) → ((n : ℕ) → ¬ IsUpdateName name n) → IsNoDump line
  no_dump no_table none n (inl (other, is, table)) = no_table n (rw (same_name other is) at table)
  no_dump no_table none n (inr update) = no_update none n _ update

  pub no_skip : ((n : ℕ) → ¬ IsUpdateName name n) → ¬ AnnouncesNothing line
  no_skip none (n, inl update) = no_update none n _ update
  no_skip none (n, inr update) = no_update none n _ update

  -- a line of a table has a route
  pub dump_is : (n : ℕ) → IsTableName name n → ((m : ℕ) → ¬ IsUpdateName name m)
      → IsPathPlace line n × (¬ AnnouncesNothing line)
  dump_is n table none = (inl (name, at, table), no_skip none)
