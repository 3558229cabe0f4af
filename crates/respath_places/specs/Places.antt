-- The place of an answer: the first wrong element of a list or a path, and how it is printed.
use Rattle.std.specs.Prelude.{◌≡◌, ◌≢◌, ◌==◌, ◌⊎◌, ◌<◌, ℕ, ◌+◌, ◌-◌, List, [], ◌∷◌, ◌++◌, Option, None, Some, codes}
use Rattle.std.specs.Prelude.{decimal, encode_utf8_all, length, map, if◌then◌else◌}
use Rattle.std.specs.Char.{is_control}
use Rattle.std.specs.List.{AllWithin, HoldsAt, enumerate_from, slice_split}
use Rattle.std.specs.Str.{chars, trim}
use Rattle.rpki_as_block.specs.BlockText.{IsAsBlockText}
use Rattle.rpki_der.specs.declared.family.AddressFamily.TheVariants.{Ipv4, Ipv6}
use Rattle.rpki_ip_block.specs.BlockText.{IsIpBlockText}
use Rattle.respath_lines.specs.Answer.{IsAnswer}
use Rattle.respath_lines.specs.Command.{argument_of, command_of, kind_of}
use Rattle.respath_lines.specs.Kinds.{IsKindNamed}
use Rattle.respath_lines.specs.Path.{IsMode, IsNoStep, list_of, word_of}
use Rattle.respath_lines.specs.declared.kind.Kind.{Kind}
use Rattle.respath_lines.specs.declared.kind.Kind.TheVariants.{As, V4, V6}
use Rattle.respath_places.specs.Checks.{error_word}
use Rattle.respath_places.specs.declared.place.Place.{Place}
use Rattle.respath_places.specs.declared.place.Place.TheVariants.{Element, NoStep}

-- the parts of a text, which a mark separates, each after its index
abbrev pub numbered : ℕ → List ℕ → List (ℕ × List ℕ)
numbered mark text = enumerate_from 0 (slice_split (λ byte. byte == mark) text)

-- the part is wrong, and is one of the numbered parts, and all parts before it are right
abbrev pub IsFirst : (Wrong Right : ℕ × List ℕ → Type 0) → List (ℕ × List ℕ) → ℕ × List ℕ → Type 0
IsFirst Wrong Right parts part =
    Wrong part × (at : ℕ) × (at < length parts) × HoldsAt (λ p. p ≡ part) parts at × AllWithin Right parts 0 at

-- the text denotes a block of this kind
abbrev pub IsBlockText : Kind → List ℕ → Type 0
IsBlockText As text = (block : _) × IsAsBlockText text block
IsBlockText V4 text = (block : _) × IsIpBlockText (Some Ipv4) text block
IsBlockText V6 text = (block : _) × IsIpBlockText (Some Ipv6) text block

module _ (kind : Kind) where
  -- the text between two commas is empty or a block, without white space at its ends
  abbrev pub IsElement : List ℕ → Type 0
  IsElement text = (trim text ≡ []) ⊎ IsBlockText kind (trim text)

  -- no element of the list is wrong
  abbrev pub IsList : List ℕ → Type 0
  IsList list = AllWithin (λ part. IsElement part.1) (numbered 44 list) 0 (length (numbered 44 list))

  -- the numbered element is wrong, and none before it
  abbrev pub IsFirstWrong : List ℕ → ℕ × List ℕ → Type 0
  IsFirstWrong list = IsFirst (λ part. ¬ IsElement part.1) (λ part. IsElement part.1) (numbered 44 list)

  -- the place is that of the first wrong element of the list, which is in a part of a path or in none
  abbrev pub IsWrongList : Option ℕ → List ℕ → Place → Type 0
  IsWrongList part list (Element at index shown) = (at ≡ part) × IsFirstWrong list (index, shown.now)
  IsWrongList part list (NoStep at shown) = ⊥

  -- the part of a path is right: the first part, 0, is a list, and any other is a step whose list has no wrong element
  abbrev pub IsPart : ℕ × List ℕ → Type 0
  IsPart (part, text) =
      (part ≡ 0 → IsList text)
      × (part ≢ 0 → (trim text ≡ codes "inherit") ⊎ (trim text ≡ codes "missing")
      ⊎ ((mode : _) × IsMode (word_of text) mode × IsList (list_of text)))

  -- the place is that of the first wrong element in the list of the part, or of the part, which has to be a step
  abbrev pub IsWrongPart : ℕ × List ℕ → Place → Type 0
  IsWrongPart (part, text) (NoStep at shown) = (part ≢ 0) × (at ≡ part) × (shown.now ≡ text) × IsNoStep text
  IsWrongPart (part, text) place =
      (part ≡ 0 → IsWrongList (Some part) text place)
      × (part ≢ 0 → (mode : _) × IsMode (word_of text) mode × IsWrongList (Some part) (list_of text) place)

  -- the place is in the first wrong part of the path
  abbrev pub IsWrongPath : List ℕ → Place → Type 0
  IsWrongPath path place =
      (part : ℕ × List ℕ) × IsFirst (λ p. IsWrongPart p place) IsPart (numbered 124 path) part

-- a text as it is shown, with `?` in place of each control character
abbrev pub shown_text : List ℕ → List ℕ
shown_text text = encode_utf8_all (map (λ c. if is_control c then 63 else c) (chars text))

-- the text before the number of an element; the first part of a path is its root, and the others are its steps
abbrev pub list_text : Option ℕ → List ℕ
list_text None = []
list_text (Some part) = if part == 0 then codes "root, " else codes "step " ++ decimal (part - 1) ++ codes ", "

-- the text of a place
abbrev pub place_text : Place → List ℕ
place_text (Element part index text) =
    list_text part ++ codes "element " ++ decimal (index + 1) ++ codes ": " ++ shown_text (trim text.now)
place_text (NoStep part text) = codes "step " ++ decimal (part - 1) ++ codes ": " ++ shown_text (trim text.now)

-- The place of an answer that begins with `error: ` is that of the first fault of the argument, which is a list, or the
-- path of the command `path`. Nothing is said of the place of any other answer.
abbrev pub IsPlace : List ℕ → List ℕ → Place → Type 0
IsPlace line answer place = (rest : List ℕ) → answer ≡ error_word ++ rest
    → (kind : Kind) × IsKindNamed (kind_of line) (Some kind)
    × (IsWrongList kind None (argument_of line) place
    ⊎ ((command_of line ≡ codes "path") × IsWrongPath kind (argument_of line) place))

-- the text is the answer to the line, perhaps with a tab and a place after it
abbrev pub IsAnswerWithPlace : List ℕ → List ℕ → Type 0
IsAnswerWithPlace line text =
    (answer : List ℕ) × IsAnswer line answer
    × ((text ≡ answer) ⊎ ((place : Place) × IsPlace line answer place × (text ≡ answer ++ 9 ∷ place_text place)))
