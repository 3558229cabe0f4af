-- What a check has found in written answers, and the places of answers.
use Rattle.std.proofs.Common.{IsTrue, List, Option, Some, [], arith, codes, drop, eqb, inr, length, ltb, refl, rules}
use Rattle.std.proofs.Common.{true, ℕ, ◌&&◌, ◌++◌, ◌+◌, ◌≡◌, ◌≢◌, ◌∷◌, ◌↔◌, ◌||◌}
use Rattle.std.proofs.lemmas.Bool.Decides.{nat_tests}
use Rattle.std.proofs.lemmas.List.{drop_all, drop_more}
use Rattle.std.specs.Prelude.{Err, IfSome, MatchOption, None, Ok, Result, is_ok}
use Rattle.rpki_text.specs.Cuts.{HasNo}
use Rattle.rpki_text.specs.Reading.{Answers}
use Rattle.respath_lines.specs.Command.{argument_of, command_of, kind_of}
use Rattle.respath_lines.specs.Kinds.{IsKindNamed}
use Rattle.respath_lines.specs.Path.{IsMode, list_of, word_of}
use Rattle.respath_lines.specs.declared.kind.Kind.{Kind}
use Rattle.respath_places.specs.Checks.{HasFaultLine, begins_with, error_word, has_later, is_after, matched_after}
use Rattle.respath_places.specs.Checks.{matched_with, refused_word}
use Rattle.respath_places.specs.Places.{IsList, IsPart, IsPlace, IsWrongList, IsWrongPart, IsWrongPath}
use Rattle.respath_places.specs.declared.check.Seen.{Seen}
use Rattle.respath_places.specs.declared.place.Place.{Place}
use Rattle.respath_places.specs.declared.place.Place.TheVariants.{Element, NoStep}

module _ (word : List ℕ) (none : HasNo 10 word) where
  -- a word is found just if the octets go on with what is not matched of it, or a later line begins with it
  found : (octets : List ℕ) (count : ℕ) → eqb (matched_after word count octets) (length word)
      ≡ ((ltb count (length word + 1) && begins_with (drop count word) octets) || has_later word octets)
  found [] count = grind (arith, nat_tests, drop_more word count 0, drop_all count word)
  found (octet ∷ octets) count =
      grind (arith, nat_tests, drop_more word count 0, drop_all count word, none count, found octets)

-- one octet more
pub matched_more : (word : List ℕ) (count : ℕ) (octets : List ℕ) (octet : ℕ)
    → matched_after word count (octets ++ octet ∷ []) ≡ matched_with word (matched_after word count octets) octet
matched_more word count [] octet = refl
matched_more word count (first ∷ octets) octet = matched_more word (matched_with word count first) octets octet

pub seen_found : (seen : Seen) (octets : List ℕ) → is_after octets seen ≡ true
    → IsTrue (eqb seen.error (length error_word) || eqb seen.refused (length refused_word)) ↔ HasFaultLine octets
seen_found seen octets same =
    let error = found error_word (search (rules, arith)) octets 0 in
    let refused = found refused_word (search (rules, arith)) octets 0 in
    let error_is : seen.error ≡ matched_after error_word 0 octets = grind (arith, nat_tests) in
    let refused_is : seen.refused ≡ matched_after refused_word 0 octets = grind (arith, nat_tests) in
    rw (error_is, refused_is, error, refused) (λ is. is, λ is. is)

-- a reader returns a value just if the text has one
pub read_ok : {A E : Type 0} (Has : A → Type 0) (Fails : E → Type 0) (r : Result A E) → Answers Has Fails r
    → IsTrue (is_ok r) ↔ ((value : A) × Has value)
read_ok Has Fails (Ok value) answers = (λ _. (value, answers.found), λ _. refl)
read_ok Has Fails (Err fault) answers = (λ ok. cc, λ has. let no = answers.each_value has.0 has.1 in cc)

-- what is wrong in the list of a step is wrong in the part
pub in_step : (kind : Kind) (part : ℕ) (text : List ℕ) (mode : _) → part ≢ 0 → IsMode (word_of text) mode
    → (r : Option Place) → MatchOption r (IsList kind (list_of text)) (IsWrongList kind (Some part) (list_of text))
    → MatchOption r (IsPart kind (part, text)) (IsWrongPart kind (part, text))
in_step kind part text mode later is None right = (λ first. absurd (later first), λ _. inr (inr (mode, is, right)))
in_step kind part text mode later is (Some (Element at index shown)) wrong =
    ((λ first. absurd (later first)), λ _. (mode, is, wrong))
in_step kind part text mode later is (Some (NoStep at shown)) wrong = absurd wrong

-- the place in the argument of a line is that of its answer
module _ (line answer : List ℕ) (kind : Kind) (is : IsKindNamed (kind_of line) (Some kind)) (r : Option Place) where
  pub list_place : MatchOption r (IsList kind (argument_of line)) (IsWrongList kind None (argument_of line))
      → IfSome r (IsPlace line answer)
  list_place found = grind arith

  pub path_place : command_of line ≡ codes "path" → IfSome r (IsWrongPath kind (argument_of line))
      → IfSome r (IsPlace line answer)
  path_place path found = grind arith
