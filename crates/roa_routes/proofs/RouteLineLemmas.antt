-- A line writes one route alone, or has one fault. What is found of a text without white space at its ends is found of
-- the text.
use Rattle.roa_routes.proofs.Common.{AreRouteWords, Err, HasCommaForSpace, HasDumpFault, HasFaultBy, HasLineFault}
use Rattle.roa_routes.proofs.Common.{HasReadFault, HasRouteFault, HasRouteTextFault, HasWordFault, HaveWordsFault}
use Rattle.roa_routes.proofs.Common.{IsAsnOrigin, IsAsnText, IsDumpRoute, IsFieldAt, IsLineOf, IsNoAsnText, IsOtherWord}
use Rattle.roa_routes.proofs.Common.{IsPathPlace, IsPrefixText, IsReadLine, IsReadOf, IsRouteBy, IsRouteText, IsTrue}
use Rattle.roa_routes.proofs.Common.{IsUtf8, IsWordOrigin, IsWordsFault, List, MatchResult, Ok, Option, Result, ap}
use Rattle.roa_routes.proofs.Common.{arith, drop_all, false, inr, is_ok, is_space, last_word, length, length-append}
use Rattle.roa_routes.proofs.Common.{list_any, nil_from_length, origin_word, position_or_len, prefix_word, trim, ℕ, []}
use Rattle.roa_routes.proofs.Common.{◌+◌, ◌<◌, ◌==◌, ◌↔◌, ◌∙◌, ◌≡◌, before_first, after_first, is_comma, FamilyPrefix}
use Rattle.roa_routes.proofs.Common.{inl, refl, Some, AreDumpTexts, IsNoFieldAt, ◌⊎◌, None}
use Rattle.roa_routes.specs.Texts.{AreVrpWords, HasVrpTextFault, HaveVrpWordsFault, IsVrpText}
use Rattle.roa_routes.specs.declared.fault.RouteFault.{RouteFault}
use Rattle.roa_routes.specs.declared.route.Route.{Route}
use Rattle.roa_vrps.specs.declared.fault.VrpFault.{VrpFault}
use Rattle.rpki_base.proofs.AsnLemmas.{IsAsnText-one}
use Rattle.rpki_prefix.proofs.PrefixTextLemmas.{HasPrefixTextFault-one, IsPrefixText-no_fault, IsPrefixText-one}
use Rattle.rpki_prefix.specs.MaxLen.{MaxLenValue}
use Rattle.rpki_text.proofs.PrintedListLemmas.{trim_shown}
use Rattle.rpki_text.proofs.ReadingLemmas.{Answers-from_found}
use Rattle.rpki_text.specs.Reading.{Answers}
use Rattle.std.specs.Str.Parse.{without_leading_plus}
use Rattle.roa_routes.specs.declared.fault.RouteFault.TheVariants.{NotUtf8, TooFewFields, CommaForSpace, OtherWord}
use Rattle.roa_routes.specs.declared.fault.RouteFault.TheVariants.{Prefix, Asn}

pub route_text_found : (line text : List ℕ) (r : Result Route RouteFault) → IsUtf8 line → text ≡ trim line
    → MatchResult r (AreRouteWords text) (HaveWordsFault text)
    → MatchResult r (IsRouteText line) (HasRouteTextFault line)
route_text_found line text (Ok route) utf8 is found = (utf8, rw is at found)
route_text_found line text (Err fault) utf8 is found = inr (utf8, rw is at found)

pub vrp_text_found : (line text : List ℕ) (r : Result (MaxLenValue × ℕ) VrpFault) → IsUtf8 line → text ≡ trim line
    → MatchResult r (AreVrpWords (prefix_word text) (origin_word text))
    (HaveVrpWordsFault (prefix_word text) (origin_word text))
    → MatchResult r (IsVrpText line) (HasVrpTextFault line)
vrp_text_found line text (Ok vrp) utf8 is found = (utf8, rw is at found)
vrp_text_found line text (Err fault) utf8 is found = inr (utf8, rw is at found)

-- a text has one value or one fault at most
pub record IsDecided {V : Type 0} (Has : V → Type 0) (Fails : RouteFault → Type 0) : Type 0 where
  pub one : (a b : V) → Has a → Has b → a ≡ b
  pub apart : (a : V) (f : RouteFault) → Has a → Fails f → ⊥
  pub same : (d e : RouteFault) → Fails d → Fails e → d ≡ e

-- ---- a prefix and what a word says of the origin

-- where that holds of one at most, and of none that there is a fault of
module _ (Origin : Option ℕ → Type 0) (NoOrigin : Type 0) (origin_one : (a b : Option ℕ) → Origin a → Origin b → a ≡ b)
    (origin_apart : (a : Option ℕ) → Origin a → NoOrigin → ⊥) (text : List ℕ) where
  by_apart : (a : Route) (f : RouteFault) → IsRouteBy Origin text a → HasFaultBy NoOrigin text f → ⊥
  by_apart a NotUtf8 h wrong = wrong
  by_apart a f h wrong = search (arith, IsPrefixText-no_fault, origin_apart)

  by_fault : (d e : RouteFault) → HasFaultBy NoOrigin text d → HasFaultBy NoOrigin text e → d ≡ e
  by_fault NotUtf8 e h k = absurd h
  by_fault TooFewFields e h k = absurd h
  by_fault CommaForSpace e h k = absurd h
  by_fault OtherWord e h k = absurd h
  by_fault d NotUtf8 h k = absurd k
  by_fault d TooFewFields h k = absurd k
  by_fault d CommaForSpace h k = absurd k
  by_fault d OtherWord h k = absurd k
  by_fault d e h k = search (arith, HasPrefixTextFault-one, IsPrefixText-no_fault)

  by_word : IsDecided (IsRouteBy Origin text) (HasFaultBy NoOrigin text)
  by_word = record {
    one = λ a b h k. grind (arith, origin_one, IsPrefixText-one text a.prefix b.prefix h.prefix k.prefix);
    apart = by_apart;
    same = by_fault;
  }

module _ (word text : List ℕ) where
  -- the text of an AS number
  words_decided : IsDecided (IsRouteBy (IsAsnOrigin word) text) (HasFaultBy (IsNoAsnText word) text)
  words_decided =
      by_word (IsAsnOrigin word) (IsNoAsnText word) (λ a b h k. grind (arith, IsAsnText-one))
      (λ a h none. grind (arith)) text

  -- the last word of a path
  word_one : (a b : Option ℕ) → IsWordOrigin word a → IsWordOrigin word b → a ≡ b
  word_one (Some m) (Some n) h k = ap Some (IsAsnText-one word m n h.1 k.1)
  word_one a b h k = grind (arith)

  word_apart : (a : Option ℕ) → IsWordOrigin word a → HasWordFault word → ⊥
  word_apart (Some n) h wrong = wrong.1 n h.1
  word_apart a h wrong = grind (arith)

  path_decided : IsDecided (IsRouteBy (IsWordOrigin word) text) (HasFaultBy (HasWordFault word) text)
  path_decided = by_word (IsWordOrigin word) (HasWordFault word) word_one word_apart text

-- ---- what is decided by parts

-- by two fields of a dump's line
module _ (line : List ℕ) {Has : List ℕ → List ℕ → Route → Type 0} {Fails : List ℕ → List ℕ → RouteFault → Type 0}
    (texts : (prefix path : List ℕ) → IsDecided (Has prefix path) (Fails prefix path)) (n : ℕ) where
  by_fields : IsDecided
      (λ a. (prefix : List ℕ) × (path : List ℕ) × AreDumpTexts n line prefix path × Has prefix path a)
      (λ f. ((IsNoFieldAt 5 line ⊎ IsNoFieldAt n line) × (f ≡ TooFewFields))
      ⊎ ((prefix : List ℕ) × (path : List ℕ) × AreDumpTexts n line prefix path × Fails prefix path f))
  by_fields = record {
    one = λ a b h k. grind (arith, λ (prefix path : List ℕ). (texts prefix path).one);
    apart = λ a f h k. grind (arith, λ (prefix path : List ℕ). (texts prefix path).apart);
    same = λ d e h k. grind (arith, λ (prefix path : List ℕ). (texts prefix path).same);
  }

-- by the place of something, or without a place
module _ (At : ℕ → Type 0) (at_one : (m n : ℕ) → At m → At n → m ≡ n) {Has : Route → Type 0}
    {Fails : RouteFault → Type 0} {HasAt : ℕ → Route → Type 0} {FailsAt : ℕ → RouteFault → Type 0}
    (none : IsDecided Has Fails) (some : (n : ℕ) → IsDecided (HasAt n) (FailsAt n)) where
  by_place : IsDecided (λ a. (((n : ℕ) → ¬ At n) × Has a) ⊎ ((n : ℕ) × At n × HasAt n a))
      (λ f. (((n : ℕ) → ¬ At n) × Fails f) ⊎ ((n : ℕ) × At n × FailsAt n f))
  by_place = record {
    one = λ a b h k. grind (arith, at_one, none.one, λ (n : ℕ). (some n).one);
    apart = λ a f h k. grind (arith, at_one, none.apart a f, λ (n : ℕ). (some n).apart a f);
    same = λ d e h k. grind (arith, at_one, none.same, λ (n : ℕ). (some n).same);
  }

-- where the text is of a kind
module _ (IsKind : Type 0) (other : RouteFault) {V : Type 0} {Has : V → Type 0} {Fails : RouteFault → Type 0}
    (found : IsDecided Has Fails) where
  by_kind : IsDecided (λ a. IsKind × Has a) (λ f. ((¬ IsKind) × (f ≡ other)) ⊎ (IsKind × Fails f))
  by_kind = record {
    one = λ a b h k. found.one a b h.1 k.1;
    apart = λ a f h k. grind (arith, found.apart a f);
    same = λ d e h k. grind (arith, found.same);
  }

-- ---- a comma where a space is expected

-- nothing is no AS number
no_asn : (n : ℕ) → ¬ IsAsnText [] n
no_asn n h =
    let none : h.digits ≡ [] =
    nil_from_length h.digits (omega (arith, ap length h.split ∙ length-append h.letters h.digits)) in
    let some : 0 < length (without_leading_plus h.digits) = h.number.digits.0 in
    absurd (omega (arith, rw none at some))

module _ (line : List ℕ) where
  -- a line without a space has no word of an origin
  no_word : position_or_len is_space line ≡ length line → origin_word line ≡ []
  no_word no_space =
      ap trim (drop_all (position_or_len is_space line + 1) line (omega (arith, no_space))) ∙ trim_shown [] tt

  -- so it writes no route
  no_words : position_or_len is_space line ≡ length line → (a : Route) → ¬ AreRouteWords line a
  no_words no_space a h = grind (arith, no_word no_space, no_asn, h.origin)

  comma_decided : IsDecided (AreRouteWords line) (HaveWordsFault line)
  comma_decided =
      let words = words_decided (origin_word line) (prefix_word line) in
      record {
        one = words.one;
        apart = λ a f h wrong. grind (arith, no_words, words.apart a f, h.prefix);
        same = λ d e h k. grind (arith, words.same d e);
      }

  -- what stands round its first comma writes no route
  pub no_comma_route : (prefix origin : List ℕ) (f : RouteFault) → prefix ≡ trim (before_first is_comma line)
      → origin ≡ trim (after_first is_comma line) → HasFaultBy (IsNoAsnText origin) prefix f → ¬ HasCommaForSpace line
  no_comma_route prefix origin f one other wrong comma =
      (words_decided _ _).apart comma.route f comma.writes (rw (one, other) at wrong)

  pub comma_route : (prefix origin : List ℕ) (a : Route) → prefix ≡ trim (before_first is_comma line)
      → origin ≡ trim (after_first is_comma line) → position_or_len is_space line ≡ length line
      → IsRouteBy (IsAsnOrigin origin) prefix a → HasCommaForSpace line
  comma_route prefix origin a one other no_space writes =
      record { no_space = no_space; route = a; writes = rw (one, other) at writes }

-- ---- any line

module _ (line : List ℕ) where
  place_one : (m n : ℕ) → IsPathPlace line m → IsPathPlace line n → m ≡ n
  place_one m n h k = grind (arith)

  dump_decided : (n : ℕ) → IsDecided (IsDumpRoute n line) (HasDumpFault n line)
  dump_decided n = by_fields line (λ prefix path. path_decided (last_word path) prefix) n

  line_decided : IsDecided (IsLineOf line) (HasLineFault line)
  line_decided = by_place (IsPathPlace line) place_one (comma_decided line) dump_decided

  -- a line that announces nothing has no route
  read_one : (a b : Option Route) → IsReadOf line a → IsReadOf line b → a ≡ b
  read_one None None h k = refl
  read_one None (Some b) h k = absurd (k.0 h)
  read_one (Some a) None h k = absurd (h.0 k)
  read_one (Some a) (Some b) h k = ap Some (line_decided.one a b h.1 k.1)

  read_apart : (a : Option Route) (f : RouteFault) → IsReadOf line a → HasReadFault line f → ⊥
  read_apart None f h wrong = wrong.0 h
  read_apart (Some a) f h wrong = line_decided.apart a f h.1 wrong.1

  read_decided : IsDecided (IsReadOf line) (HasReadFault line)
  read_decided = record {
    one = read_one;
    apart = read_apart;
    same = λ d e h k. line_decided.same d e h.1 k.1;
  }

pub route_decided : (line : List ℕ) → IsDecided (IsReadLine line) (HasRouteFault line)
route_decided line = by_kind (IsUtf8 line) NotUtf8 (read_decided (trim line))

-- so what is found decides the answer
pub route_answers : (line : List ℕ) (r : Result (Option Route) RouteFault)
    → MatchResult r (IsReadLine line) (HasRouteFault line) → Answers (IsReadLine line) (HasRouteFault line) r
route_answers line r found =
    let decided = route_decided line in
    Answers-from_found r found decided.one decided.apart decided.same

-- ---- what is found of parts is found of the line

words_wrong_at : (text : List ℕ) (first fault : RouteFault) → ¬ HasCommaForSpace text
    → HasFaultBy (IsNoAsnText (origin_word text)) (prefix_word text) first → IsWordsFault (prefix_word text) first fault
    → HaveWordsFault text fault
words_wrong_at text (Prefix f) fault no_comma wrong (inl (other, is)) =
    let no_prefix = λ (p : FamilyPrefix) (h : IsPrefixText (prefix_word text) p). IsPrefixText-no_fault _ p f h wrong in
    inr (inl (no_comma, record { no_prefix = no_prefix; other = other }, is))
words_wrong_at text (Prefix f) fault no_comma wrong (inr (no_other, is)) =
    inr (inr (no_comma, λ h. no_other h.other, rw is wrong))
words_wrong_at text (Asn f) fault no_comma wrong is =
    inr (inr (no_comma, λ h. h.no_prefix wrong.0.0 wrong.0.1, rw is wrong))
words_wrong_at text first fault no_comma wrong is = absurd wrong

pub words_wrong : (text prefix origin : List ℕ) (first fault : RouteFault) → prefix ≡ prefix_word text
    → origin ≡ origin_word text → ¬ HasCommaForSpace text → HasFaultBy (IsNoAsnText origin) prefix first
    → IsWordsFault prefix first fault → HaveWordsFault text fault
words_wrong text prefix origin first fault one other no_comma wrong is =
    words_wrong_at text first fault no_comma (rw (one, other) at wrong) (rw one at is)

pub dump_found : (n : ℕ) (line prefix path word : List ℕ) (r : Result Route RouteFault) → IsFieldAt 5 line prefix
    → IsFieldAt n line path → word ≡ last_word path
    → MatchResult r (IsRouteBy (IsWordOrigin word) prefix) (HasFaultBy (HasWordFault word) prefix)
    → MatchResult r (IsDumpRoute n line) (HasDumpFault n line)
dump_found n line prefix path word (Ok route) at there is found = grind (arith)
dump_found n line prefix path word (Err fault) at there is found =
    inr (prefix, path, record { prefix_is = at; path_is = there }, rw is at found)

pub text_found : (line text : List ℕ) (r : Result (Option Route) RouteFault) → IsUtf8 line → text ≡ trim line
    → MatchResult r (IsReadOf text) (HasReadFault text) → MatchResult r (IsReadLine line) (HasRouteFault line)
text_found line text (Ok read) utf8 is found = (utf8, rw is at found)
text_found line text (Err fault) utf8 is found = inr (utf8, rw is at found)

-- a word without a tab that is read as an AS number, or not
pub other_word : {E : Type 0} (word : List ℕ) (r : Result ℕ E) → list_any (λ byte. byte == 9) word ≡ false
    → MatchResult r (IsAsnText word) (λ _. IsNoAsnText word) → IsTrue (is_ok r) ↔ IsOtherWord word
other_word word (Ok n) no_tab found = (λ h. inr (n, found), λ h. refl)
other_word word (Err e) no_tab found = (
  λ h. cc,
  λ h. elim h [
    | inl tab ↦ cc
    | inr (n, is) ↦ absurd (found n is)
  ],
)
