-- A line of the usual form gives the route of its words.
use Rattle.roa_routes.proofs.Common.{All, AreRouteWords, FamilyPrefix, IsAsnText, IsFieldAt, IsPrefixOf, IsPrefixText}
use Rattle.roa_routes.proofs.Common.{IsRouteLine, IsTableName, IsUpdateName, IsUtf8, IsUtf8-from_ascii, List, Some}
use Rattle.roa_routes.proofs.Common.{append-nil, append_assoc, arith, drop, drop_at, get_or-append-add}
use Rattle.roa_routes.proofs.Common.{get_or_append_left, inl, is_bar, is_space, length, length-append, length_push}
use Rattle.roa_routes.proofs.Common.{lit≤, position_or_len, position_or_len_is, refl, sym, take_at, trim, ℕ, [], ◌++◌}
use Rattle.roa_routes.proofs.Common.{◌+◌, ◌-◌, ◌∷◌, ◌≡◌, inr, ◌⊎◌}
use Rattle.roa_vrps.specs.UsualRows.{IsAsnWord, IsPrefixWord, IsWord}
use Rattle.rpki_addr.specs.AddressFronts.{IsAtFront}
use Rattle.rpki_addr.specs.declared.addr.IpAddr.{IpAddr}
use Rattle.rpki_text.proofs.TrimLemmas.{trim_visible}
use Rattle.std.proofs.Math.Seq.{get_or-append_seam}
use Rattle.std.proofs.lemmas.Bool.Decides.{nat_tests}
use Rattle.std.proofs.lemmas.List.Elements.{All-append, All-cons, All-get_or, All-weaker}
use Rattle.std.proofs.lemmas.Str.Ascii.{IsAscii-from_all}
use Rattle.std.specs.Int.{IsInRange}
use Rattle.roa_routes.proofs.FieldLemmas.{cut_none, field_first, no_dump, no_skip}

-- a word has no white space at its ends
word_trims : (P : List ℕ → Type 0) (text : List ℕ) → IsWord P text → trim text ≡ text
word_trims P text h =
    let first = All-get_or (IsInRange 46 122) text 0 0 h.some h.visible in
    let last = All-get_or (IsInRange 46 122) text (length text - 1) 0 (omega (arith, h.some)) h.visible in
    let ascii = IsUtf8-from_ascii text (IsAscii-from_all text (λ k d small. omega (arith, (h.visible k d small).1))) in
    sym
    (trim_visible text ascii h.some (omega (arith, first.0), omega (arith, first.1))
    (omega (arith, last.0), omega (arith, last.1)))

name_has_no_space : (name : List ℕ) (m : ℕ) → IsTableName name m ⊎ IsUpdateName name m
    → position_or_len is_space name ≡ length name
name_has_no_space name m h = grind (arith)

module _ (prefix origin : List ℕ) (p : FamilyPrefix) (n : ℕ) (one : IsWord (λ word. IsPrefixText word p) prefix)
    (other : IsWord (λ word. IsAsnText word n) origin) where
  abbrev line : List ℕ
  line = prefix ++ 32 ∷ origin

  long : length line ≡ length prefix + (1 + length origin)
  long = omega (arith, length-append prefix (32 ∷ origin))

  -- each byte is visible or a space
  bytes : All (IsInRange 32 122) line
  bytes =
      let wider = All-weaker (IsInRange 46 122) (IsInRange 32 122) (λ b byte. (omega (arith, byte.0), byte.1)) in
      All-append (IsInRange 32 122) prefix _ (wider prefix one.visible)
      (All-cons (IsInRange 32 122) 32 origin (lit≤ tt, lit≤ tt) (wider origin other.visible))

  utf8 : IsUtf8 line
  utf8 = IsUtf8-from_ascii line (IsAscii-from_all line (λ k d small. omega (arith, (bytes k d small).1)))

  -- the space is the first one
  space : position_or_len is_space line ≡ length prefix
  space =
      position_or_len_is is_space line (length prefix) 0 (omega (arith, long))
      (λ k small.
      let at = one.visible k 0 small in
      rw (get_or_append_left prefix (32 ∷ origin) 0 k small) (grind (arith, nat_tests)))
      (λ less. rw (get_or-append_seam prefix 32 origin 0) refl)

  -- and no byte is a bar
  bar : position_or_len is_bar line ≡ length line
  bar =
      position_or_len_is is_bar line (length line) 0 (omega arith)
      (λ k small. let at = bytes k 0 small in grind (arith, nat_tests)) (λ less. absurd (omega (arith, less)))

  first : IsFieldAt 0 line line
  first = field_first line line [] (cut_none line bar)

  -- a line with a space is no name
  no_table : (m : ℕ) → ¬ IsTableName line m
  no_table m h = omega (arith, name_has_no_space line m (inl h), space, long)

  no_update : (m : ℕ) → ¬ IsUpdateName line m
  no_update m h = omega (arith, name_has_no_space line m (inr h), space, long)

  trims : trim line ≡ line
  trims =
      let first = All-get_or (IsInRange 46 122) prefix 0 0 one.some one.visible in
      let last = All-get_or (IsInRange 46 122) origin (length origin - 1) 0 (omega (arith, other.some)) other.visible in
      let start = get_or_append_left prefix (32 ∷ origin) 0 0 one.some in
      let end = get_or-append-add prefix (32 ∷ origin) (length origin) 0 in
      let behind = get_or-append-add (32 ∷ []) origin (length origin - 1) 0 in
      sym
      (trim_visible line utf8 (omega (arith, long)) (omega (arith, first.0, start), omega (arith, first.1, start))
      (grind (arith, last, end, behind, long), grind (arith, last, end, behind, long)))

  behind_space : drop (length prefix + 1) line ≡ origin
  behind_space =
      rw (append_assoc prefix (32 ∷ []) origin) at
      (drop_at (prefix ++ 32 ∷ []) origin (length prefix + 1) (length_push prefix 32))

  words : AreRouteWords line (record { prefix = p; origin = Some n })
  words = record {
    prefix = rw (space, take_at prefix (32 ∷ origin) (length prefix) refl, word_trims _ prefix one) one.holds;
    origin = rw (space, behind_space, word_trims _ origin other) other.holds;
  }

  words_line : IsRouteLine line (record { prefix = p; origin = Some n })
  words_line =
      rw trims (utf8, (no_skip line line first no_update, inl (no_dump line line first no_table no_update, words)))

pub usual_line : (text after rest behind : List ℕ) (parts : IpAddr × ℕ) (n : ℕ) (p : FamilyPrefix)
    → IsAtFront IsPrefixWord text parts after → after ≡ 32 ∷ rest → IsAtFront IsAsnWord rest n behind → behind ≡ []
    → IsPrefixOf parts.0 parts.1 p → IsRouteLine text (record { prefix = p; origin = Some n })
usual_line text after rest behind parts n p front space asn end is =
    let denotes : IsPrefixText front.front p =
    record { addr = parts.0; len = parts.1; parts = front.writes.holds; prefix = is } in
    let one : IsWord (λ word. IsPrefixText word p) front.front =
    record { some = front.writes.some; visible = front.writes.visible; holds = denotes } in
    let whole : rest ≡ asn.front = rw (asn.split, end) (append-nil asn.front) in
    rw (front.split, space, whole) (words_line front.front asn.front p n one asn.writes)
