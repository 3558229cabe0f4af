-- Words at the front of a text, and lines of the usual form, which write the VRP of their first three fields.
use Rattle.roa_vrps.proofs.Common.{All, AllByRecursion, AllDigits, AreVrpTexts, Columns, IfSome, IsHeader, IsInRange}
use Rattle.roa_vrps.proofs.Common.{IsRow, IsUtf8, List, MaxLenValue, Names, Option, after_commas, after_first}
use Rattle.roa_vrps.proofs.Common.{append_assoc, arith, before_first, cond, count_by, digits_are_bytes, digits_value}
use Rattle.roa_vrps.proofs.Common.{drop, drop_at, fails_before_first, false, field, field_count, get_or-take, inr}
use Rattle.roa_vrps.proofs.Common.{is_comma, length, length-append, length-drop, length-take, length_push, lit≤}
use Rattle.roa_vrps.proofs.Common.{position_or_len, refl, slash, suc, sum_by-append, sum_by-cons, take}
use Rattle.roa_vrps.proofs.Common.{take-append-drop, take_at, take_rest, trim, trim_shown, unquoted, zero, ℕ, [], ◌++◌}
use Rattle.roa_vrps.proofs.Common.{◌+◌, ◌-◌, ◌<◌, ◌^◌, ◌∙◌, ◌∷◌, ◌≡◌, ◌≢◌, ◌≤◌}
use Rattle.roa_vrps.specs.UsualRows.{AllowUsual, AreFurther, AreShown, EndsField, IsAsnWord, IsDigitText, IsPrefixWord}
use Rattle.roa_vrps.specs.UsualRows.{IsVrpOf}
use Rattle.roa_vrps.specs.declared.columns.Column.TheVariants.{MaxLen}
use Rattle.roa_vrps.specs.declared.row.Row.TheVariants.{Vrp}
use Rattle.rpki_addr.proofs.AddressBytes.{no_slash}
use Rattle.rpki_addr.proofs.WrittenBytes.{IsWrittenByte, ipv4_written, ipv6_written, wider}
use Rattle.rpki_addr.specs.AddressFronts.{IsAtFront}
use Rattle.rpki_addr.specs.AddressText.{IsIpText}
use Rattle.rpki_addr.specs.declared.addr.IpAddr.{IpAddr}
use Rattle.rpki_base.specs.AsnPlaces.{IsAsnBetween}
use Rattle.rpki_text.proofs.TrimLemmas.{trim_visible}
use Rattle.rpki_text.specs.Lists.{comma}
use Rattle.rpki_text.specs.Numbers.{AreDigitsFrom, IsNumberText}
use Rattle.std.proofs.lemmas.Bool.Decides.{nat_tests}
use Rattle.std.proofs.lemmas.List.Elements.{All-append, All-cons, All-drop, All-from_recursion, All-get_or, All-head}
use Rattle.std.proofs.lemmas.List.Elements.{All-tail, All-weaker, recursion_from_All}
use Rattle.std.proofs.lemmas.Str.{IsUtf8-from_ascii}
use Rattle.std.proofs.lemmas.Str.Ascii.{IsAscii-from_all}
use Rattle.std.proofs.lemmas.Str.Parse.{digit_at, without_leading_plus_none}

-- letters and digits are bytes of a word
word_bytes : (text : List ℕ) → AllByRecursion (IsInRange 48 122) text → All (IsInRange 46 122) text
word_bytes text h = grind (arith, All-from_recursion, All-weaker)

pub digit_bytes : (text : List ℕ) → AllDigits 10 text → All (IsInRange 46 122) text
digit_bytes text h = word_bytes text (digits_are_bytes 122 (lit≤ tt) text h)

pub asn_first : (text : List ℕ) (asn end : ℕ) → IsAsnBetween 0 end text asn
    → IsAtFront IsAsnWord text asn (take (length text - end) (drop end text))
asn_first text asn end h = record {
  front = take (end - 0) (drop 0 text);
  split = grind (arith, take-append-drop (end - 0) text, take_rest text end);
  writes = record {
    some = omega (arith, length-take {A = ℕ}, length-drop 0 text, h.in_order, h.within);
    visible = word_bytes _ h.bytes;
    holds = h.number;
  };
}

-- digits are a number text
digits_are_number : (ds : List ℕ) (n : ℕ) → 0 < length ds → AllDigits 10 ds → digits_value 10 ds ≡ n → n ≤ 255
    → IsNumberText (2 ^ 8 - 1) ds n
digits_are_number ds n some all value small = grind (arith, digit_at ds 0 all some, without_leading_plus_none)

pub number_first : (text : List ℕ) (n end : ℕ) → AreDigitsFrom 0 end text n → end ≢ 0 → n ≤ 255
    → IsAtFront IsDigitText text n (take (length text - end) (drop end text))
number_first text n end h some small =
    let digits = take (end - 0) (drop 0 text) in
    let count : length digits ≡ end = omega (arith, length-take {A = ℕ}, length-drop 0 text, h.digits.within) in
    let ten = h.digits.all_digits in
    record {
      front = digits;
      split = grind (arith, take-append-drop (end - 0) text, take_rest text end);
      writes = record {
        digits = ten;
        number = digits_are_number digits n (omega (arith, count, some)) ten h.digits.value small;
      };
    }

addr_written : (text : List ℕ) (a : IpAddr) → IsIpText text a → All IsWrittenByte text
addr_written text a h = grind (arith, All-weaker, ipv4_written, ipv6_written, wider)

-- an address, a slash and a length are a prefix
pub prefix_first : (text after len rest : List ℕ) (a : IpAddr) (n : ℕ) → IsAtFront IsIpText text a after
    → after ≡ slash ∷ len → IsAtFront IsDigitText len n rest → IsAtFront IsPrefixWord text (a, n) rest
prefix_first text after len rest a n addr e digits =
    let written = addr_written addr.front a addr.writes in
    let bytes = All-weaker IsWrittenByte (IsInRange 46 122) (λ b byte. grind arith) addr.front written in
    let others = digit_bytes digits.front digits.writes.digits in
    record {
      front = addr.front ++ slash ∷ digits.front;
      split = grind (arith, append_assoc, addr.split, digits.split);
      writes = record {
        some = omega (arith, length-append addr.front (slash ∷ digits.front));
        visible =
            All-append (IsInRange 46 122) addr.front _ bytes
            (All-cons (IsInRange 46 122) slash digits.front (lit≤ tt, lit≤ tt) others);
        holds = record {
          left = addr.front;
          right = digits.front;
          cut = record { split = refl; first = no_slash addr.front written };
          holds = record { addr_text = addr.writes; len_text = digits.writes.number };
        };
      };
    }

-- a shown byte is no comma
not_comma : (b : ℕ) → IsInRange 45 126 b → is_comma b ≡ false
not_comma b h = grind (arith, nat_tests)

word_shown : (text : List ℕ) → All (IsInRange 46 122) text → AreShown text
word_shown text h = grind (arith, All-weaker)

-- so the first comma, or the end, comes after shown bytes
position_shown : (xs more : List ℕ) → AreShown xs → EndsField more
    → position_or_len is_comma (xs ++ more) ≡ length xs
position_shown [] more h ends = grind (arith)
position_shown (x ∷ xs) more h ends =
    let other = not_comma x (All-head (IsInRange 45 126) x xs h) in
    rw other (omega (arith, position_shown xs more (All-tail (IsInRange 45 126) x xs h) ends))

before_end : (xs more : List ℕ) → AreShown xs → EndsField more → before_first is_comma (xs ++ more) ≡ xs
before_end xs more h ends = grind (arith, position_shown, take_at)

-- the text after the first comma
after_comma : (xs ys : List ℕ) → AreShown xs → after_first is_comma (xs ++ comma ∷ ys) ≡ ys
after_comma xs ys h =
    rw (position_shown xs (comma ∷ ys) h (inr (ys, refl)), ← append_assoc xs (comma ∷ []) ys)
    (drop_at (xs ++ comma ∷ []) ys (length xs + 1) (length_push xs comma))

-- shown bytes have neither white space nor quotes at their ends
no_quote : (xs : List ℕ) → AreShown xs → unquoted xs ≡ xs
no_quote [] h = refl
no_quote (x ∷ xs) h = let byte = All-head (IsInRange 45 126) x xs h in grind (arith, nat_tests)

-- a field of shown bytes is its own value
value_shown : (xs : List ℕ) → AreShown xs → unquoted (trim xs) ≡ xs
value_shown xs h = rw (trim_shown xs (recursion_from_All (IsInRange 45 126) xs h)) (no_quote xs h)

-- so they are a field, before a comma or at the end of a line
first_field : (xs more : List ℕ) → AreShown xs → EndsField more → field 0 (xs ++ more) ≡ xs
first_field xs more h ends = rw (before_end xs more h ends) (value_shown xs h)

next_field : (n : ℕ) (xs ys : List ℕ) → AreShown xs → field (suc n) (xs ++ comma ∷ ys) ≡ field n ys
next_field n xs ys h = rw (after_comma xs ys h) refl

-- the number of commas
count_shown : (xs : List ℕ) → AreShown xs → count_by is_comma xs ≡ 0
count_shown [] h = refl
count_shown (x ∷ xs) h =
    let other = not_comma x (All-head (IsInRange 45 126) x xs h) in
    rw (sum_by-cons _ x xs, other) (omega (arith, count_shown xs (All-tail (IsInRange 45 126) x xs h)))

count_comma : (xs ys : List ℕ) → AreShown xs → count_by is_comma (xs ++ comma ∷ ys) ≡ count_by is_comma ys + 1
count_comma xs ys h =
    rw (sum_by-append _ xs (comma ∷ ys), sum_by-cons _ comma ys, count_shown xs h) (omega arith)

-- commas and visible ASCII after the comma
abbrev AreVisible : List ℕ → Type 0
AreVisible = All (IsInRange 44 126)

-- shown bytes are visible
visible_shown : (xs : List ℕ) → AreShown xs → AreVisible xs
visible_shown xs h = grind (arith, All-weaker)

field_before : (xs more : List ℕ) → AreShown xs → AreVisible more → AreVisible (xs ++ comma ∷ more)
field_before xs more h rest =
    let last = All-cons (IsInRange 44 126) comma more (lit≤ tt, lit≤ tt) rest in
    All-append (IsInRange 44 126) xs _ (visible_shown xs h) last

-- before the first comma of such bytes are shown ones
before_shown : (xs : List ℕ) → AreVisible xs → AreShown (before_first is_comma xs)
before_shown xs h k d less =
    let within : k < position_or_len is_comma xs = omega (arith, length-take (position_or_len is_comma xs) xs, less) in
    let byte = h k d (omega (arith, length-take (position_or_len is_comma xs) xs, less)) in
    let other = fails_before_first is_comma xs k d within in
    rw get_or-take (grind (arith, nat_tests, byte, other))

after_visible : (n : ℕ) (xs : List ℕ) → AreVisible xs → AreVisible (after_commas n xs)
after_visible zero xs h = h
after_visible (suc n) xs h = after_visible n (after_first is_comma xs) (All-drop (IsInRange 44 126) _ xs h)

-- so each field is shown
field_shown : (n : ℕ) (xs : List ℕ) → AreVisible xs → AreShown (field n xs)
field_shown n xs h =
    let shown = before_shown (after_commas n xs) (after_visible n xs h) in
    rw (value_shown _ shown) shown

-- and none names the column of the maximum length, since both names have a space
no_space : (text : List ℕ) → AreShown text → ¬ Names MaxLen text
no_space text h named = let byte = All-get_or (IsInRange 45 126) text 3 0 in grind (arith, byte)

no_header : (line : List ℕ) → AreVisible line → (next : Columns) → ¬ IsHeader line next
no_header line h next header = no_space (field next.max_len line) (field_shown next.max_len line h) header.max_len.named

-- such a line is UTF-8, and not blank
ascii : (line : List ℕ) → AreVisible line → IsUtf8 line
ascii line h = grind (arith, All-weaker, IsAscii-from_all, IsUtf8-from_ascii)

not_blank : (line : List ℕ) → AreVisible line → 0 < length line → trim line ≢ []
not_blank line h some none = grind (arith, All-get_or, ascii, trim_visible)

module _ (columns : Columns) (line after_asn text after_prefix digits more : List ℕ) (n : ℕ) (parts : IpAddr × ℕ)
    (max count : ℕ) (asn : IsAtFront IsAsnWord line n after_asn) (one : after_asn ≡ comma ∷ text)
    (prefix : IsAtFront IsPrefixWord text parts after_prefix) (two : after_prefix ≡ comma ∷ digits)
    (max_len : IsAtFront IsDigitText digits max more) (further : EndsField more × AreFurther more count) where
  split : line ≡ asn.front ++ comma ∷ (prefix.front ++ comma ∷ (max_len.front ++ more))
  split = grind (arith, asn.split, prefix.split, max_len.split)

  -- the three fields are shown
  shown_asn : AreShown asn.front
  shown_asn = word_shown asn.front asn.writes.visible

  shown_prefix : AreShown prefix.front
  shown_prefix = word_shown prefix.front prefix.writes.visible

  shown : AreShown max_len.front
  shown = word_shown max_len.front (digit_bytes max_len.front max_len.writes.digits)

  visible : AreVisible line
  visible =
      let last = All-append (IsInRange 44 126) max_len.front more (visible_shown max_len.front shown) further.1.shown in
      rw split (field_before asn.front _ shown_asn (field_before prefix.front _ shown_prefix last))

  -- the line is not empty
  some : 0 < length line
  some = grind (arith, length-append, split)

  -- the line has three fields and those that follow
  fields : field_count line ≡ count + 3
  fields =
      let last = sum_by-append (λ b. cond (is_comma b) 1 0) max_len.front more in
      rw (split, count_comma asn.front _ shown_asn, count_comma prefix.front _ shown_prefix)
      (omega (arith, last, count_shown max_len.front shown, further.1.count))

  first : field 0 line ≡ asn.front
  first = rw split (first_field asn.front _ shown_asn (inr (_, refl)))

  second : field 1 line ≡ prefix.front
  second = rw split (next_field 0 asn.front _ shown_asn ∙ first_field prefix.front _ shown_prefix (inr (_, refl)))

  third : field 2 line ≡ max_len.front
  third =
      rw split
      (next_field 1 asn.front _ shown_asn ∙ next_field 0 prefix.front _ shown_prefix
      ∙ first_field max_len.front more shown further.0)

  texts : (vrp : MaxLenValue × ℕ) → IsVrpOf n parts.0 parts.1 max vrp
      → AreVrpTexts asn.front prefix.front max_len.front vrp.0 vrp.1
  texts vrp is = grind (arith)

  -- so a line of the usual form is a VRP, where the columns allow it
  pub usual_found : (r : Option (MaxLenValue × ℕ)) → AllowUsual columns count → IfSome r (IsVrpOf n parts.0 parts.1 max)
      → IfSome r (λ vrp. IsRow columns line (Vrp vrp))
  usual_found r allow is =
      grind (arith, ascii, fields, first, no_header, not_blank, second, some, texts, third, visible)
