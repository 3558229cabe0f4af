-- A line writes one thing alone, or has one fault.
use Rattle.roa_vrps.proofs.Common.{AreFieldTexts, ArePairTexts, AreVrpTexts, Columns, FitsColumns, HasCountFault}
use Rattle.roa_vrps.proofs.Common.{HasMaxLenError, HasRowFault, HaveColumnsFault, HaveFault, HaveFieldsFault}
use Rattle.roa_vrps.proofs.Common.{IsAsnText-one, IsBody, IsHeader, IsMaxLenOf, IsNumberText-one, IsRow, IsUtf8, List}
use Rattle.roa_vrps.proofs.Common.{MatchResult, MaxLenValue, Result, Row, Some, VrpFault, WritesPrefix, ap, arith, inl}
use Rattle.roa_vrps.proofs.Common.{inr, trim, ℕ, [], ◌-◌, ◌^◌, ◌≡◌, ◌≢◌, ◌⊎◌}
use Rattle.roa_vrps.specs.declared.fault.VrpFault.TheVariants.{Asn, MaxLen, MaxLenFormat, NotUtf8, Prefix, TooFewFields}
use Rattle.roa_vrps.specs.declared.fault.VrpFault.TheVariants.{TooManyFields}
use Rattle.roa_vrps.specs.declared.row.Row.TheVariants.{Vrp}
use Rattle.rpki_prefix.proofs.PrefixTextLemmas.{HasPrefixTextFault-one, IsPrefixText-no_fault, IsPrefixText-one}
use Rattle.rpki_prefix.proofs.PrefixTextLemmas.{number_apart, same_number_fault}
use Rattle.rpki_prefix.specs.PrefixText.{HasPrefixTextFault}
use Rattle.rpki_prefix.specs.Values.{FamilyPrefix}
use Rattle.rpki_prefix.specs.declared.error.MaxLenError.{MaxLenError}
use Rattle.rpki_prefix.specs.declared.error.ParsePrefixError.{ParsePrefixError}
use Rattle.rpki_text.specs.declared.number.ParseIntError.TheVariants.{Empty}
use Rattle.roa_vrps.proofs.ColumnLemmas.{header_one}
use Rattle.roa_vrps.proofs.Outcomes.{IsExact}

-- a number is a maximum length of a prefix, or has one error
pub max_apart : (p : FamilyPrefix) (n : ℕ) (f : MaxLenError) → IsMaxLenOf p (Some n) → HasMaxLenError p (Some n) f → ⊥
max_apart p n f h above = grind (arith)

pub max_error_one : (p : FamilyPrefix) (n : ℕ) (f g : MaxLenError) → HasMaxLenError p (Some n) f
    → HasMaxLenError p (Some n) g → f ≡ g
max_error_one p n f g h k = grind (arith)

module _ (a p m : List ℕ) where
  -- three texts write one VRP
  pub vrp_one : (x y : MaxLenValue × ℕ) → AreVrpTexts a p m x.0 x.1 → AreVrpTexts a p m y.0 y.1 → x ≡ y
  vrp_one x y h k =
      let prefix = IsPrefixText-one p x.0.prefix y.0.prefix h.prefix_is k.prefix_is in
      let len = IsNumberText-one (2 ^ 8 - 1) m h.len k.len h.len_is k.len_is in
      grind (arith, prefix, len, IsAsnText-one a x.1 y.1 h.asn_is k.asn_is)

  -- and then have no fault
  pub fields_apart : (x : MaxLenValue) (j : ℕ) (f : VrpFault) → AreVrpTexts a p m x j → HaveFault a p m f → ⊥
  fields_apart x j (MaxLenFormat f) h (_, _, wrong) = number_apart m h.len f h.len_is wrong
  fields_apart x j (MaxLen f) h (_, (q, n, prefix, number, wrong)) =
      let same = IsPrefixText-one p x.prefix q h.prefix_is prefix in
      let len = IsNumberText-one (2 ^ 8 - 1) m h.len n h.len_is number in
      max_apart q n f (rw (same, len) at h.within) wrong
  fields_apart x j f h wrong = search (arith, IsPrefixText-no_fault)

  -- three texts have one fault
  pub have_one : (d e : VrpFault) → HaveFault a p m d → HaveFault a p m e → d ≡ e
  have_one NotUtf8 e h k = absurd h
  have_one (TooManyFields found named) e h k = absurd h
  have_one (TooFewFields found named) e h k = absurd h
  have_one d NotUtf8 h k = absurd k
  have_one d (TooManyFields found named) h k = absurd k
  have_one d (TooFewFields found named) h k = absurd k
  have_one (Asn f) e h k = search (arith)
  have_one (Prefix f) e h k = search (arith, HasPrefixTextFault-one, IsPrefixText-no_fault)
  have_one (MaxLenFormat f) (MaxLenFormat g) (_, _, wrong) (_, _, other) =
      ap MaxLenFormat (same_number_fault m f g wrong other)
  have_one (MaxLenFormat f) (MaxLen g) (_, _, wrong) (_, (q, n, _, is, _)) = absurd (number_apart m n f is wrong)
  have_one (MaxLenFormat f) e h k = search (arith, IsPrefixText-no_fault)
  have_one (MaxLen f) (MaxLenFormat g) (_, (q, n, _, is, _)) (_, _, wrong) = absurd (number_apart m n g is wrong)
  have_one (MaxLen f) (MaxLen g) (_, (q, n, prefix, number, wrong)) (_, (r, k, prefixed, numbered, other)) =
      let same = IsPrefixText-one p q r prefix prefixed in
      let len = IsNumberText-one (2 ^ 8 - 1) m n k number numbered in
      ap MaxLen (max_error_one r k f g (rw (same, len) at wrong) other)
  have_one (MaxLen f) e h k = search (arith, IsPrefixText-no_fault)

  -- so do the texts of three fields, of which the last may be empty
  fields_one : (x y : MaxLenValue × ℕ) → AreFieldTexts a p m x → AreFieldTexts a p m y → x ≡ y
  fields_one x y (inl h) (inl k) = vrp_one x y h k
  fields_one x y (inl h) (inr (empty, k)) = absurd (number_apart m h.len Empty h.len_is empty)
  fields_one x y (inr (empty, h)) (inl k) = absurd (number_apart m k.len Empty k.len_is empty)
  fields_one x y (inr (_, h)) (inr (_, k)) =
      let prefix = IsPrefixText-one p x.0.prefix y.0.prefix h.prefix_is k.prefix_is in
      grind (arith, prefix, IsAsnText-one a x.1 y.1 h.asn_is k.asn_is)

  field_texts_apart : (x : MaxLenValue × ℕ) (f : VrpFault) → AreFieldTexts a p m x → HaveFieldsFault a p m f → ⊥
  field_texts_apart x f (inl h) (_, wrong) = fields_apart x.0 x.1 f h wrong
  field_texts_apart x (MaxLenFormat f) (inr (empty, h)) (some, (_, _, wrong)) =
      some (ap MaxLenFormat (same_number_fault m f Empty wrong empty))
  field_texts_apart x (MaxLen f) (inr (empty, h)) (_, (_, (q, n, _, number, _))) = number_apart m n Empty number empty
  field_texts_apart x f (inr (empty, h)) (_, wrong) = search (arith, IsPrefixText-no_fault)

  -- what is found in two texts, or in three, is found in the fields
  pub pair_found : (r : Result (MaxLenValue × ℕ) VrpFault) → m ≡ []
      → MatchResult r (λ x. ArePairTexts a p x.0 x.1) (HaveFieldsFault a p [])
      → MatchResult r (AreFieldTexts a p m) (HaveFieldsFault a p m)
  pair_found r empty is = grind (arith)

  -- an empty maximum length is the only one with the fault `Empty`
  not_empty : m ≢ [] → HaveFault a p m (MaxLenFormat Empty) → ⊥
  not_empty some (_, _, empty) = some empty

  pub three_found : (r : Result (MaxLenValue × ℕ) VrpFault) → m ≢ []
      → MatchResult r (λ x. AreVrpTexts a p m x.0 x.1) (HaveFault a p m)
      → MatchResult r (AreFieldTexts a p m) (HaveFieldsFault a p m)
  three_found r some is = grind (arith)

-- a text with a fault is no prefix
pub no_prefix : (text : List ℕ) (f : ParsePrefixError) → HasPrefixTextFault text f → ¬ WritesPrefix text
no_prefix text f wrong (q, is) = search (arith, IsPrefixText-no_fault)

-- a line that is to write a VRP
pub body_of : (line : List ℕ) → IsUtf8 line → trim line ≢ [] → ((next : Columns) → ¬ IsHeader line next) → IsBody line
body_of line utf8 some_text no_header = record { utf8 = utf8; some_text = some_text; no_header = no_header }

module _ (columns : Columns) (line : List ℕ) where
  -- the number of the fields has the fault, or their texts have
  abbrev Fails : VrpFault → Type 0
  Fails f = HasCountFault columns line f ⊎ (FitsColumns columns line × HaveColumnsFault columns line f)

  -- the number of the fields has one fault, and none where it fits
  count_apart : (f : VrpFault) → FitsColumns columns line → HasCountFault columns line f → ⊥
  count_apart f fits wrong = grind (arith)

  count_one : (d e : VrpFault) → HasCountFault columns line d → HasCountFault columns line e → d ≡ e
  count_one d e h k = grind (arith)

  row_one : (x y : Row) → IsRow columns line x → IsRow columns line y → x ≡ y
  row_one (Vrp p) (Vrp q) (_, _, h) (_, _, k) = ap Vrp (fields_one _ _ _ p q h k)
  row_one x y h k = grind (arith, header_one)

  body_apart : (x : Row) (f : VrpFault) → IsRow columns line x → IsBody line → Fails f → ⊥
  body_apart (Vrp p) f (_, fits, h) body wrong =
      grind (arith, count_apart f fits, field_texts_apart _ _ _ p f h)
  body_apart x f h body wrong = grind (arith)

  row_apart : (x : Row) (f : VrpFault) → IsRow columns line x → HasRowFault columns line f → ⊥
  row_apart x f h (inl (_, none)) = grind (arith)
  row_apart x f h (inr (body, wrong)) = body_apart x f h body wrong

  row_fault_one : (d e : VrpFault) → HasRowFault columns line d → HasRowFault columns line e → d ≡ e
  row_fault_one d e h k = grind (arith, count_apart, count_one, have_one)

  pub row_exact : IsExact (IsRow columns line) (HasRowFault columns line)
  row_exact = record { one = row_one; apart = row_apart; fault_one = row_fault_one }
