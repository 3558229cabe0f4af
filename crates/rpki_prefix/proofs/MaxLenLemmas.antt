-- A text writes one prefix with a maximum length or without, or has one fault; and what is printed writes what it was
-- printed of.
use Rattle.rpki_prefix.proofs.Common.{List, MatchResult, None, Option, Result, Some, ap, append-nil, arith, decimal}
use Rattle.rpki_prefix.proofs.Common.{inl, inr, length, refl, subst, ℕ, ◌++◌, ◌-◌, ◌^◌, ◌≡◌, ip_bytes, not_dash}
use Rattle.rpki_prefix.proofs.Common.{none_around, IsNumberText-decimal, IsNumberText-one, Answers-from_found, Around}
use Rattle.rpki_prefix.proofs.Common.{HasNo, dash, HasMaxLen, HasMaxLenError, HasMaxLenTextFault, IsMaxLenOf}
use Rattle.rpki_prefix.proofs.Common.{IsMaxLenText, IsMaxLenTextOf, MaxLenValue, ReadsMaxLen, max_text, IsPrefixText}
use Rattle.rpki_prefix.proofs.Common.{prefix_text, FamilyPrefix, IsFamilyPrefix, ParsePrefixError}
use Rattle.std.proofs.lemmas.Fmt.{decimal_is_IsNumeral}
use Rattle.std.proofs.lemmas.Grind.{common_steps}
use Rattle.std.proofs.lemmas.Str.Parse.{digit_at}
use Rattle.rpki_addr.specs.PrintedAddress.{ip_text}
use Rattle.rpki_prefix.specs.declared.error.MaxLenError.{MaxLenError}
use Rattle.rpki_prefix.specs.declared.error.ParseMaxLenPrefixError.{ParseMaxLenPrefixError}
use Rattle.rpki_prefix.specs.declared.error.ParseMaxLenPrefixError.TheVariants.{InvalidPrefix, InvalidMaxLenFormat}
use Rattle.rpki_prefix.specs.declared.error.ParseMaxLenPrefixError.TheVariants.{InvalidMaxLenValue}
use Rattle.rpki_addr.proofs.WidthLemmas.{width_small}
use Rattle.rpki_prefix.proofs.PrefixTextLemmas.{both_around, number_apart, same_number_fault, IsPrefixText-one}
use Rattle.rpki_prefix.proofs.PrefixTextLemmas.{IsPrefixText-no_fault, HasPrefixTextFault-one, IsPrefixText-prefix_text}

-- a text has one prefix and one maximum length round its first dash: what holds of some holds of others
both_carry : (text : List ℕ) (P : FamilyPrefix → ℕ → Type 0) (p q : FamilyPrefix) (m n : ℕ) → HasMaxLen text p m
    → HasMaxLen text q n → P p m → P q n
both_carry text P p q m n h k is = both_around h k (λ l r x y.
    subst (λ o. P o n) (IsPrefixText-one l p q x.prefix_text y.prefix_text)
    (subst (P p) (IsNumberText-one (2 ^ 8 - 1) r m n x.max_len_text y.max_len_text) is))

-- a text writes one prefix and maximum length
value_one : (text : List ℕ) (p q : FamilyPrefix) (m n : Option ℕ) → IsMaxLenTextOf text p m → IsMaxLenTextOf text q n
    → (p ≡ q) × (m ≡ n)
value_one text p q None None h k = (IsPrefixText-one text p q h.1 k.1, refl)
value_one text p q None (Some n) h k = absurd (none_around dash text _ h.0 k.0)
value_one text p q (Some m) None h k = absurd (none_around dash text _ k.0 h.0)
value_one text p q (Some m) (Some n) h k =
    both_carry text (λ r l. (p ≡ r) × (Some m ≡ Some l)) p q m n h.0 k.0 (refl, refl)

-- a prefix before the dash has no fault there
no_fault_before : (text : List ℕ) (f : ParsePrefixError) (Q : List ℕ → List ℕ → Type 0)
    → HasMaxLenTextFault text (InvalidPrefix f) → Around dash text Q
    → ((l r : List ℕ) → Q l r → (p : FamilyPrefix) × IsPrefixText l p) → ⊥
no_fault_before text f Q (inl h) k has = none_around dash text _ h.0 k
no_fault_before text f Q (inr h) k has =
    both_around h k (λ l r bad x. let (p, is) = has l r x in IsPrefixText-no_fault l p f is bad)

-- what stands behind the dash is a number or isn't
number_and_fault : (text : List ℕ) (p : FamilyPrefix) (n : ℕ) (f : _) → HasMaxLen text p n
    → HasMaxLenTextFault text (InvalidMaxLenFormat f) → ⊥
number_and_fault text p n f h k = both_around h k (λ l r x (q, is, fault). number_apart r n f x.max_len_text fault)

-- a maximum length of a prefix has no error, and any other has one
max_apart : (p : FamilyPrefix) (n : ℕ) (f : MaxLenError) → IsMaxLenOf p (Some n) → HasMaxLenError p (Some n) f → ⊥
max_apart p n f h above = grind (arith)

max_error_one : (p : FamilyPrefix) (n : ℕ) (f g : MaxLenError) → HasMaxLenError p (Some n) f
    → HasMaxLenError p (Some n) g → f ≡ g
max_error_one p n f g h k = grind (arith)

-- a text that writes a prefix and a maximum length has no fault
apart_of : (text : List ℕ) (p : FamilyPrefix) (m : Option ℕ) (e : ParseMaxLenPrefixError) → IsMaxLenTextOf text p m
    → HasMaxLenTextFault text e → ⊥
apart_of text p None (InvalidPrefix f) h (inl k) = IsPrefixText-no_fault text p f h.1 k.1
apart_of text p None (InvalidPrefix f) h (inr k) = none_around dash text _ h.0 k
apart_of text p None (InvalidMaxLenFormat f) h k = none_around dash text _ h.0 k
apart_of text p None (InvalidMaxLenValue f) h (q, n, both, _) = none_around dash text _ h.0 both
apart_of text p (Some m) (InvalidPrefix f) h k = no_fault_before text f _ k h.0 (λ l r x. (p, x.prefix_text))
apart_of text p (Some m) (InvalidMaxLenFormat f) h k = number_and_fault text p m f h.0 k
apart_of text p (Some m) (InvalidMaxLenValue f) h (q, n, both, fault) =
    max_apart p m f h.1 (both_carry text (λ r k. HasMaxLenError r (Some k) f) q p n m both h.0 fault)

-- a text has one fault
fault_one : (text : List ℕ) (d e : ParseMaxLenPrefixError) → HasMaxLenTextFault text d → HasMaxLenTextFault text e
    → d ≡ e
fault_one text (InvalidPrefix f) (InvalidPrefix g) (inl h) (inl k) =
    ap InvalidPrefix (HasPrefixTextFault-one text f g h.1 k.1)
fault_one text (InvalidPrefix f) (InvalidPrefix g) (inl h) (inr k) = absurd (none_around dash text _ h.0 k)
fault_one text (InvalidPrefix f) (InvalidPrefix g) (inr h) (inl k) = absurd (none_around dash text _ k.0 h)
fault_one text (InvalidPrefix f) (InvalidPrefix g) (inr h) (inr k) =
    both_around h k (λ l r x y. ap InvalidPrefix (HasPrefixTextFault-one l f g x y))
fault_one text (InvalidPrefix f) (InvalidMaxLenFormat g) h k =
    absurd (no_fault_before text f _ h k (λ l r (p, is, _). (p, is)))
fault_one text (InvalidPrefix f) (InvalidMaxLenValue g) h (p, n, both, _) =
    absurd (no_fault_before text f _ h both (λ l r x. (p, x.prefix_text)))
fault_one text (InvalidMaxLenFormat f) (InvalidPrefix g) h k =
    absurd (no_fault_before text g _ k h (λ l r (p, is, _). (p, is)))
fault_one text (InvalidMaxLenFormat f) (InvalidMaxLenFormat g) h k =
    both_around h k (λ l r (_, _, fault) (_, _, other). ap InvalidMaxLenFormat (same_number_fault r f g fault other))
fault_one text (InvalidMaxLenFormat f) (InvalidMaxLenValue g) h (p, n, both, _) =
    absurd (number_and_fault text p n f both h)
fault_one text (InvalidMaxLenValue f) (InvalidPrefix g) (p, n, both, _) k =
    absurd (no_fault_before text g _ k both (λ l r x. (p, x.prefix_text)))
fault_one text (InvalidMaxLenValue f) (InvalidMaxLenFormat g) (p, n, both, _) k =
    absurd (number_and_fault text p n g both k)
fault_one text (InvalidMaxLenValue f) (InvalidMaxLenValue g) (p, m, both, fault) (q, n, others, other) =
    let same = both_carry text (λ r k. HasMaxLenError r (Some k) f) p q m n both others fault in
    ap InvalidMaxLenValue (max_error_one q n f g same other)

-- a printed prefix has no dash
prefix_no_dash : (p : FamilyPrefix) → IsFamilyPrefix p → HasNo dash (prefix_text p)
prefix_no_dash p h k l =
    let numeral = decimal_is_IsNumeral p.len (omega (arith, h.short, width_small p.addr)) in
    let digit = digit_at (decimal p.len) (k - length (ip_text p.addr) - 1) numeral.0.1 in
    grind (arith, common_steps, digit, not_dash, ip_bytes p.addr k 0)

-- what is printed of a value writes it
written : (p : FamilyPrefix) (m : Option ℕ) → IsFamilyPrefix p → IsMaxLenOf p m
    → IsMaxLenTextOf (prefix_text p ++ max_text m) p m
written p None h within = rw (append-nil (prefix_text p)) (prefix_no_dash p h, IsPrefixText-prefix_text p h)
written p (Some n) h within =
    let few = width_small p.addr in
    let max = IsNumberText-decimal (2 ^ 8 - 1) n (omega (arith, within.1, few)) (omega (arith, within.1, few)) in (
      record {
        left = prefix_text p;
        right = decimal n;
        cut = record { split = refl; first = prefix_no_dash p h };
        holds = record { prefix_text = IsPrefixText-prefix_text p h; max_len_text = max };
      },
      within,
    )

-- what is found is the answer, and what is printed is read back
pub reads_max_len : (text : List ℕ) (r : Result MaxLenValue ParseMaxLenPrefixError)
    → MatchResult r (IsMaxLenText text) (HasMaxLenTextFault text) → ReadsMaxLen text r
reads_max_len text r found =
    let one : (x y : MaxLenValue) → IsMaxLenText text x → IsMaxLenText text y → x ≡ y = λ x y h k.
    (let same = value_one text x.prefix y.prefix x.max_len y.max_len h k in
    λ i. record { prefix = same.0 i; max_len = same.1 i }) in
    let exact = Answers-from_found r found one (λ x e. apart_of text x.prefix x.max_len e) (fault_one text) in
    record { exact = exact; reads_back = λ m h is. exact.each_value m (rw is (written m.prefix m.max_len h.0 h.1)) }
