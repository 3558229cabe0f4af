-- Entries one after another; an entry has one expiry, or one fault, and so have entries.
use Rattle.roa_vrps.proofs.Common.{AreExpiries, Entry, ExpiryFault, HasEntryFault, HasExpiresFault}
use Rattle.roa_vrps.proofs.Common.{HasExpiry, HasLineExpiryFault, HaveWrongExpiry, IsItemExpiry, IsLineExpiry}
use Rattle.roa_vrps.proofs.Common.{IsNumberText-one, IsNumeral, IsTimeText, Json, List, MaxLenValue, Option, Some}
use Rattle.roa_vrps.proofs.Common.{arith, digits_value, field, inl, item_entry, length, line_entry, refl}
use Rattle.roa_vrps.proofs.Common.{sym, vrps_of, without_leading_plus, ℕ, [], ◌++◌, ◌-◌, ◌<◌, ◌^◌, ◌∷◌}
use Rattle.roa_vrps.proofs.Common.{◌≡◌, ◌≢◌}
use Rattle.roa_vrps.specs.declared.fault.ExpiresFault.{ExpiresFault}
use Rattle.rpki_text.proofs.NumberLemmas.{number_answers}
use Rattle.roa_vrps.proofs.MemberLemmas.{wrong_apart, wrong_one}
use Rattle.roa_vrps.proofs.Outcomes.{IsExact, exact_map, exact_none, exact_with}

abbrev pub Vrps : Type 0
Vrps = List (MaxLenValue × ℕ)

abbrev pub Dates : Type 0
Dates = List (Option ℕ)

-- entries without VRPs are none
pub vrps_none : (entries : List Entry) → [] ≡ vrps_of entries → entries ≡ []
vrps_none [] none = refl
vrps_none (entry ∷ entries) none = cc none

-- ---- an entry more

pub expiries_push : (entries : List Entry) (last : Entry) (xs : Dates) (x : Option ℕ) → AreExpiries entries xs
    → HasExpiry last x → AreExpiries (entries ++ last ∷ []) (xs ++ x ∷ [])
expiries_push [] last xs x none is = (x, is, ([], refl, rw none refl))
expiries_push (e ∷ entries) last xs x (y, iz, (more, rest, same)) is =
    (y, iz, (more ++ x ∷ [], expiries_push entries last more x rest is, rw same refl))

pub wrong_push : (entries : List Entry) (last : Entry) (xs : Dates) (f : ExpiryFault) → AreExpiries entries xs
    → HasEntryFault last f → HaveWrongExpiry (entries ++ last ∷ []) f
wrong_push [] last xs f none wrong = inl wrong
wrong_push (e ∷ entries) last xs f h wrong = grind (arith, wrong_push entries last)

pub wrong_keep : (entries : List Entry) (last : Entry) (f : ExpiryFault) → HaveWrongExpiry entries f
    → HaveWrongExpiry (entries ++ last ∷ []) f
wrong_keep [] last f wrong = absurd wrong
wrong_keep (e ∷ entries) last f wrong = grind (arith, wrong_keep entries last)

-- the field of a line is neither empty nor a time
pub line_fault : (column : Option ℕ) (n : ℕ) (line text part : List ℕ) → column ≡ Some n → text ≡ line
    → part ≡ field n text → part ≢ [] → ((time : ℕ) → ¬ IsTimeText part time) → HasLineExpiryFault column line
line_fault column n line text part is same at some none = grind (arith)

-- ---- one expiry, or one fault

-- a text is at most one time
time_one : (text : List ℕ) (a b : ℕ) → IsTimeText text a → IsTimeText text b → a ≡ b
time_one text a b h k = IsNumberText-one (2 ^ 64 - 1) text a b h k

-- the text of a time is not empty
time_some : (text : List ℕ) (a : ℕ) → IsTimeText text a → text ≢ []
time_some text a h empty = grind (arith, number_answers)

line_one : (column : Option ℕ) (line : List ℕ) (a b : Option ℕ) → IsLineExpiry column line a
    → IsLineExpiry column line b → a ≡ b
line_one column line a b h k = grind (arith, time_one, time_some)

line_apart : (column : Option ℕ) (line : List ℕ) (a : Option ℕ) → IsLineExpiry column line a
    → HasLineExpiryFault column line → ⊥
line_apart column line a h wrong = grind (arith)

item_one : (value : Json) (a b : Option ℕ) → IsItemExpiry value a → IsItemExpiry value b → a ≡ b
item_one value a b h k = grind (arith, time_one)

item_apart : (value : Json) (a : Option ℕ) (f : ExpiresFault) → IsItemExpiry value a → HasExpiresFault value f → ⊥
item_apart value a f h wrong = grind (arith, wrong_apart)

entry_exact : (entry : Entry) → IsExact (HasExpiry entry) (HasEntryFault entry)
entry_exact (line_entry vrp place column line) = record {
  one = line_one column line;
  apart = λ a f h wrong. line_apart column line a h wrong.0;
  fault_one = λ d f h k. grind (arith);
}
entry_exact (item_entry vrp place value) = record {
  one = item_one value;
  apart = λ a f h wrong. item_apart value a wrong.0 h wrong.1;
  fault_one = λ d f h k. grind (arith, wrong_apart, wrong_one);
}

pub expiries_exact : (entries : List Entry) → IsExact (AreExpiries entries) (HaveWrongExpiry entries)
expiries_exact [] = exact_none
expiries_exact (entry ∷ entries) =
    let later = λ (expiry : Option ℕ). exact_map (λ more. expiry ∷ more) (expiries_exact entries) in
    let all = exact_with (entry_exact entry) later in all

pub expiries_counted : (entries : List Entry) (a : Dates) → AreExpiries entries a → length a ≡ length entries
expiries_counted [] a h = rw h refl
expiries_counted (e ∷ entries) a h = grind (arith, expiries_counted entries)

-- a numeral of 64 bits, perhaps after a plus
abbrev pub IsNumeral64 : List ℕ → Type 0
IsNumeral64 text =
    IsNumeral 10 (without_leading_plus text) × (digits_value 10 (without_leading_plus text) < 2 ^ 64)

-- such a numeral is a time, and no other text is
pub time_is : (text : List ℕ) (time : ℕ) → IsNumeral64 text × (time ≡ digits_value 10 (without_leading_plus text))
    → IsTimeText text time
time_is text time h = record { digits = h.0.0; value = sym h.1; within = omega (arith, h.0.1, h.1) }

pub no_time : (text : List ℕ) → ¬ IsNumeral64 text → (time : ℕ) → ¬ IsTimeText text time
no_time text other time is = other (is.digits, omega (arith, is.value, is.within))
