-- Members of an object, and items, one after another. An item writes one VRP, or has one fault, and items have one list
-- of entries, or one fault.
use Rattle.roa_vrps.proofs.Common.{AreItems, AreRead, AreWrong, Bool, Entry, FileFault, Found, HasItemFault}
use Rattle.roa_vrps.proofs.Common.{HasMemberFault, HasText, HasTexts, HaveFault, HaveWrongItem, IsFoundIn, IsItem}
use Rattle.roa_vrps.proofs.Common.{Item, Json, List, MaxLenValue, MemberFault, Missing, VrpFault, ap}
use Rattle.roa_vrps.proofs.Common.{append-nil, arith, bytes_eq, false, get_or, if◌then◌else◌, item_entry, length}
use Rattle.roa_vrps.proofs.Common.{length-append, length-map, map-append, members_view, not, refl, take, take_more}
use Rattle.roa_vrps.proofs.Common.{true, value_view, values_in, vrp_of, ℕ, [], ◌++◌, ◌+◌, ◌<◌, ◌∷◌, ◌≡◌}
use Rattle.json.specs.declared.value.Value.{Value}
use Rattle.roa_vrps.specs.declared.fault.ItemFault.{ItemFault}
use Rattle.roa_vrps.specs.declared.fault.ItemFault.TheVariants.{Member as OfMember, Vrp}
use Rattle.roa_vrps.specs.declared.member.Member.{Member}
use Rattle.roa_vrps.specs.declared.member.Member.TheVariants.{Asn, MaxLength, Prefix}
use Rattle.std.specs.Borrow.{Bor}
use Rattle.roa_vrps.proofs.Outcomes.{IsExact, exact_fault, exact_map, exact_none, exact_with}
use Rattle.roa_vrps.proofs.RowLemmas.{fields_apart, have_one, vrp_one}

-- what a member's value adds to those before it
abbrev pub if_named : List ℕ → List ℕ → Json → List Json
if_named name key value = if bytes_eq key name then value ∷ [] else []

pub values_push : {A : Type 0} → (name : List ℕ) (ms : List (Bor (List ℕ) × Value A)) (m : Bor (List ℕ) × Value A)
    → values_in name (members_view (ms ++ m ∷ []))
    ≡ values_in name (members_view ms) ++ if_named name m.0.now (value_view m.1)
values_push name [] m = refl
values_push name (n ∷ ms) m = grind (arith, values_push name ms m)

-- values are one of a kind, or wrong in one way
pub wrong_apart : (IsKind : Json → Type 0) (values : List Json) (value : Json) (fault : MemberFault)
    → values ≡ value ∷ [] → IsKind value → AreWrong IsKind values fault → ⊥
wrong_apart IsKind values value fault one kind none = grind (arith)

pub wrong_one : (IsKind : Json → Type 0) (values : List Json) (d e : MemberFault) → AreWrong IsKind values d
    → AreWrong IsKind values e → d ≡ e
wrong_one IsKind values d e h k = grind (arith)

module _ (part : Member) (item : Json) where
  pub text_one : (a b : List ℕ) → HasText part item a → HasText part item b → a ≡ b
  text_one a b h k = grind (arith)

  pub text_apart : (a : List ℕ) (fault : MemberFault) → HasText part item a → HasMemberFault part item fault → ⊥
  text_apart a fault h wrong = grind (arith)

  pub member_fault_one : (d e : MemberFault) → HasMemberFault part item d → HasMemberFault part item e → d ≡ e
  member_fault_one d e h k = grind (arith)

-- with one value more it stays wrong, unless none was there
pub more_wrong : (values : List Json) (value : Json) (fault : MemberFault) → AreWrong (λ value. Unit {0}) values fault
    → (fault ≡ Missing → ⊥) → AreWrong (λ value. Unit {0}) (values ++ value ∷ []) fault
more_wrong values value fault h some = grind (arith, length-append)

pub two_values : (values : List Json) (first value : Json) → values ≡ first ∷ [] → 1 < length (values ++ value ∷ [])
two_values values first value one = grind (arith)

-- the next member of an object
module _ {A : Type 0} (name : List ℕ) (all : List (Bor (List ℕ) × Value A)) (i : ℕ) (m : Bor (List ℕ) × Value A)
    (less : i < length all) (is : m ≡ get_or all i m) where
  -- of another name, and of this one
  pub other_named : true ≡ not (bytes_eq m.0.now name)
      → values_in name (members_view (take (i + 1) all)) ≡ values_in name (members_view (take i all))
  other_named other =
      rw (take_more all i m less, ← is, values_push name (take i all) m) (grind (arith, append-nil))

  pub one_named : false ≡ not (bytes_eq m.0.now name)
      → values_in name (members_view (take (i + 1) all))
      ≡ values_in name (members_view (take i all)) ++ value_view m.1 ∷ []
  one_named same =
      rw (take_more all i m less, ← is, values_push name (take i all) m) (grind (arith))

module _ (value : Json) where
  pub texts_fail : (a p m : List ℕ) (f : VrpFault) → HasText Asn value a → HasText Prefix value p
      → HasText MaxLength value m → HaveFault a p m f → HasItemFault value (Vrp f)
  texts_fail a p m f h i j wrong = (a, p, m, record { asn = h; prefix = i; max_length = j }, wrong)

  -- the same texts
  same_texts : (a b p q m n : List ℕ) → HasTexts value a p m → HasTexts value b q n → (a ≡ b) × (p ≡ q) × (m ≡ n)
  same_texts a b p q m n h k = grind (arith, text_one)

  item_one : (x y : MaxLenValue × ℕ) → IsItem value x → IsItem value y → x ≡ y
  item_one x y h k =
      let same = same_texts h.0 k.0 h.1 k.1 h.2 k.2 h.3 k.3 in
      vrp_one k.0 k.1 k.2 x y (rw (same.0, same.1, same.2) at h.4) k.4

  item_apart : (x : MaxLenValue × ℕ) (f : ItemFault) → IsItem value x → HasItemFault value f → ⊥
  item_apart x (Vrp f) h wrong =
      let same = same_texts h.0 wrong.0 h.1 wrong.1 h.2 wrong.2 h.3 wrong.3 in
      fields_apart wrong.0 wrong.1 wrong.2 x.0 x.1 f (rw (same.0, same.1, same.2) at h.4) wrong.4
  item_apart x (OfMember part f) h wrong = grind (arith, text_apart)

  item_fault_one : (d e : ItemFault) → HasItemFault value d → HasItemFault value e → d ≡ e
  item_fault_one d e h k = grind (arith, have_one, member_fault_one, same_texts, text_apart)

  item_exact : IsExact (IsItem value) (HasItemFault value)
  item_exact = record { one = item_one; apart = item_apart; fault_one = item_fault_one }

-- ---- items

items_push : (place : ℕ) (values : List Json) (entries : List Entry) (value : Json) (vrp : MaxLenValue × ℕ)
    → AreItems place values entries → IsItem value vrp
    → AreItems place (values ++ value ∷ []) (entries ++ item_entry vrp (place + length entries) value ∷ [])
items_push place [] entries value vrp none is = grind (arith)
items_push place (v ∷ values) entries value vrp (w, iw, (more, rest, same)) is =
    let later = items_push (place + 1) values more value vrp rest is in grind (arith, iw, same, later)

wrong_push : (place : ℕ) (values : List Json) (entries : List Entry) (value : Json) (wrong : ItemFault)
    → AreItems place values entries → HasItemFault value wrong
    → HaveWrongItem place (values ++ value ∷ []) (Item (place + length entries) wrong)
wrong_push place [] entries value wrong none has = grind (arith)
wrong_push place (v ∷ values) entries value wrong (w, iw, (more, rest, same)) has =
    let later = wrong_push (place + 1) values more value wrong rest has in grind (arith, iw, same, later)

-- what follows a wrong item changes no fault
pub wrong_keep : (place : ℕ) (values : List Json) (value : Json) (fault : FileFault) → HaveWrongItem place values fault
    → HaveWrongItem place (values ++ value ∷ []) fault
wrong_keep place [] value fault wrong = absurd wrong
wrong_keep place (v ∷ values) value fault wrong = grind (arith, wrong_keep (place + 1) values)

module _ {A : Type 0} (asked : Bool) (before : List Json) (value : Json) (next found : Found A)
    (had : IsFoundIn asked (AreItems 1 before) found) (read : ℕ) (read_is : read ≡ length found.vrps.items) where
  next_place : read + 1 ≡ 1 + length had.entries
  next_place = omega (arith, ap length had.vrps_are, length-map had.entries vrp_of, read_is)

  -- one VRP more
  pub item_added : (vrp : MaxLenValue × ℕ) → IsItem value vrp → next.vrps.items ≡ found.vrps.items ++ vrp ∷ []
      → AreRead asked (had.entries ++ item_entry vrp (read + 1) value ∷ []) next.expiries
      → IsFoundIn asked (AreItems 1 (before ++ value ∷ [])) next
  item_added vrp is pushed expiries = record {
    entries = had.entries ++ item_entry vrp (read + 1) value ∷ [];
    entries_are = rw next_place (items_push 1 before had.entries value vrp had.entries_are is);
    vrps_are = rw (pushed, had.vrps_are, map-append) refl;
    read = expiries;
  }

  -- the item is the first one with a fault
  pub item_refused : (wrong : ItemFault) → HasItemFault value wrong
      → HaveWrongItem 1 (before ++ value ∷ []) (Item (read + 1) wrong)
  item_refused wrong has = rw next_place (wrong_push 1 before had.entries value wrong had.entries_are has)

pub items_exact : (place : ℕ) (values : List Json) → IsExact (AreItems place values) (HaveWrongItem place values)
items_exact place [] = exact_none
items_exact place (value ∷ values) =
    let later =
    λ (vrp : MaxLenValue × ℕ). exact_map (λ more. item_entry vrp place value ∷ more) (items_exact (place + 1) values) in
    let all = exact_with (exact_fault (Item place) (item_exact value)) later in all
