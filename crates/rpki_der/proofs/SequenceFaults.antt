-- Which faults readings name: those of their layer and of the layers below it, whose numbers are no greater. So a fault
-- of a layer is named exactly where that layer finds it.
use Rattle.rpki_der.proofs.Common.{Bool, Err, List, Ok, Result, [], arith, cond, length, subst, suc, true, zero, ℕ, ◌<◌}
use Rattle.rpki_der.proofs.Common.{◌↔◌, ◌∷◌, ◌≡◌, ◌≢◌, ◌≤◌, eqb-true, ne_eqb, Tlv, bits, each_from, ended, length_at}
use Rattle.rpki_der.proofs.Common.{long_length_at, nothing, refined, tagged_at, unsigned, value_at, ◌>>=◌, DerError}
use Rattle.rpki_der.proofs.Common.{u32_at, BeginsWithTwo, BeginsWithValue, by_tag, enclosed_at, only, pair_in}
use Rattle.rpki_der.proofs.Common.{values_from, values_of, Reading, eq-eqb}
use Rattle.std.specs.Prelude.{◌⊎◌}
use Rattle.std.proofs.lemmas.List.{length-drop}
use Rattle.rpki_der.specs.Faults.{fault_number}

-- ---- how far the faults of an answer go

-- a fault has at most this number
abbrev pub NamesTo : {X : Type 0} → ℕ → Result X DerError → Type 0
NamesTo n (Ok x) = Unit {0}
NamesTo n (Err e) = fault_number e ≤ n

-- so none of a greater number is named
pub not_named : {X : Type 0} (n : ℕ) (r : Result X DerError) (e : DerError) → NamesTo n r → n < fault_number e
    → r ≡ Err e → ⊥
not_named n r e names above is = let few : fault_number e ≤ n = subst (NamesTo n) is names in omega (arith, few, above)

-- and a greater bound is one too
pub names_more : {X : Type 0} (m n : ℕ) (r : Result X DerError) → m ≤ n → NamesTo m r → NamesTo n r
names_more m n r more names = grind arith

pub bind_names : {A B : Type 0} (n : ℕ) (r : Result A DerError) (f : A → Result B DerError) → NamesTo n r
    → ((x : A) → NamesTo n (f x)) → NamesTo n (r >>= f)
bind_names n r f first more = grind (arith, more)

pub cond_names : {A : Type 0} (n : ℕ) (b : Bool) (p q : Result A DerError) → NamesTo n p → NamesTo n q
    → NamesTo n (cond b p q)
cond_names n b p q first second = grind arith

pub refined_names : {X Y : Type 0} (n : ℕ) (reading : Reading X) (check : X → Result Y DerError)
    → ((bytes : List ℕ) → NamesTo n (reading bytes)) → ((x : X) → NamesTo n (check x)) → (bytes : List ℕ)
    → NamesTo n (refined reading check bytes)
unfolding refined
refined_names n reading check first second bytes = search (bind_names, first, second)

-- ---- values and contents

pub value_names : (bytes : List ℕ) → NamesTo 3 (value_at bytes)
unfolding value_at length_at long_length_at
value_names bytes = grind (arith, bind_names, cond_names)

pub tagged_names : (tag : ℕ) (bytes : List ℕ) → NamesTo 3 (tagged_at tag bytes)
unfolding tagged_at
tagged_names tag bytes = search (arith, cond_names, bind_names, value_names)

-- a header's faults, where more can follow
pub header_names : (n tag : ℕ) → 3 ≤ n → (bytes : List ℕ) → NamesTo n (tagged_at tag bytes)
header_names n tag more bytes = names_more 3 n (tagged_at tag bytes) more (tagged_names tag bytes)

-- behind a value fewer octets are left
pub tagged_shorter : (tag : ℕ) (bytes : List ℕ) (value : List ℕ × List ℕ) → tagged_at tag bytes ≡ Ok value
    → length value.1 < length bytes
unfolding tagged_at value_at length_at long_length_at
tagged_shorter tag bytes value is = grind (arith, length-drop)

-- also behind one whose content was looked at
pub looked_shorter : {X : Type 0} (tag : ℕ) (check : List ℕ → Result X DerError) (bytes : List ℕ) (x : X × List ℕ)
    → refined (tagged_at tag) check bytes ≡ Ok x → length x.1 < length bytes
unfolding refined
looked_shorter tag check bytes x is = grind (arith, tagged_shorter)

pub unsigned_names : (content : List ℕ) → NamesTo 4 (unsigned content)
unfolding unsigned
unsigned_names content = search (arith, cond_names)

pub number_names : (bytes : List ℕ) → NamesTo 4 (u32_at bytes)
number_names = refined_names 4 (tagged_at 2) unsigned (header_names 4 2 (omega arith)) unsigned_names

pub bits_names : (content : List ℕ) → NamesTo 5 (bits content)
unfolding bits
bits_names content = grind arith

pub nothing_names : (content : List ℕ) → NamesTo 6 (nothing content)
unfolding nothing
nothing_names content = grind (arith)

pub ended_names : (bytes : List ℕ) → NamesTo 7 (ended bytes)
ended_names bytes = search (arith, cond_names)

-- ---- readings from readings

pub by_tag_names : {X : Type 0} (n tag : ℕ) (one two : List ℕ → Result X DerError) → 3 ≤ n
    → ((content : List ℕ) → NamesTo n (one content)) → ((content : List ℕ) → NamesTo n (two content)) → (v : Tlv)
    → NamesTo n (by_tag tag one two v)
unfolding by_tag
by_tag_names n tag one two above first second v = search (arith, cond_names, first, second)

pub pair_names : {X Y : Type 0} (n : ℕ) (reading : Reading X) (check : X → X → Result Y DerError) → 7 ≤ n
    → ((bytes : List ℕ) → NamesTo n (reading bytes)) → ((first second : X) → NamesTo n (check first second))
    → (content : List ℕ) → NamesTo n (pair_in reading check content)
unfolding pair_in
pair_names n reading check above reads checks content =
    search (arith, bind_names, names_more, ended_names, reads, checks)

pub enclosed_names : {X : Type 0} (n tag : ℕ) (reading : Reading X) → 7 ≤ n
    → ((bytes : List ℕ) → NamesTo n (reading bytes)) → (bytes : List ℕ) → NamesTo n (enclosed_at tag reading bytes)
unfolding refined only
enclosed_names n tag reading above names bytes =
    search (arith, header_names, bind_names, names_more, ended_names, names)

pub each_names : {S X : Type 0} (n : ℕ) (next : S → X → S) (reading : S → Reading X) → 1 ≤ n
    → ((state : S) (bytes : List ℕ) → NamesTo n (reading state bytes)) → (steps : ℕ) (state : S) (bytes : List ℕ)
    → NamesTo n (each_from next steps reading state bytes)
unfolding each_from
each_names n next reading above reads steps state [] = tt
each_names n next reading above reads zero state (b ∷ bytes) = above
each_names n next reading above reads (suc steps) state (b ∷ bytes) =
    search (bind_names, reads, each_names n next reading above reads steps)

pub values_names : {X : Type 0} (n : ℕ) (reading : Reading X) → 1 ≤ n → ((bytes : List ℕ) → NamesTo n (reading bytes))
    → (content : List ℕ) → NamesTo n (values_of reading content)
unfolding values_from
values_names n reading above reads content = search (each_names)

-- ---- where a fault is met

-- the step before didn't name it, so this one does
pub bind_fails : {A B : Type 0} (r : Result A DerError) (f : A → Result B DerError) (e : DerError) → (r ≡ Err e → ⊥)
    → (r >>= f) ≡ Err e → (x : A) × (r ≡ Ok x) × (f x ≡ Err e)
bind_fails r f e never is = grind (arith, never)

-- a fault of two steps is that of the one or of the other
pub bind_err : {A B : Type 0} (r : Result A DerError) (f : A → Result B DerError) (e : DerError) → (r >>= f) ≡ Err e
    → (r ≡ Err e) ⊎ ((x : A) × (r ≡ Ok x) × (f x ≡ Err e))
bind_err r f e is = grind arith

-- the steps behind can't name it, so this one does
pub first_fails : {A B : Type 0} (r : Result A DerError) (f : A → Result B DerError) (e : DerError)
    → ((x : A) → f x ≡ Err e → ⊥) → (r >>= f) ≡ Err e → r ≡ Err e
first_fails r f e never is = grind (arith, never)

-- a test that names it
pub cond_fails : {A : Type 0} (b : Bool) (x : A) (d e : DerError) (r : Result A DerError) → r ≡ Ok x
    → cond b (Err d) r ≡ Err e → b ≡ true
cond_fails b x d e r ok is = grind arith

-- the fault of what is named otherwise
pub mapped_fails : {A B : Type 0} (r : Result A DerError) (f : A → B) (e : DerError)
    → ((r >>= λ x. Ok (f x)) ≡ Err e) ↔ (r ≡ Err e)
mapped_fails r f e = grind arith

-- the end of a content isn't looked at before what is found in it
ended_fails : {A : Type 0} (y : A) (bytes : List ℕ) (e : DerError) → 7 < fault_number e
    → (ended bytes >>= λ end. Ok y) ≡ Err e → ⊥
ended_fails y bytes e above = not_named 7 (ended bytes >>= λ end. Ok y) e (search (bind_names, ended_names)) above

-- two values
pub pair_fails : {X Y : Type 0} (reading : Reading X) (check : X → X → Result Y DerError) (C : X → X → Type 0)
    (e : DerError) → 7 < fault_number e → ((bytes : List ℕ) → reading bytes ≡ Err e → ⊥)
    → ((first second : X) → (check first second ≡ Err e) ↔ C first second) → (content : List ℕ)
    → (pair_in reading check content ≡ Err e) ↔ BeginsWithTwo reading C content
unfolding pair_in
pair_fails reading check C e above never same content = (
  (λ is.
      let (a, read, more) = bind_fails (reading content) _ e (never content) is in
      let (b, also, fails) = bind_fails (reading a.1) _ e (never a.1) more in
      (a, b, read, also, grind (arith, same a.0 b.0, first_fails, ended_fails))),
  λ (first, second, one, two, c). grind (arith, same first.0 second.0),
)

-- a content of a tag
pub tagged_fails : {X : Type 0} (tag : ℕ) (check : List ℕ → Result X DerError) (P : List ℕ → Type 0) (e : DerError)
    → 3 < fault_number e → ((content : List ℕ) → (check content ≡ Err e) ↔ P content) → (bytes : List ℕ)
    → (refined (tagged_at tag) check bytes ≡ Err e) ↔ BeginsWithValue tag P bytes
unfolding refined
tagged_fails tag check P e above same bytes = grind (arith, bind_fails, mapped_fails, not_named, tagged_names, same)

-- a value that encloses one
pub enclosed_fails : {X : Type 0} (tag : ℕ) (reading : Reading X) (P : List ℕ → Type 0) (e : DerError)
    → 7 < fault_number e → ((content : List ℕ) → (reading content ≡ Err e) ↔ P content) → (bytes : List ℕ)
    → (enclosed_at tag reading bytes ≡ Err e) ↔ BeginsWithValue tag P bytes
unfolding only
enclosed_fails tag reading P e above same =
    tagged_fails tag _ P e (omega arith) (λ content. grind (arith, ended_fails, first_fails, same content))

-- a value of two tags, where the fault isn't one of the other tag's content
by_tag_fails : {X : Type 0} (tag : ℕ) (one two : List ℕ → Result X DerError) (e : DerError) (v : Tlv) → tag ≢ 48
    → 3 < fault_number e → ((content : List ℕ) → one content ≡ Err e → ⊥)
    → (by_tag tag one two v ≡ Err e) ↔ ((v.tag ≡ 48) × (two v.content ≡ Err e))
unfolding by_tag
by_tag_fails tag one two e v apart above never = grind (arith, never, eq-eqb, eqb-true, ne_eqb)

-- so it is one of a SEQUENCE
pub sequence_fails : {X : Type 0} (tag : ℕ) (one two : List ℕ → Result X DerError) (P : List ℕ → Type 0) (e : DerError)
    → tag ≢ 48 → 3 < fault_number e → ((content : List ℕ) → one content ≡ Err e → ⊥)
    → ((content : List ℕ) → (two content ≡ Err e) ↔ P content) → (bytes : List ℕ)
    → (refined value_at (by_tag tag one two) bytes ≡ Err e) ↔ BeginsWithValue 48 P bytes
unfolding refined tagged_at
sequence_fails tag one two P e apart above never same bytes = (
  (λ is.
      let (v, read, fails) = bind_fails (value_at bytes) _ e (not_named 3 _ e (value_names bytes) above) is in
      let by_tag = (by_tag_fails tag one two e v.0 apart above never).0 ((mapped_fails _ _ e).0 fails) in
      ((v.0.content, v.1), grind (arith, eq-eqb), grind (arith, same v.0.content))),
  λ (content, found, p). grind (arith, eqb-true, eq-eqb, same content.0, by_tag_fails tag one two e),
)

-- ---- values one after another

-- none are there exactly where the content is empty
pub no_values : {X : Type 0} (reading : Reading X) (content : List ℕ)
    → (values_of reading content ≡ Ok []) ↔ (content ≡ [])
unfolding values_from each_from
no_values reading content = grind (arith)

-- ---- the same of what is found

pub begins_value : (tag : ℕ) (P Q : List ℕ → Type 0) → ((content : List ℕ) → P content → Q content) → (bytes : List ℕ)
    → BeginsWithValue tag P bytes → BeginsWithValue tag Q bytes
begins_value tag P Q says bytes (v, found, p) = (v, found, says v.0 p)

-- ---- what values and BIT STRINGs name

pub ruleset value_faults = (bind_fails, bits_names, first_fails, not_named, number_names, tagged_names, value_names)
