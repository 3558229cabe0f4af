-- Lemmas on the values of the member `roas`, on the items of such a value, and on a text of JSON. It is one object or
-- none, and has one list of entries, or one fault.
use Rattle.roa_vrps.proofs.Common.{AreJsonEntries, AreNoArray, Bool, Err, FileFault, Found, HasJsonFault, HaveRoasFault}
use Rattle.roa_vrps.proofs.Common.{HaveWrongItem, IfOk, IsFoundIn, IsJsonObject, IsNoObject, IsOneArray}
use Rattle.roa_vrps.proofs.Common.{IsRoasResult, IsTrue, IsUtf8, Items, Json, Kind, List, MemberFault, Members, Missing}
use Rattle.roa_vrps.proofs.Common.{None, Ok, Parse, Repeated, Result, Roas, Some, Token, ap, append-nil, append_assoc}
use Rattle.roa_vrps.proofs.Common.{arith, array, bytes_eq, document, false, inl, inr, left, left_none, left_some}
use Rattle.roa_vrps.proofs.Common.{length, length-append, list_of, member, no_members, not, object, parse_map, refl}
use Rattle.roa_vrps.proofs.Common.{roas, sym, true, value-begin_array, value-begin_object, value_is, values_in, ℕ, []}
use Rattle.roa_vrps.proofs.Common.{◌++◌, ◌+◌, ◌-◌, ◌<◌, ◌↔◌, ◌∙◌, ◌∷◌, ◌≡◌, ◌≢◌, ◌≤◌}
use Rattle.json.specs.Lex.{tokens}
use Rattle.roa_vrps.proofs.MemberLemmas.{items_exact, wrong_apart, wrong_one}
use Rattle.roa_vrps.proofs.Outcomes.{IsExact, exact_with, found_as}
use Rattle.json.specs.Json as json

-- items up to the end of their array
abbrev pub items_in : ℕ → Parse Items
items_in depth ts = json.items (json.value depth) (length ts) ts

-- members up to the end of their object
abbrev pub members_in : ℕ → Parse Members
members_in depth ts = json.members (json.value depth) (length ts) ts

-- Parts, items or members, were read from `first` up to `now`, and `values` are the values that they have. All values
-- are these and those of the parts from `now` on, of which there are at most `most`.
pub record AreReadSo {X : Type 0} (parse : ℕ → Parse X) (values_of : X → List Json) (first now : List Token)
    (values : List Json) : Type 0 where
  pub most : ℕ
  pub enough : length now ≤ most
  pub fails : parse most now ≡ None → parse (length first) first ≡ None
  pub reads : (x : X) (rest : List Token) → parse most now ≡ Some (x, rest)
      → (all : X) × (parse (length first) first ≡ Some (all, rest)) × (values_of all ≡ values ++ values_of x)

module _ {X : Type 0} (parse : ℕ → Parse X) (values_of : X → List Json) (first : List Token) where
  pub none_read : AreReadSo parse values_of first first []
  none_read = record {
    most = length first;
    enough = omega arith;
    fails = λ none. none;
    reads = λ x rest is. (x, is, refl);
  }

  module _ (now : List Token) (values : List Json) (had : AreReadSo parse values_of first now values) where
    -- one part more
    pub part_read : (r : List Token) (add : X → X) (own : List Json) → length r < length now
        → parse had.most now ≡ parse_map add (parse (had.most - 1) r)
        → ((x : X) → values_of (add x) ≡ own ++ values_of x)
        → AreReadSo parse values_of first r (values ++ own)
    part_read r add own less more adds = record {
      most = had.most - 1;
      enough = omega (arith, had.enough, less);
      fails = λ none. had.fails (more ∙ ap (parse_map add) none);
      reads = λ x rest is.
          let (all, whole, are) = had.reads (add x) rest (more ∙ ap (parse_map add) is) in
          (all, whole, are ∙ (rw (adds x) (sym (append_assoc values own (values_of x)))));
    }

    -- no part is left
    pub all_read : (x : X) (rest : List Token) → parse had.most now ≡ Some (x, rest) → values_of x ≡ []
        → (all : X) × (parse (length first) first ≡ Some (all, rest)) × (values_of all ≡ values)
    all_read x rest end none =
        let (all, whole, are) = had.reads x rest end in
        (all, whole, are ∙ (rw none (append-nil values)))

module _ {A : Type 0} (asked : Bool) (depth : ℕ) (s r : List Token) (key : List ℕ) (values : List Json)
    (outcome : Result (Found A) FileFault) (reads : IsRoasResult asked values outcome)
    (passed : left (json.value depth s) ≡ Some r) where
  -- the reader skips a member with another name
  pub member_skipped : true ≡ not (bytes_eq key roas) → (j : Json) × (json.value depth s ≡ Some (j, r))
      × IsRoasResult asked (values ++ values_in roas (member key j no_members)) outcome
  member_skipped other = grind (arith, left_some, append-nil)

  -- a second member with the name is a fault
  pub member_duplicate : false ≡ not (bytes_eq key roas) → (IsTrue false ↔ (outcome ≡ Err (Roas Missing)))
      → (j : Json) × (json.value depth s ≡ Some (j, r))
      × IsRoasResult {A = A} asked (values ++ values_in roas (member key j no_members)) (Err (Roas Repeated))
  member_duplicate same some = grind (arith, left_some, length-append)

-- no value was read before the first member with the name
no_member_fault : (place : ℕ) (values : List Json) (wrong : MemberFault) → ¬ HaveWrongItem place values (Roas wrong)
no_member_fault place [] wrong h = absurd h
no_member_fault place (value ∷ values) wrong h = grind (arith, no_member_fault (place + 1) values)

missing_none : (values : List Json) → HaveRoasFault values (Roas Missing) → values ≡ []
missing_none values (inl (wrong, is, same)) = grind (arith)
missing_none values (inr (js, one, wrong)) = absurd (no_member_fault 1 (list_of js) Missing wrong)

pub member_first : {A E : Type 0} (asked : Bool) (depth : ℕ) (s r : List Token) (key : List ℕ) (values : List Json)
    (outcome : Result (Found A) FileFault) (read : Result (Result (Found A) FileFault) E)
    → IsRoasResult asked values outcome → outcome ≡ Err (Roas Missing) → bytes_eq key roas ≡ true
    → IfOk read (λ next. (j : Json) × IsRoasResult asked (j ∷ []) next × (json.value depth s ≡ Some (j, r)))
    → IfOk read (λ next. (j : Json) × (json.value depth s ≡ Some (j, r))
    × IsRoasResult asked (values ++ values_in roas (member key j no_members)) next)
member_first asked depth s r key values outcome (Err e) had missing same is = is
member_first asked depth s r key values outcome (Ok next) had missing same (j, is, found) =
    let none = missing_none values (rw missing at had) in (j, found, rw (none, same) is)

-- ---- a value of the member, by its first token

module _ (depth : ℕ) (some : 0 < depth) (first r : List Token) where
  pub array_read : {A E : Type 0} (asked : Bool) (new : List Token) (outcome : Result (Result (Found A) FileFault) E)
      → first ≡ Token.begin_array ∷ r
      → IfOk outcome
      (λ outcome. (js : Items) × IsRoasResult asked (array js ∷ []) outcome
      × (items_in (depth - 1) r ≡ Some (js, new)))
      → IfOk outcome
      (λ outcome. (j : Json) × IsRoasResult asked (j ∷ []) outcome × (json.value depth first ≡ Some (j, new)))
  array_read asked new (Err e) opens h = h
  array_read asked new (Ok outcome) opens (js, is, read) =
      (array js, is, grind (arith, opens, read, value-begin_array))

  pub array_fails : first ≡ Token.begin_array ∷ r → items_in (depth - 1) r ≡ None → json.value depth first ≡ None
  array_fails opens none = grind (arith, value-begin_array)

  pub object_passed : (A : Type 0) (asked : Bool) (new : List Token) → first ≡ Token.begin_object ∷ r
      → left (members_in (depth - 1) r) ≡ Some new
      → (j : Json) × IsRoasResult {A = A} asked (j ∷ []) (Err (Roas Kind)) × (json.value depth first ≡ Some (j, new))
  object_passed A asked new opens passed =
      let ms = left_some (members_in (depth - 1) r) new passed in (
        json.object ms.0,
        inl (Kind, (json.object ms.0, refl, λ h. cc (h.1)), refl),
        ap (json.value depth) opens ∙ value-begin_object depth r some ∙ ap (parse_map json.object) ms.1,
      )

  pub object_fails : first ≡ Token.begin_object ∷ r → left (members_in (depth - 1) r) ≡ None
      → json.value depth first ≡ None
  object_fails opens none = grind (arith, value-begin_object, left_none)

-- the value of a token that opens nothing
abbrev pub json_of : Token → Json
json_of (Token.string s) = json.string s
json_of (Token.number s) = json.number s
json_of (Token.boolean b) = json.boolean b
json_of token = json.null

pub scalar_passed : (A : Type 0) (asked : Bool) (depth : ℕ) (first r : List Token) (t : Token)
    → json.value depth first ≡ Some (json_of t, r)
    → (j : Json) × IsRoasResult {A = A} asked (j ∷ []) (Err (Roas Kind)) × (json.value depth first ≡ Some (j, r))
scalar_passed A asked depth first r t is = grind (arith)

module _ (text : List ℕ) (ts : List Token) (are : ts ≡ tokens text) where
  -- no object begins
  pub none_in : ((r : List Token) → ts ≢ Token.begin_object ∷ r) → (ms : Members) → document text ≢ Some (object ms)
  none_in none ms e = grind (arith, value_is)

  module _ (r : List Token) (opens : ts ≡ Token.begin_object ∷ r) where
    -- its members are wrong, or something follows
    pub wrong_in : members_in 127 r ≡ None → (ms : Members) → document text ≢ Some (object ms)
    wrong_in wrong ms e = grind (arith, value-begin_object)

    pub more_in : (rest now : List Token) (t : Token) (all : Members) → members_in 127 r ≡ Some (all, now)
        → now ≡ t ∷ rest → (ms : Members) → document text ≢ Some (object ms)
    more_in rest now t all read more ms e = grind (arith, value-begin_object)

    -- the members, and then the end
    pub object_in : (now : List Token) (ms : Members) → members_in 127 r ≡ Some (ms, now) → now ≡ []
        → document text ≡ Some (object ms)
    object_in now ms read end = grind (arith, value-begin_object)

-- what is found in the values of `roas` is found in the text
pub json_values : {A : Type 0} (asked : Bool) (text : List ℕ) (ms : Members) (found : Found A) → IsUtf8 text
    → document text ≡ Some (object ms) → IsRoasResult asked (values_in roas ms) (Ok found)
    → IsFoundIn asked (AreJsonEntries text) found
json_values asked text ms found utf8 is reads = found_as (λ entries are _. (ms, (utf8, is), are)) reads

pub json_fault : (A : Type 0) (asked : Bool) (text : List ℕ) (ms : Members) (f : FileFault) → IsUtf8 text
    → document text ≡ Some (object ms) → IsRoasResult {A = A} asked (values_in roas ms) (Err f) → HasJsonFault text f
json_fault A asked text ms f utf8 is wrong = inr (ms, (utf8, is), wrong)

-- ---- a text is one object or none, and so has one list of entries, or one fault

object_exact : (text : List ℕ) → IsExact (IsJsonObject text) (IsNoObject text)
object_exact text = record {
  one = λ a b h k. grind (arith);
  apart = λ a f h wrong. wrong.0 a h;
  fault_one = λ d f h k. h.1 ∙ sym k.1;
}

array_exact : (values : List Json) → IsExact (IsOneArray values) (AreNoArray values)
array_exact values = record {
  one = λ a b h k. grind (arith);
  apart = λ a f h wrong. wrong_apart _ values (array a) wrong.0 h (a, refl) wrong.1;
  fault_one = λ d f h k. grind (arith, wrong_one);
}

pub json_exact : (text : List ℕ) → IsExact (AreJsonEntries text) (HasJsonFault text)
json_exact text =
    let of_array = λ (items : Items). items_exact 1 (list_of items) in
    let of_object = λ (ms : Members). exact_with (array_exact (values_in roas ms)) of_array in
    let all = exact_with (object_exact text) of_object in all
