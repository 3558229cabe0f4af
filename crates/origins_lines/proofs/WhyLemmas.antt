-- Lemmas on the explanations of the VRPs that cover a route.
use Rattle.origins_lines.proofs.Common.{Bool, List, false, true, ◌&&◌, None, Option, Some, [], append_assoc, arith}
use Rattle.origins_lines.proofs.Common.{get_or, inl, inr, length, map, refl, reverse, sym, ℕ, ◌++◌, ◌+◌, ◌↔◌, ◌∷◌, ◌≡◌}
use Rattle.origins_lines.proofs.Common.{◌≢◌, ◌≤◌, ◌⊎◌, append-nil, length-append, map-append, AllPairs, Contains}
use Rattle.origins_lines.proofs.Common.{IsNonDecreasingBy, AreThose, CoversRoute, IsLawfulVrp, Vrp, prefix_len, as_sent}
use Rattle.origins_lines.proofs.Common.{FamilyPrefix, IsFamilyPrefix, IsExplanation, IsReason, IsExplainedBefore}
use Rattle.origins_lines.proofs.Common.{AreReasonTexts, IsNextText, Form, Reason, is_first, item_text}
use Rattle.std.proofs.lemmas.Bool.{cases_lt}
use Rattle.std.proofs.lemmas.Grind.{reverse_onto}
use Rattle.std.proofs.lemmas.List.{get_or-append-add, reverse-append}
use Rattle.std.proofs.lemmas.List.Elements.{Contains-append_left, Contains-append_right, Contains-get_or, Contains-push}
use Rattle.std.proofs.lemmas.List.Elements.{Contains-push_cases}
use Rattle.std.proofs.lemmas.List.Quantifiers.{all_pairs_push}
use Rattle.roa_origin.specs.Places.{table_place}
use Rattle.roa_origin.proofs.NestedRoutes.{covers_between}
use Rattle.roa_origin.proofs.OrderNumbers.{by_ranks, covers_place, no_earlier, rank_asn, rank_longest, rank_small}
use Rattle.roa_origin.proofs.OrderNumbers.{same_prefix, upper}
use Rattle.roa_origin.proofs.ListMembers.{here, map_from, map_has, those_are, those_have}
use Rattle.origins_lines.specs.declared.explanation.Form.TheVariants.{Json, Words}
use Rattle.origins_lines.proofs.Members.{from_reverse, to_reverse}

-- ---- the order of the explanations

-- a VRP that is explained before another isn't explained after it
pub not_back : (p q : Vrp) → IsExplainedBefore p q → IsExplainedBefore q p → ⊥
not_back p q h k = grind (arith)

-- two VRPs cover a route, and `y` has no lower place in a table than `x`: then `y` is explained before `x`, or both are
-- the same VRP as sent
module _ (route : FamilyPrefix) (is : IsFamilyPrefix route) (y x : Vrp) (of_y : IsLawfulVrp y)
    (of_x : IsLawfulVrp x) (covers_y : CoversRoute route y) (covers_x : CoversRoute route x)
    (places : table_place x ≤ table_place y) where
  -- the case of two VRPs with the same prefix
  by_prefix : x.0.prefix ≡ y.0.prefix → IsExplainedBefore y x ⊎ (as_sent y ≡ as_sent x)
  by_prefix same = grind (arith, by_ranks, cases_lt, rank_asn, rank_longest)

  pub explained_or_same : prefix_len x ≤ prefix_len y → IsExplainedBefore y x ⊎ (as_sent y ≡ as_sent x)
  explained_or_same lens =
      grind (arith, by_prefix, cases_lt, covers_between, covers_place, no_earlier, rank_small, same_prefix, upper)

-- ---- two neighbours in a list

-- `x` directly follows `y` in a list in which `f` does not increase: then `f x` is at most `f y`
pub adjacent : (f : Vrp → ℕ) (all done front rest : List Vrp) (y x : Vrp)
    → IsNonDecreasingBy f (reverse all) → all ≡ done ++ x ∷ rest → done ≡ front ++ y ∷ [] → f x ≤ f y
adjacent f all done front rest y x ordered cut ends =
    let turned = x ∷ y ∷ reverse front in
    let back : reverse all ≡ reverse rest ++ turned = grind (arith, append_assoc, reverse-append, reverse_onto) in
    let place = length (reverse rest) in
    let long = length-append (reverse rest) turned in
    let le = (rw back at ordered) (place + 0) (place + 1) y (omega arith) (omega (arith, long)) in
    rw (get_or-append-add (reverse rest) turned 0 y, get_or-append-add (reverse rest) turned 1 y) at le

-- ---- a VRP that is appended to a list

-- if each member of `xs` is a member of `ys` with `x`, so is each member of `xs` with `x`
over_pushed : (xs ys : List Vrp) (x p : Vrp) → (Contains xs p → Contains (ys ++ x ∷ []) p)
    → Contains (xs ++ x ∷ []) p → Contains (ys ++ x ∷ []) p
over_pushed xs ys x p over h = elim (Contains-push_cases xs x p h) [
  | inl there ↦ over there
  | inr e ↦ rw (← e) (Contains-push ys x)
]

-- two lists with the same members have the same members after `x` is appended to both
same_pushed : (xs ys : List Vrp) (x p : Vrp) → (Contains xs p ↔ Contains ys p)
    → (Contains (xs ++ x ∷ []) p ↔ Contains (ys ++ x ∷ []) p)
same_pushed xs ys x p same = (
  over_pushed xs ys x p (λ h. Contains-append_left ys (x ∷ []) p (same.0 h)),
  over_pushed ys xs x p (λ h. Contains-append_left xs (x ∷ []) p (same.1 h)),
)

-- appending a member of `ys` to `ys` adds no member, so the result has the same members as `xs` if `ys` has
again_pushed : (xs ys : List Vrp) (x p : Vrp) → ((q : Vrp) → Contains xs q ↔ Contains ys q) → Contains ys x
    → (Contains xs p ↔ Contains (ys ++ x ∷ []) p)
again_pushed xs ys x p same there = (
  λ h. Contains-append_left ys (x ∷ []) p ((same p).0 h),
  λ h. elim (Contains-push_cases ys x p h) [
    | inl had ↦ (same p).1 had
    | inr e ↦ rw (← e) ((same x).1 there)
  ],
)

-- ---- what is explained so far

-- the last VRP of those that are done
abbrev IsLastOf : Option Vrp → List Vrp → Type 0
IsLastOf None done = done ≡ []
IsLastOf (Some y) done = ((front : List Vrp) × (done ≡ front ++ y ∷ [])) × IsLawfulVrp y

-- whether no VRP is explained
abbrev pub is_empty : List Vrp → Bool
is_empty [] = true
is_empty (p ∷ explained) = false

empty_pushed : (explained : List Vrp) (p : Vrp) → is_empty (explained ++ p ∷ []) ≡ false
empty_pushed [] p = refl
empty_pushed (q ∷ explained) p = refl

-- each explained VRP is explained before it, or is the same as it is sent
abbrev IsUpTo : Option Vrp → List Vrp → Type 0
IsUpTo None explained = explained ≡ []
IsUpTo (Some y) explained = (q : Vrp) → Contains explained q → IsExplainedBefore q y ⊎ (q ≡ as_sent y)

pub record IsExplainedSo (form : Form) (route : FamilyPrefix) (asn : ℕ) (done : List Vrp) (last : Option Vrp)
    (text : List ℕ) : Type 0 where
  pub explained : List Vrp
  pub ordered : AllPairs IsExplainedBefore explained
  pub members : (p : Vrp) → Contains explained p ↔ Contains (map as_sent done) p
  pub texts : AreReasonTexts form true route asn explained text
  pub up_to : IsUpTo last explained
  pub first : is_empty explained ≡ is_first last
  pub at_end : IsLastOf last done

-- so it is explained before the next VRP, if the last one is
before : (last : Option Vrp) (explained : List Vrp) (x : Vrp) → IsUpTo last explained
    → ((y : Vrp) → last ≡ Some y → IsExplainedBefore y x) → (q : Vrp) → Contains explained q → IsExplainedBefore q x
before last explained x up_to next q h = grind (arith)

pub explained_none : (form : Form) (route : FamilyPrefix) (asn : ℕ) → IsExplainedSo form route asn [] None []
explained_none form route asn = grind (arith)

-- the text of a VRP as it is sent
item_sent : (form : Form) (first : Bool) (reason : Reason) (p : Vrp)
    → item_text form first reason (as_sent p) ≡ item_text form first reason p
item_sent Words first reason p = refl
item_sent Json true reason p = refl
item_sent Json false reason p = refl

-- the text of one more
reason_texts_push : (form : Form) (first : Bool) (route : FamilyPrefix) (asn : ℕ) (explained : List Vrp)
    (text : List ℕ) (p : Vrp) (reason : Reason) → IsReason route asn p reason
    → AreReasonTexts form first route asn explained text
    → AreReasonTexts form first route asn (explained ++ p ∷ [])
    (text ++ item_text form (first && is_empty explained) reason p)
reason_texts_push form true route asn [] text p reason is e = grind (arith, append-nil)
reason_texts_push form false route asn [] text p reason is e = grind (arith, append-nil)
reason_texts_push form true route asn (q ∷ explained) text p reason is (r, of_q, more, e, rest) =
    grind (arith, append_assoc, reason_texts_push form false route asn explained more p reason is rest)
reason_texts_push form false route asn (q ∷ explained) text p reason is (r, of_q, more, e, rest) =
    grind (arith, append_assoc, reason_texts_push form false route asn explained more p reason is rest)

module _ (form : Form) (route : FamilyPrefix) (asn : ℕ) (done : List Vrp) (x : Vrp) (lawful : IsLawfulVrp x) where
  more_sent : map as_sent (done ++ x ∷ []) ≡ map as_sent done ++ as_sent x ∷ []
  more_sent = map-append as_sent done (x ∷ [])

  -- a VRP that is the same, as it is sent, as the last one isn't explained again
  pub explained_same : (y : Vrp) (text : List ℕ) → as_sent y ≡ as_sent x
      → IsExplainedSo form route asn done (Some y) text → IsExplainedSo form route asn (done ++ x ∷ []) (Some x) text
  explained_same y text same had = record {
    explained = had.explained;
    ordered = had.ordered;
    members = λ p. rw more_sent (again_pushed had.explained (map as_sent done) (as_sent x) p had.members was);
    texts = had.texts;
    up_to = λ q h. grind (arith, had.up_to q h);
    first = had.first;
    at_end = ((done, refl), lawful);
  }
    where
      was : Contains (map as_sent done) (as_sent x)
      was = rw (← same) (map_has as_sent done y (rw had.at_end.0.1 (Contains-push had.at_end.0.0 y)))

  -- a VRP as it is sent has the same against it
  reason_sent : (reason : Reason) → IsReason route asn x reason → IsReason route asn (as_sent x) reason
  reason_sent reason h = grind (arith)

  -- and any other is
  pub explained_more : (last : Option Vrp) (text : List ℕ) (reason : Reason) → IsReason route asn x reason
      → ((y : Vrp) → last ≡ Some y → IsExplainedBefore y x) → IsExplainedSo form route asn done last text
      → IsExplainedSo form route asn (done ++ x ∷ []) (Some x) (text ++ item_text form (is_first last) reason x)
  explained_more last text reason is next had =
      let earlier = before last had.explained x had.up_to next in
      record {
        explained = had.explained ++ as_sent x ∷ [];
        ordered = all_pairs_push IsExplainedBefore had.explained (as_sent x) had.ordered
            (λ k d small. earlier (get_or had.explained k d) (Contains-get_or had.explained k d small));
        members = λ p. rw more_sent (same_pushed had.explained (map as_sent done) (as_sent x) p (had.members p));
        texts = rw (← had.first, ← item_sent form (is_empty had.explained) reason x)
            (reason_texts_push form true route asn had.explained text (as_sent x) reason (reason_sent reason is)
            had.texts);
        first = empty_pushed had.explained (as_sent x);
        up_to = λ q h. elim (Contains-push_cases had.explained (as_sent x) q h) [
          | inl there ↦ inl (earlier q there)
          | inr e ↦ inr (sym e)
        ];
        at_end = ((done, refl), lawful);
      }

-- of a table those that cover a route, as they are sent, are all that were given
module _ (route : FamilyPrefix) (table all : List Vrp) (those : AreThose (CoversRoute route) table (reverse all))
    (p : Vrp) where
  sent_on : Contains (map as_sent all) p → CoversRoute route p × Contains (map as_sent table) p
  sent_on h =
      let (x, inside, e) = map_from as_sent all p h in
      let both = those_are (CoversRoute route) table (reverse all) x those (to_reverse all x inside) in
      grind (arith, both, map_has as_sent table x)

  sent_back : CoversRoute route p → Contains (map as_sent table) p → Contains (map as_sent all) p
  sent_back covers h =
      let (x, inside, e) = map_from as_sent table p h in
      let there = those_have (CoversRoute route) table (reverse all) x those inside in
      grind (arith, there, from_reverse all x, map_has as_sent all x)

-- when all are done, the list explains the route
pub all_explained : (form : Form) (route : FamilyPrefix) (asn : ℕ) (table all : List Vrp) (last : Option Vrp)
    (text : List ℕ) → AreThose (CoversRoute route) table (reverse all)
    → (had : IsExplainedSo form route asn all last text) → IsExplanation route table had.explained
all_explained form route asn table all last text those had = record {
  ordered = had.ordered;
  members = λ p. (
    λ h. sent_on route table all those p ((had.members p).0 h),
    λ (covers, inside). (had.members p).1 (sent_back route table all those p covers inside),
  );
}

-- the next VRP of those that cover a route
module _ (form : Form) (route : FamilyPrefix) (is : IsFamilyPrefix route) (asn : ℕ) (table all done rest : List Vrp)
    (x : Vrp)
    (lawful : IsLawfulVrp x) (those : AreThose (CoversRoute route) table (reverse all))
    (lens : IsNonDecreasingBy prefix_len (reverse all)) (places : IsNonDecreasingBy table_place (reverse all))
    (cut : all ≡ done ++ x ∷ rest) where
  covers : (y : Vrp) → Contains (done ++ x ∷ rest) y → CoversRoute route y
  covers y h = (those_are (CoversRoute route) table (reverse all) y those (to_reverse all y (rw cut h))).0

  -- after another it isn't explained before it
  behind : (y : Vrp) → IsLastOf (Some y) done → as_sent y ≢ as_sent x → IsExplainedBefore y x
  behind y ((front, ends), of_y) other =
      let covers_x = covers x (Contains-append_right done (x ∷ rest) x (here x rest)) in
      let covers_y = covers y (Contains-append_left done (x ∷ rest) y (rw ends (Contains-push front y))) in
      let far = adjacent table_place all done front rest y x places cut ends in
      let long = adjacent prefix_len all done front rest y x lens cut ends in
      grind (arith, explained_or_same route is y x of_y lawful covers_y covers_x far long)

  pub explained_next : (last : Option Vrp) (why more : List ℕ) (reason : Reason) → IsReason route asn x reason
      → IsExplainedSo form route asn done last why → IsNextText form reason last x more
      → IsExplainedSo form route asn (done ++ x ∷ []) (Some x) (why ++ more)
  explained_next None why more reason against had (inl (again, e)) = absurd again
  explained_next None why more reason against had (inr (other, e)) =
      rw e (explained_more form route asn done x lawful None why reason against (λ z f. grind (arith)) had)
  explained_next (Some y) why more reason against had (inl (again, e)) =
      rw (e, append-nil) (explained_same form route asn done x lawful y why again had)
  explained_next (Some y) why more reason against had (inr (other, e)) =
      let next = behind y had.at_end other in
      rw e (explained_more form route asn done x lawful (Some y) why reason against (λ z f. grind (arith, next)) had)
