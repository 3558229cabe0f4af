-- What the VRPs of several tables find together.
use Rattle.pigyelund_routes.proofs.Common.{List, [], ap, arith, get_or, length, refl, sym, take, ℕ, ◌++◌, ◌+◌, ◌<◌}
use Rattle.pigyelund_routes.proofs.Common.{IsOrigin, Route, ◌∙◌, ◌∷◌, ◌≡◌}
use Rattle.std.proofs.Common.{Bool, below_more, get_or-set_other, get_or-set_same, inl, inr, ◌-◌, ◌≢◌, ◌⊎◌}
use Rattle.std.proofs.Math.ListN.{set}
use Rattle.std.proofs.Math.ListN.{get_or-append}
use Rattle.std.proofs.Math.Seq.{get_or-append_right}
use Rattle.std.proofs.lemmas.Bool.{cases_lt}
use Rattle.std.proofs.lemmas.Grind.{flat_map-append}
use Rattle.std.proofs.lemmas.List.{append-nil, get_or-append-add, length-append, length-set, take_more}
use Rattle.std.specs.Prelude.{◌↔◌, Any, IsTrue}
use Rattle.rpki_prefix.specs.Values.{FamilyPrefix}
use Rattle.roa_origin.specs.Lookups.{RouteLookup}
use Rattle.roa_origin.specs.Validities.{HasCoveringAsn, IsMatched, IsRouteCovered, IsValidity}
use Rattle.roa_origin.specs.Vrps.{CoversRoute, HasAs, Matches, Vrp}
use Rattle.roa_origin.specs.declared.validation.Validity.{Validity}
use Rattle.roa_origin.specs.declared.validation.Validity.TheVariants.{Valid, Invalid, NotFound}
use Rattle.roa_origin.specs.declared.validation.ValidityAndAsn.{ValidityAndAsn}
use Rattle.pigyelund_routes.specs.Origins.{validity_number}
use Rattle.pigyelund_routes.specs.Reasons.{HasReason, reason_number}
use Rattle.pigyelund_routes.specs.Routes.{IsRoute}
use Rattle.pigyelund_routes.specs.SeveralTables.{IsFound, all_vrps, joined_validity}
use Rattle.pigyelund_routes.specs.declared.table_handle.TableRef.{TableRef}
use Rattle.pigyelund_routes.proofs.ReasonLemmas.{reason_is}

module _ {X : Type 0} (P : X → Type 0) where
  any_first : (xs ys : List X) → Any P xs → Any P (xs ++ ys)
  any_first xs ys (k, x, small, is, holds) =
      (k, x, omega (arith, small, length-append xs ys), get_or-append xs ys x k small ∙ is, holds)

  any_last : (xs ys : List X) → Any P ys → Any P (xs ++ ys)
  any_last xs ys (k, x, small, is, holds) =
      (length xs + k, x, omega (arith, small, length-append xs ys), get_or-append-add xs ys k x ∙ is, holds)

  any_of_both : (xs ys : List X) → Any P (xs ++ ys) → Any P xs ⊎ Any P ys
  any_of_both xs ys (k, x, small, is, holds) =
      elim (cases_lt k (length xs)) as (λ _. Any P xs ⊎ Any P ys) [
        | inl first ↦ inl (k, x, first, sym (get_or-append xs ys x k first) ∙ is, holds)
        | inr later ↦ inr (
          k - length xs,
          x,
          omega (arith, small, later, length-append xs ys),
          sym (get_or-append_right xs ys k x later) ∙ is,
          holds,
        )
      ]

-- M, N and O: a VRP of the first list, of the second, or of both matches. C, D and E: one covers.
joined_fields : (M N O C D E : Type 0) (one other : Validity) → (M → O) → (N → O) → (O → M ⊎ N) → (C → E) → (D → E)
    → (E → C ⊎ D) → ((one ≡ Valid) ↔ M) → ((one ≡ Invalid) ↔ (C × ¬ M)) → ((one ≡ NotFound) ↔ ¬ C)
    → ((other ≡ Valid) ↔ N) → ((other ≡ Invalid) ↔ (D × ¬ N)) → ((other ≡ NotFound) ↔ ¬ D)
    → ((joined_validity one other ≡ Valid) ↔ O) × ((joined_validity one other ≡ Invalid) ↔ (E × ¬ O))
    × ((joined_validity one other ≡ NotFound) ↔ ¬ E)
joined_fields M N O C D E Valid other mo so mn ce de cd v1 i1 n1 v2 i2 n2 = grind (arith)
joined_fields M N O C D E NotFound Valid mo so mn ce de cd v1 i1 n1 v2 i2 n2 = grind (arith)
joined_fields M N O C D E NotFound NotFound mo so mn ce de cd v1 i1 n1 v2 i2 n2 = grind (arith)
joined_fields M N O C D E NotFound Invalid mo so mn ce de cd v1 i1 n1 v2 i2 n2 = grind (arith)
joined_fields M N O C D E Invalid Valid mo so mn ce de cd v1 i1 n1 v2 i2 n2 = grind (arith)
joined_fields M N O C D E Invalid NotFound mo so mn ce de cd v1 i1 n1 v2 i2 n2 = grind (arith)
joined_fields M N O C D E Invalid Invalid mo so mn ce de cd v1 i1 n1 v2 i2 n2 = grind (arith)

joined_has : (H I J : Type 0) (one other has : Bool) → (IsTrue has ↔ (IsTrue one ⊎ IsTrue other)) → (H → J) → (I → J)
    → (J → H ⊎ I) → (IsTrue one ↔ H) → (IsTrue other ↔ I) → IsTrue has ↔ J
joined_has H I J one other has is hj ij hi first second = (
  λ yes. elim (is.0 yes) [ inl of_one ↦ hj (first.0 of_one) | inr of_other ↦ ij (second.0 of_other) ],
  λ j. is.1 (elim (hi j) [ inl h ↦ inl (first.1 h) | inr i ↦ inr (second.1 i) ]),
)

module _ (route : FamilyPrefix) (asn : ℕ) (xs ys : List Vrp) where
  joined_is : (one other : Validity) → IsValidity route asn xs one → IsValidity route asn ys other
      → IsValidity route asn (xs ++ ys) (joined_validity one other)
  joined_is one other first second =
      let matching = Matches route asn in let covering = CoversRoute route in
      let (valid, invalid, not_found) =
      joined_fields (IsMatched route asn xs) (IsMatched route asn ys) (IsMatched route asn (xs ++ ys))
      (IsRouteCovered route xs) (IsRouteCovered route ys) (IsRouteCovered route (xs ++ ys)) one other
      (any_first matching xs ys) (any_last matching xs ys) (any_of_both matching xs ys) (any_first covering xs ys)
      (any_last covering xs ys) (any_of_both covering xs ys) first.valid first.invalid first.not_found second.valid
      second.invalid second.not_found in
      record { valid = valid; invalid = invalid; not_found = not_found }

  pub found_joined : (one other : ValidityAndAsn) (has : Bool)
      → (IsTrue has ↔ (IsTrue one.has_covering_asn ⊎ IsTrue other.has_covering_asn)) → IsFound route asn xs one
      → IsFound route asn ys other → IsFound route asn (xs ++ ys)
      (record { validity = joined_validity one.validity other.validity; has_covering_asn = has })
  found_joined one other has is first second =
      let of : Vrp → Type 0 = λ vrp. CoversRoute route vrp × HasAs asn vrp in record {
        is_validity = joined_is one.validity other.validity first.is_validity second.is_validity;
        has_asn = joined_has (HasCoveringAsn route asn xs) (HasCoveringAsn route asn ys)
            (HasCoveringAsn route asn (xs ++ ys)) one.has_covering_asn other.has_covering_asn has is
            (any_first of xs ys) (any_last of xs ys) (any_of_both of xs ys) first.has_asn second.has_asn;
      }

-- a lookup in VRPs finds what they find
pub found_in : (lookup : RouteLookup) (route : FamilyPrefix) (asn : ℕ) (now vrps : List Vrp) (found : ValidityAndAsn)
    → lookup.vrps ≡ now → now ≡ vrps → lookup.route ≡ route → lookup.asn ≡ asn
    → IsValidity lookup.route lookup.asn lookup.vrps found.validity
    → (IsTrue found.has_covering_asn ↔ HasCoveringAsn lookup.route lookup.asn lookup.vrps)
    → IsFound route asn vrps found
found_in lookup route asn now vrps found in_now is_now of_route of_asn validity has =
    rw (← of_route, ← of_asn, ← is_now, ← in_now) (record { is_validity = validity; has_asn = has })

-- the VRPs of one table more
pub more_vrps : (tables : List TableRef) (at : ℕ) (one : TableRef) → at < length tables → one ≡ get_or tables at one
    → all_vrps (take (at + 1) tables) ≡ all_vrps (take at tables) ++ one.vrps
more_vrps tables at one small is =
    ap (λ (its : List TableRef). all_vrps its) (take_more tables at one small)
    ∙ flat_map-append (λ (it : TableRef). it.vrps) (take at tables) (get_or tables at one ∷ [])
    ∙ ap (λ (ys : List Vrp). all_vrps (take at tables) ++ ys)
    (append-nil (get_or tables at one).vrps ∙ ap (λ (it : TableRef). it.vrps) (sym is))

-- the validity and the reason of a route, by what its VRPs find
pub origin_of : (vrps : List Vrp) (r : Route) (prefix : FamilyPrefix) (found : ValidityAndAsn) → IsRoute r prefix
    → IsFound prefix r.asn vrps found → IsOrigin vrps r (validity_number found.validity)
origin_of vrps r prefix found is_route is = record {
  prefix = prefix;
  is_route = is_route;
  validity = found.validity;
  is_validity = is.is_validity;
  number = refl;
}

pub reason_of : (vrps : List Vrp) (r : Route) (prefix : FamilyPrefix) (found : ValidityAndAsn) → IsRoute r prefix
    → IsFound prefix r.asn vrps found → HasReason vrps r (reason_number found.validity found.has_covering_asn)
reason_of vrps r prefix found is_route is = (
  validity_number found.validity,
  record {
    prefix = prefix;
    is_route = is_route;
    validity = found.validity;
    is_validity = is.is_validity;
    is_number = refl;
    is_reason =
        reason_is prefix r.asn vrps found.validity found.has_covering_asn
        (reason_number found.validity found.has_covering_asn) is.has_asn refl;
  },
)

-- one octet more is set
pub one_set : (R : Route → ℕ → Type 0) (routes : List Route) (at octet : ℕ) (octets : List ℕ)
    → ((r : Route) (k : ℕ) → k < at → k < length octets → R (get_or routes k r) (get_or octets k 0))
    → ((r : Route) → R (get_or routes at r) octet) → (r : Route) (k : ℕ) → k < at + 1
    → k < length (set octets at octet) → R (get_or routes k r) (get_or (set octets at octet) k 0)
one_set R routes at octet octets so_far here r k below small =
    let inside : (k : ℕ) → k < length (set octets at octet) → k < length octets =
    λ k small. omega (arith, small, length-set octets at octet) in
    let P : ℕ → Type 0 =
    λ k. k < length (set octets at octet) → R (get_or routes k r) (get_or (set octets at octet) k 0) in
    let others : (k : ℕ) → k < at → P k =
    λ k first small. let other : k ≢ at = omega arith in
    rw (get_or-set_other octets at k octet 0 other) (so_far r k first (inside k small)) in
    let last : P at = λ small. rw (get_or-set_same octets at octet 0 (inside at small)) (here r) in
    below_more P at others last k below small
