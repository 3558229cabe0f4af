-- What a table has after changes.
use Rattle.roa_origin.proofs.Common.{Contains, List, arith, inl, inr, map, ◌++◌, ◌↔◌, ◌∙◌, ◌≡◌, ◌⊎◌}
use Rattle.roa_origin.proofs.Common.{Contains-append_cases, Contains-append_left, Contains-append_right}
use Rattle.roa_origin.proofs.Common.{Contains-permutation, IsPermutation-sym, IsPermutation-trans, IsPermutation, Vrp}
use Rattle.roa_origin.proofs.Common.{as_sent, IsSentIn, IsUpdated}
use Rattle.roa_origin.proofs.ListMembers.{map_from, map_has, those_are, those_have, those_one}

module _ (table announced withdrawn next : List Vrp) (is : IsUpdated table announced withdrawn next) where
  -- what it lists
  pub lists : (p : Vrp) → Contains next p
      ↔ ((Contains table p × ¬ IsSentIn withdrawn p) ⊎ Contains (map as_sent announced) p)
  lists p =
      let came = map as_sent announced in
      let all = is.kept ++ came in
      let on = Contains-permutation all next p is.has in
      let back = Contains-permutation next all p (IsPermutation-sym all next is.has) in
      let are = those_are _ table is.kept p is.stays in
      let have = those_have _ table is.kept p is.stays in
      let left = Contains-append_left is.kept came p in
      let right = Contains-append_right is.kept came p in
      grind (arith, Contains-append_cases is.kept came p)

  -- the same, as VRPs are sent
  same_as : (xs : List Vrp) (p q : Vrp) → as_sent p ≡ as_sent q → IsSentIn xs p → IsSentIn xs q
  same_as xs p q e h = (h.0, h.1, h.2, h.3, h.4 ∙ e)

  pub sends : (p : Vrp) → IsSentIn next p
      ↔ ((IsSentIn table p × ¬ IsSentIn withdrawn p) ⊎ IsSentIn announced p)
  sends p = (
    (λ h. grind (arith, (lists h.1).0 (h.0, h.2, h.3), map_from as_sent announced h.1, same_as withdrawn p h.1)),
    λ h. elim h [
      | inl (k, none) ↦
          grind (arith, (lists k.1).1 (inl ((k.0, k.2, k.3), λ gone. none (same_as withdrawn k.1 p k.4 gone))))
      | inr k ↦ grind (arith, (lists (as_sent k.1)).1 (inr (map_has as_sent announced k.1 (k.0, k.2, k.3))))
    ],
  )

-- changes lead to one list
pub one_updated : (table announced withdrawn next other : List Vrp) → IsUpdated table announced withdrawn next
    → IsUpdated table announced withdrawn other → IsPermutation next other
one_updated table announced withdrawn next other one two =
    grind (arith, IsPermutation-sym, IsPermutation-trans, those_one)
