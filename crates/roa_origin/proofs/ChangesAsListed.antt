-- What changes in order say of the list that they came in.
use Rattle.roa_origin.proofs.Common.{All, Any, Contains, List, [], ap, arith, get_or, length, map, sym, take, ℕ, ◌++◌}
use Rattle.roa_origin.proofs.Common.{◌+◌, ◌<◌, ◌↔◌, ◌∙◌, ◌∷◌, ◌≡◌, ◌≤◌, common_steps, cases_lt, get_or-map, get_or-take}
use Rattle.roa_origin.proofs.Common.{get_or_default, length-map, length-take, take_all, All-contains, All-permutation}
use Rattle.roa_origin.proofs.Common.{IsPermutation-map, IsPermutation-refl, IsPermutation-trans, IsNonDecreasingBy}
use Rattle.roa_origin.proofs.Common.{IsPermutation, IsLawfulVrp, Vrp, sent_place, as_sent, AreChangesOf, AreSorted}
use Rattle.roa_origin.proofs.Common.{IsFirstPlace, IsLawfulChange, IsOf, IsOfBefore, IsSearched, IsSentIn, sent_change}
use Rattle.roa_origin.proofs.Common.{Change}
use Rattle.roa_origin.proofs.SortedSearch.{any_moved, found}
use Rattle.roa_origin.proofs.OrderNumbers.{lower, upper}
use Rattle.roa_origin.proofs.SentVrps.{same_sent, sent_same}

-- ---- changes as they came

abbrev pub change_vrp : Change → Vrp
change_vrp c = c.vrp

-- the changes of the first n VRPs, in their order
pub record AreListed (xs : List Vrp) (n : ℕ) (cs : List Change) : Type 0 where
  pub same : map change_vrp cs ≡ map as_sent (take n xs)
  pub lawful : All IsLawfulChange cs
  pub many : length cs ≡ n
  pub places : (k : ℕ) (d : Change) → k < length cs → (get_or cs k d).place ≡ k

-- and of all
pub listed : {xs : List Vrp} {n : ℕ} {cs : List Change} → AreListed xs n cs → length xs ≤ n → AreChangesOf xs cs
listed {xs} {n} {cs} far all = record {
  lawful = far.lawful;
  permutation = rw same (IsPermutation-refl (map as_sent xs));
  at_place = λ k d small. grind (arith, as_many, vrp_at k d, far.places k d small);
  each = λ k d small.
      let c : Change = get_or cs k (record { vrp = d; place = k }) in
      let inside : k < length cs = omega (arith, small, as_many) in
      (k, c, inside, get_or_default cs k c _ inside, (vrp_at k _ d inside, far.places k _ inside));
}
  where
    same : map change_vrp cs ≡ map as_sent xs
    same = far.same ∙ ap (map as_sent) (take_all n xs all)

    as_many : length cs ≡ length xs
    as_many = sym (length-map cs change_vrp) ∙ ap length same ∙ length-map xs as_sent

    vrp_at : (k : ℕ) (d : Change) (e : Vrp) → k < length cs → (get_or cs k d).vrp ≡ as_sent (get_or xs k e)
    vrp_at k d e small = grind (arith, as_many, get_or-map as_sent xs k e e, get_or-map change_vrp cs k d e, same)

-- and of one more
pub one_listed : {xs : List Vrp} {n : ℕ} {cs : List Change} → AreListed xs n cs → (x : Vrp) (c : Change)
    → n < length xs → x ≡ get_or xs n x → c.vrp ≡ as_sent x → c.place ≡ n → IsLawfulChange c
    → AreListed xs (n + 1) (cs ++ c ∷ [])
one_listed {xs} {n} {cs} far x c small is vrp place lawful = grind (arith, common_steps)

-- a change stands at the place of its VRP
abbrev StandsIn : List Vrp → Change → Type 0
StandsIn xs change = (change.place < length xs) × ((d : Vrp) → as_sent (get_or xs change.place d) ≡ change.vrp)

-- in another order they are changes of the same list
pub listed_moved : (xs : List Vrp) (cs ds : List Change) → IsPermutation cs ds → AreChangesOf xs cs
    → AreChangesOf xs ds
listed_moved xs cs ds moved are = record {
  lawful = All-permutation IsLawfulChange cs ds moved are.lawful;
  permutation = IsPermutation-trans _ _ (map change_vrp ds) are.permutation (IsPermutation-map change_vrp cs ds moved);
  at_place = All-permutation (StandsIn xs) cs ds moved are.at_place;
  each = λ n d small. any_moved _ cs ds moved (are.each n d small);
}

-- ---- a VRP among changes

module _ (xs : List Vrp) (cs : List Change) (are : AreChangesOf xs cs) (p : Vrp) (is : IsLawfulVrp p) where
  -- a change of the VRP has its place
  at : (c : Change) → Contains cs c → IsOf p c → (c.place < length xs) × (as_sent (get_or xs c.place p) ≡ as_sent p)
  at c h of =
      let stands = All-contains (StandsIn xs) cs c are.at_place h in
      let lawful = All-contains IsLawfulChange cs c are.lawful h in
      grind (arith, same_sent c.vrp p lawful.vrp is of)

  -- the list has a VRP before a place where a change of it stands before
  pub sent_before : (n : ℕ) → Any (IsOfBefore p n) cs ↔ IsSentIn (take n xs) p
  sent_before n = (
    (λ h.
        let (k, c, inside, there, is_of) = h in
        let found = at c (k, inside, there) is_of.0 in
        let is = get_or-take n xs c.place _ is_of.1 ∙ get_or_default xs c.place _ p found.0 in
        (c.place, get_or xs c.place p, omega (arith, is_of.1, found.0, length-take n xs), is, found.1)),
    λ h. grind (arith, are.each h.0 h.1, get_or-take n xs h.0 h.1, length-take n xs, sent_same (get_or xs h.0 h.1) p),
  )

  pub is_sent : Any (IsOf p) cs ↔ IsSentIn xs p
  is_sent = (
    (λ h.
        let (k, c, inside, there, of) = h in
        let found = at c (k, inside, there) of in
        (c.place, get_or xs c.place p, found.0, get_or_default xs c.place _ p found.0, found.1)),
    λ h. grind (arith, are.each h.0 h.1 h.2, sent_same (get_or xs h.0 h.1) p),
  )

-- ---- changes in order

-- by the order of their VRPs
pub by_vrp : (cs : List Change) → AreSorted cs → IsNonDecreasingBy sent_change cs
by_vrp cs order i j d le small = grind (arith, upper, order.lawful j d, order.ordered i j d)

-- the first one of a VRP has the least place
pub first_of : (cs : List Change) (p : Vrp) (at : ℕ) (x : Change) → AreSorted cs
    → IsSearched sent_change cs (sent_place p) at → at < length cs → x ≡ get_or cs at x
    → ((d : Change) → IsOf p (get_or cs at d)) → IsFirstPlace cs p x.place
first_of cs p at x order searched inside is of =
    let up = λ (k : ℕ) (d : Change).
    lower (sent_place x.vrp) (sent_change (get_or cs k d)) x.place (get_or cs k d).place in
    grind (arith, cases_lt, get_or_default cs at, of x, order.ordered at, searched.before)

-- and where a search finds none, none is of it
pub none_of : (cs : List Change) (p : Vrp) (at : ℕ) → AreSorted cs → IsSearched sent_change cs (sent_place p) at
    → ¬ ((at < length cs) × ((d : Change) → IsOf p (get_or cs at d))) → All (λ change. ¬ IsOf p change) cs
none_of cs p at order searched not k d small of =
    let there = get_or_default cs k (get_or cs k d) d small in
    not (found sent_change cs (sent_place p) at (by_vrp cs order) searched (k, get_or cs k d, small, there, of))
