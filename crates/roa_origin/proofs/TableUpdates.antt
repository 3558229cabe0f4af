-- One walk along a table and the changes of it, turn by turn.
use Rattle.roa_origin.proofs.Common.{All, Any, List, [], append_assoc, arith, drop, get_or, length, length-drop, map}
use Rattle.roa_origin.proofs.Common.{refl, suc, sym, take, zero, ℕ, ◌++◌, ◌+◌, ◌-◌, ◌<◌, ◌∷◌, ◌≡◌, ◌≤◌, take-suc}
use Rattle.roa_origin.proofs.Common.{cases_lt, append-nil, get_or-drop, get_or_default, map-append, take_more}
use Rattle.roa_origin.proofs.Common.{All-append, All-map, All-take, All-permutation, IsPermutation-append_right}
use Rattle.roa_origin.proofs.Common.{IsPermutation-trans, slice_range, IsNonDecreasingBy, IsInOrder, IsLawfulVrp, Vrp}
use Rattle.roa_origin.proofs.Common.{sent_place, table_place, AreChangesOf, AreSorted, IsMergedOf, IsOf, IsSearched}
use Rattle.roa_origin.proofs.Common.{IsSentIn, IsUpdated, sent_change, Change}
use Rattle.roa_origin.proofs.ChangesAsListed.{by_vrp, change_vrp, is_sent}
use Rattle.roa_origin.proofs.SortedMerge.{All-those, IsMerged, moved_last, moved_middle, skipped, stays_at, taken}
use Rattle.roa_origin.proofs.SortedMerge.{turned}
use Rattle.roa_origin.proofs.ListMembers.{those_too}
use Rattle.roa_origin.proofs.OrderNumbers.{by_places}
use Rattle.roa_origin.proofs.SentVrps.{by_sent_place, by_sent}
use Rattle.roa_origin.proofs.LinkWalks.{nowhere}

abbrev pub come_place : Change → ℕ
come_place c = table_place c.vrp

-- the walk stands at places of the table, of the withdrawn and of the announced: the list has what is kept of the
-- table's VRPs before, and what is announced before
pub record IsSoFar (table : List Vrp) (withdrawn announced : List Change) (at gone come : ℕ)
    (list : List Vrp) : Type 0 where
  pub order : IsInOrder table
  pub gone_order : AreSorted withdrawn
  pub come_order : AreSorted announced
  pub at_within : at ≤ length table
  pub gone_within : gone ≤ length withdrawn
  pub come_within : come ≤ length announced
  pub passed : (k i : ℕ) (d : Change) (e : Vrp) → k < gone → at ≤ i → i < length table
      → sent_place (get_or withdrawn k d).vrp < sent_place (get_or table i e)
  pub listed : IsMergedOf (take at table) withdrawn (take come announced) list
  pub merged : IsMerged table_place come_place table_place table announced at come list

-- what is announced is in a table's order, since each has its maximum length
up : (cs : List Change) → AreSorted cs → IsNonDecreasingBy come_place cs
up cs order i j d le small =
    by_sent_place _ _ (order.lawful i d (omega arith)).sent (order.lawful j d small).sent
    (by_vrp cs order i j d le small)

module _ {table : List Vrp} {withdrawn announced : List Change} {at gone come : ℕ} {list : List Vrp}
    (so_far : IsSoFar table withdrawn announced at gone come list) where
  -- the next one is announced
  pub comes : (d : Change) → come < length announced
      → ((e : Vrp) → at < length table → come_place (get_or announced come d) ≤ table_place (get_or table at e))
      → IsSoFar table withdrawn announced at gone (come + 1) (list ++ (get_or announced come d).vrp ∷ [])
  comes d inside le =
      let c : Change = get_or announced come d in
      let is = get_or_default announced come c d inside in
      let ups = up announced so_far.come_order in
      let m = so_far.listed in
      let listed : IsMergedOf (take at table) withdrawn (take (come + 1) announced) (list ++ c.vrp ∷ []) = record {
        kept = m.kept;
        stays = m.stays;
        has = rw (take_more announced come d inside, map-append) (moved_last m.kept _ list c.vrp m.has);
      } in
      let merged = turned (taken (turned so_far.merged) c c.vrp refl ups so_far.order.ranked inside is le) in
      grind (arith, so_far.passed)

  -- the next one is of the table
  module _ (p : Vrp) (small : at < length table) (is : p ≡ get_or table at p) where
    -- the walk along the withdrawn gets there
    pub advanced : (place : ℕ) → place ≤ length withdrawn → IsSearched sent_change withdrawn (sent_place p) place
        → IsSoFar table withdrawn announced at place come list
    advanced place within searched =
        let here = λ (e : Vrp). get_or_default table at e p small in
        grind (arith, by_sent table so_far.order.ranked at, here, is, searched.before)

    -- and is withdrawn
    pub goes : (gone < length withdrawn) × ((d : Change) → IsOf p (get_or withdrawn gone d))
        → IsSoFar table withdrawn announced (at + 1) gone come list
    goes (within, of) =
        let c : Change = get_or withdrawn gone (record { vrp = p; place = 0 }) in
        let there : Any (IsOf p) withdrawn = (gone, c, within, get_or_default withdrawn gone c _ within, of _) in
        let m = so_far.listed in
        let next = stays_at (λ q. ¬ Any (IsOf q) withdrawn) table m.kept at p small is m.stays in
        let listed : IsMergedOf (take (at + 1) table) withdrawn (take come announced) list =
        record { kept = m.kept; stays = next.1 (λ none. none there); has = m.has } in
        grind (arith, so_far.passed, skipped so_far.merged)

    -- or stays
    pub remains : ¬ Any (IsOf p) withdrawn
        → ((c : Change) → come < length announced → table_place p ≤ come_place (get_or announced come c))
        → IsSoFar table withdrawn announced (at + 1) gone come (list ++ p ∷ [])
    remains stays le =
        let ups = up announced so_far.come_order in
        let m = so_far.listed in
        let next = stays_at (λ q. ¬ Any (IsOf q) withdrawn) table m.kept at p small is m.stays in
        let listed : IsMergedOf (take (at + 1) table) withdrawn (take come announced) (list ++ p ∷ []) =
        record { kept = m.kept ++ p ∷ []; stays = next.0 stays; has = moved_middle m.kept _ list p m.has } in
        grind (arith, so_far.passed, taken so_far.merged p p refl so_far.order.ranked ups small (sym is) le)

  -- the list is in order at the end
  pub in_order : IsInOrder list
  in_order =
      let l = so_far.listed in
      let all = All-take IsLawfulVrp at table so_far.order.vrps in
      let each = λ (k : ℕ) (c : Change) (small : k < length announced). (so_far.come_order.lawful k c small).vrp in
      let old = All-those _ IsLawfulVrp _ l.kept l.stays all in
      let new = All-map IsLawfulVrp change_vrp _ (All-take (λ c. IsLawfulVrp c.vrp) come announced each) in
      let these = All-permutation IsLawfulVrp _ list l.has (All-append IsLawfulVrp l.kept _ old new) in
      record { vrps = these; ordered = by_places list these so_far.merged.ordered; ranked = so_far.merged.ordered }

-- a run of the table's VRPs comes before the next that is withdrawn, and no later than the next announced
module _ {table : List Vrp} {withdrawn announced : List Change} {at gone come end : ℕ} {list : List Vrp}
    (so_far : IsSoFar table withdrawn announced at gone come list) (end_within : end ≤ length table)
    (before : (k : ℕ) (d : Vrp) (e : Change) → k < end → gone < length withdrawn
    → sent_place (get_or table k d) < sent_change (get_or withdrawn gone e))
    (up_to : (k : ℕ) (d : Vrp) (e : Change) → k < end → come < length announced
    → table_place (get_or table k d) ≤ table_place (get_or announced come e).vrp) where
  next_of_run : {k : ℕ} {ps : List Vrp} → IsSoFar table withdrawn announced k gone come ps → k < end
      → IsSoFar table withdrawn announced (k + 1) gone come (ps ++ get_or table k nowhere ∷ [])
  next_of_run {k} far low =
      let p : Vrp = get_or table k nowhere in
      let is = get_or_default table k nowhere p (omega arith) in
      -- what is passed of the withdrawn comes before it, and what is left behind it
      let stays : ¬ Any (IsOf p) withdrawn = λ some.
      let ups = by_vrp withdrawn far.gone_order gone some.0 some.1 in
      grind (arith, is, cases_lt some.0 gone, far.passed some.0 k some.1 p, before k p some.1 low) in
      remains far p (omega arith) is stays (λ c there. rw is (up_to k p c low there))

  run_of : (n k : ℕ) → k ≡ at + n → k ≤ end
      → IsSoFar table withdrawn announced k gone come (list ++ take n (drop at table))
  run_of zero k is short = (let same : k ≡ at = omega (arith, is) in rw (same, append-nil) so_far)
  run_of (suc n) k is short =
      let next : k ≡ at + n + 1 = omega (arith, is) in
      let inside : n < length (drop at table) = (let many = length-drop at table in omega (arith, many)) in
      let far = run_of n (at + n) refl (omega arith) in
      rw (next, take-suc (drop at table) n nowhere inside, get_or-drop at table n nowhere, ← append_assoc list _ _)
      (next_of_run far (omega arith))

  pub run : at ≤ end → IsSoFar table withdrawn announced end gone come (list ++ slice_range table at end)
  run le = run_of (end - at) end (omega arith) (omega arith)

-- ---- the lists that the changes came in

pub updated_by : {table xs ys next : List Vrp} {ds cs : List Change} → IsMergedOf table ds cs next
    → All IsLawfulVrp table → AreChangesOf xs ds → AreChangesOf ys cs → IsUpdated table ys xs next
updated_by {table} {xs} {ys} {next} {ds} {cs} m lawful gone come = record {
  kept = m.kept;
  stays = those_too (λ p. ¬ Any (IsOf p) ds) (λ p. ¬ IsSentIn xs p) table m.kept
      (λ k p inside.
      let is = is_sent xs ds gone (get_or table k p) (lawful k p inside) in
      ((λ none sent. none (is.1 sent)), λ none change. none (is.0 change))) m.stays;
  has = IsPermutation-trans _ _ next (IsPermutation-append_right m.kept _ (map change_vrp cs) come.permutation) m.has;
}
