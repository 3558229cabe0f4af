-- Routes that are counted one after another.
use Rattle.example_calls.proofs.Common.{List, [], arith, get_or, length, refl, take, ℕ, ◌++◌, ◌+◌, ◌<◌, ◌∙◌, ◌∷◌, ◌≡◌}
use Rattle.example_calls.proofs.Common.{◌≤◌, length_push, AreThose}
use Rattle.roa_origin.proofs.SortedMerge.{stays_at}

-- how many elements P holds of
abbrev AreSoMany : {X : Type 0} → (X → Type 0) → List X → ℕ → Type 0
AreSoMany {X} P xs count = (ys : List X) × AreThose P xs ys × (count ≡ length ys)

-- one element more, of which P holds or doesn't
module _ {X : Type 0} (P : X → Type 0) (xs : List X) (at : ℕ) (x : X) (small : at < length xs)
    (is : x ≡ get_or xs at x)
  where
    pub one_kept : (ys : List X) → P x → AreThose P (take at xs) ys → AreThose P (take (at + 1) xs) (ys ++ x ∷ [])
    one_kept ys p those = (stays_at P xs ys at x small is those).0 p

    pub one_passed : (ys : List X) → ¬ P x → AreThose P (take at xs) ys → AreThose P (take (at + 1) xs) ys
    one_passed ys n those = (stays_at P xs ys at x small is those).1 n

    pub counted : (count more : ℕ) → P x → more ≡ count + 1 → (count ≤ at) × AreSoMany P (take at xs) count
        → (more ≤ at + 1) × AreSoMany P (take (at + 1) xs) more
    counted count more p one (few, (ys, those, all)) =
        (omega (arith, one, few), (ys ++ x ∷ [], one_kept ys p those, rw (one, all, length_push ys x) refl))

    pub not_counted : (count more : ℕ) → ¬ P x → more ≡ count → (count ≤ at) × AreSoMany P (take at xs) count
        → (more ≤ at + 1) × AreSoMany P (take (at + 1) xs) more
    not_counted count more n same (few, (ys, those, all)) =
        (omega (arith, same, few), (ys, one_passed ys n those, same ∙ all))
