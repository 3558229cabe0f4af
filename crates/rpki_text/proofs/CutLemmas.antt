-- On texts cut at a byte: a text without the byte isn't cut, and a text is cut in one way.
use Rattle.rpki_text.proofs.Common.{List, [], arith, length, refl, subst, suc, ℕ, ◌++◌, ◌∷◌, ◌≡◌}
use Rattle.std.proofs.lemmas.List.{drop_at}
use Rattle.rpki_text.specs.Cuts.{HasNo, IsCutAt, Around}

byte_apart : (b : ℕ) (left right : List ℕ) → HasNo b (left ++ b ∷ right) → ⊥
byte_apart b [] right none = none 0 (omega arith) refl
byte_apart b (x ∷ left) right none = byte_apart b left right (λ k small. none (suc k) (omega arith))

-- a text without b isn't cut at b
pub HasNo-no_cut : (b : ℕ) (text left right : List ℕ) → HasNo b text → IsCutAt b text left right → ⊥
HasNo-no_cut b text left right none cut = byte_apart b left right (subst (HasNo b) cut.split none)

pub none_around : (b : ℕ) (text : List ℕ) (P : List ℕ → List ℕ → Type 0) → HasNo b text → Around b text P → ⊥
none_around b text P none h = HasNo-no_cut b text h.left h.right none h.cut

one_cut : (b : ℕ) (left right before after : List ℕ) → HasNo b left → HasNo b before
    → left ++ b ∷ right ≡ before ++ b ∷ after → (left ≡ before) × (right ≡ after)
one_cut b [] right [] after h k e = let same : right ≡ after = cc in (refl, same)
one_cut b [] right (y ∷ before) after h k e = grind (arith, k 0)
one_cut b (x ∷ left) right [] after h k e = grind (arith, h 0)
one_cut b (x ∷ left) right (y ∷ before) after h k e =
    let no : HasNo b left = λ i less. h (suc i) (omega arith) in
    let nor : HasNo b before = λ i less. k (suc i) (omega arith) in
    grind (arith, one_cut b left right before after no nor)

-- what stands round the first b of a text holds of every cut at it
pub around_at : (b : ℕ) (text left right : List ℕ) (P : List ℕ → List ℕ → Type 0) → IsCutAt b text left right
    → Around b text P → P left right
around_at b text left right P cut h = grind (arith, one_cut)

-- fronts of one length leave the same rest
pub same_rest : (xs ys rest other : List ℕ) → length xs ≡ length ys → xs ++ rest ≡ ys ++ other → rest ≡ other
same_rest xs ys rest other l e = grind (arith, drop_at xs rest (length xs), drop_at ys other (length xs))
