-- VRPs that are written one after another.
use Rattle.pigyelund_routes.proofs.Common.{List, [], ap, append_assoc, sym, ◌++◌, ◌∙◌, ◌∷◌, ◌≡◌, AreEach}
use Rattle.pigyelund_routes.proofs.ValidityArrayLemmas.{append}

module _ {X Y : Type 0} (R : X → Y → Type 0) where
  -- those so far are written, and they and those that are left are all
  abbrev pub SoFar : List X → List X → List Y → Type 0
  SoFar all left written = (done : List X) × (done ++ left ≡ all) × AreEach R done written

  pub one_written : (all left rest : List X) (written more : List Y) (x : X) (y : Y) → left ≡ x ∷ rest
      → more ≡ written ++ y ∷ [] → R x y → SoFar all left written → SoFar all rest more
  one_written all left rest written more x y next put is (done, same, each) = (
    done ++ x ∷ [],
    append_assoc done (x ∷ []) rest ∙ sym (ap (λ (xs : List X). done ++ xs) next)
        ∙ same,
    rw put (append R done written x y each is),
  )
