-- Runs that are written one after the other.
use Rattle.std.proofs.Common.{◌≡◌, ℕ, List, [], ◌∷◌, ◌++◌, append_assoc, map}
use Rattle.std.proofs.lemmas.List.{append-nil}

module _ {B R : Type 0} (bounds : B → ℕ × ℕ) (range : ℕ × ℕ → R) where
  -- one more run: the runs so far, with those of the blocks that are left, are still all
  pub one_more : (done more : List R) (left rest : List B) (all : List R) (b : B) (r : R) → more ≡ done ++ r ∷ []
      → left ≡ b ∷ rest → r ≡ range (bounds b) → done ++ map range (map bounds left) ≡ all
      → more ++ map range (map bounds rest) ≡ all
  one_more done more left rest all b r put next is so_far =
      rw (put, ← so_far, next, is) (append_assoc done (range (bounds b) ∷ []) (map range (map bounds rest)))

  -- where no block is left, the runs so far are all
  pub all_done : (done : List R) (left : List B) (all : List R) → left ≡ []
      → done ++ map range (map bounds left) ≡ all → done ≡ all
  all_done done left all none so_far = rw (none, append-nil done) at so_far
