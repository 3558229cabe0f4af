-- Members of a list the other way round, and what an iterator has given of a list.
use Rattle.origins_lines.proofs.Common.{List, [], Contains-permutation, IsPermutation-reverse, IsPermutation-sym}
use Rattle.origins_lines.proofs.Common.{Contains, ap, reverse, ◌++◌, ◌∙◌, ◌∷◌, ◌≡◌}
use Rattle.std.specs.Iterator.{Yields, YieldsFirst}

module _ {X : Type 0} where
  pub to_reverse : (xs : List X) (x : X) → Contains xs x → Contains (reverse xs) x
  to_reverse xs x h = Contains-permutation xs (reverse xs) x (IsPermutation-reverse xs) h

  pub from_reverse : (xs : List X) (x : X) → Contains (reverse xs) x → Contains xs x
  from_reverse xs x h =
      Contains-permutation (reverse xs) xs x (IsPermutation-sym xs (reverse xs) (IsPermutation-reverse xs)) h

  -- what an iterator has given and what is left are its list
  pub walked : (all given left : List X) → Yields (YieldsFirst (λ (xs : List X). xs)) all given left
      → all ≡ given ++ left
  walked all [] left e = e
  walked all (x ∷ given) left (next, first, more) = first ∙ ap (λ xs. x ∷ xs) (walked next given left more)
