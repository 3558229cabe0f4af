-- One turn of writing values: what is written so far, and what is left to write.
use Rattle.rpki_der.proofs.Common.{List, append_assoc, drop, get_or, length, take, ℕ, ◌++◌, ◌+◌, ◌<◌, ◌∙◌, ◌≡◌}
use Rattle.rpki_der.proofs.Common.{append-nil, at_drop_more, length-append, take_more, octets_of_all}
use Rattle.std.proofs.lemmas.List.Concat.{flat_map-append}

module _ {X : Type 0} (octets : X → List ℕ) (xs : List X) (i : ℕ) (x : X) (inside : i < length xs)
    (is : x ≡ get_or xs i x) where
  -- with the next value, one more is written
  pub written_more : (before now after : List ℕ) → now ≡ before ++ octets_of_all octets (take i xs)
      → after ≡ now ++ octets x → after ≡ before ++ octets_of_all octets (take (i + 1) xs)
  written_more before now after written appended =
      simp (appended, written, take_more xs i x inside, ← is, flat_map-append, append-nil, append_assoc)

  -- and what is left is shorter by it
  pub left_more : length (octets_of_all octets (drop i xs))
      ≡ length (octets x) + length (octets_of_all octets (drop (i + 1) xs))
  left_more =
      at_drop_more (λ ys. length (octets_of_all octets ys)) xs i x inside ∙ simp (← is, length-append)
