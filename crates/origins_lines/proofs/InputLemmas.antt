-- What was read of files, after one more.
use Rattle.origins_lines.proofs.Common.{List, Option, Some, [], ap, arith}
use Rattle.origins_lines.proofs.Common.{inl, inr, length, refl, ℕ, ◌+◌, ◌++◌, ◌≡◌, ◌∷◌, ◌∙◌, ◌⊎◌}
use Rattle.origins_lines.proofs.Common.{Vrp, append-nil, map-append}
use Rattle.std.specs.Prelude.{◌-◌, ◌^◌, min, slice_get, suc, zero}
use Rattle.std.proofs.lemmas.Grind.{flat_map-append}
use Rattle.std.proofs.lemmas.List.{length_push}
use Rattle.std.proofs.lemmas.List.Sums.{sum_by_push}
use Rattle.origins_lines.specs.Inputs.{AppendsPart, AreFilesRead, FilePart}
use Rattle.origins_lines.specs.declared.file.Numbers.{Numbers}

-- the element at an index of a list and one more: that of the list, or the last
get_push : {X : Type 0} (xs : List X) (x y : X) (k : ℕ) → slice_get (xs ++ x ∷ []) k ≡ Some y
    → (slice_get xs k ≡ Some y) ⊎ ((k ≡ length xs) × (y ≡ x))
get_push [] x y zero is = inr (refl, cc)
get_push [] x y (suc k) is = cc
get_push (z ∷ xs) x y zero is = inl is
get_push (z ∷ xs) x y (suc k) is = elim (get_push xs x y k is) [
  | inl there ↦ inl there
  | inr (last, same) ↦ inr (omega arith, same)
]

module _ (text : ℕ → Option (List ℕ)) (time : Option ℕ) where
  pub files_more : (count : ℕ) (listed more : List Vrp) (files : List Numbers) (expired : ℕ) (numbers : Numbers)
      → AreFilesRead text time count listed files expired → AppendsPart time (text count) listed more numbers
      → AreFilesRead text time (count + 1) more (files ++ numbers ∷ [])
      (min (expired + numbers.expired) (2 ^ 64 - 1))
  files_more count listed more files expired numbers read (part, is, numbers_are, more_are) = record {
    parts = read.parts ++ part ∷ [];
    one_each = length_push read.parts part ∙ ap (λ n. n + 1) read.one_each;
    parts_are = λ k other at. elim (get_push read.parts part other k at) [
      | inl there ↦ read.parts_are k other there
      | inr (last, same) ↦ rw (same, last, read.one_each) is
    ];
    listed_are = grind (arith, flat_map-append, append-nil);
    files_are = grind (arith, map-append);
    expired_are =
        omega (
          arith,
          sum_by_push (λ (p : FilePart). p.expired) read.parts part,
          ap (λ (n : Numbers). n.expired) numbers_are,
        );
  }
