-- What `cover` shows.
use Rattle.respath_lines.proofs.Common.{List, [], ap, arith, decimal, false, length, map, refl, sym, ℕ, ◌++◌, ◌==◌, ◌∙◌}
use Rattle.respath_lines.proofs.Common.{◌∷◌, ◌≡◌, append-nil, flat_map_more, length-append, map-append, Drains}
use Rattle.respath_lines.proofs.Common.{YieldsFirst, flat_map, AddressFamily, cover_text, listed_text}
use Rattle.respath_lines.proofs.Common.{prefix_with_length, codes, PrefixValue}
use Rattle.rpki_text.specs.Cuts.{slash}
use Rattle.rpki_ip.specs.PrintedText.{addr_text}

-- ---- prefixes that are printed one by one

-- a text in front of another is some
some_text : (addr rest more : List ℕ) → (length ((addr ++ slash ∷ rest) ++ more) == 0) ≡ false
some_text addr rest more = grind (arith, length-append {A = ℕ})

-- the text of one more prefix, by what is written of the one that is appended
pub more_text : (family : AddressFamily) (ps : List PrefixValue) (p : PrefixValue)
    → cover_text family ps ++ listed_text (length (cover_text family ps) == 0) family p
    ≡ cover_text family (ps ++ p ∷ [])
more_text family [] p = sym (append-nil (prefix_with_length family p))
more_text family (q ∷ ps) p =
    let shown = prefix_with_length family in
    let behind = λ (text : List ℕ). codes ", " ++ text in
    rw (some_text (addr_text family q.first) (decimal q.len) (flat_map behind (map shown ps)))
    (flat_map_more behind (shown q) (map shown ps) (shown p)
    ∙ ap (λ (texts : List (List ℕ)). shown q ++ flat_map behind texts) (sym (map-append shown ps (p ∷ []))))

-- what an iterator gives to its end is its list
pub drained : (all ps : List PrefixValue) → Drains (YieldsFirst (λ (left : List PrefixValue). left)) all ps → ps ≡ all
drained all [] (left, (end, here, none)) = sym (here ∙ none.0)
drained all (p ∷ ps) (left, (end, (next, first, more), none)) =
    rw (first, drained next ps (left, (end, more, none))) refl
