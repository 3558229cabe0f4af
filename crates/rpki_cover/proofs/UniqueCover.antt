-- A set has one cover list.
use Rattle.rpki_cover.proofs.Common.{List, [], arith, refl, ℕ, ◌+◌, ◌-◌, ◌^◌, ◌∷◌, ◌≡◌, ◌≤◌, pow_pos, All-contains}
use Rattle.rpki_cover.proofs.Common.{Contains, PrefixValue, Ascends, IsCoverList}
use Rattle.rpki_cover.proofs.ListMembership.{contains_cases, contains_later}

-- later prefixes begin behind an earlier one
pub behind : (w : ℕ) (p q : PrefixValue) (ps : List PrefixValue) → Ascends w (p ∷ ps) → Contains ps q
    → p.first + 2 ^ (w - p.len) ≤ q.first
behind w p q ps a i = All-contains (λ q. p.first + 2 ^ (w - p.len) ≤ q.first) ps q a.0 i

-- the first prefixes are one
same_heads : (w : ℕ) (p q : PrefixValue) (ps qs : List PrefixValue) → Ascends w (p ∷ ps) → Ascends w (q ∷ qs)
    → Contains (q ∷ qs) p → Contains (p ∷ ps) q → p ≡ q
same_heads w p q ps qs a b h j = grind (arith, behind, contains_cases, pow_pos)

-- what is later in the one is later in the other
in_tail : (w : ℕ) (p r : PrefixValue) (ps qs : List PrefixValue) → Ascends w (p ∷ ps) → Contains ps r
    → Contains (p ∷ qs) r → Contains qs r
in_tail w p r ps qs a i h = grind (arith, behind, contains_cases, pow_pos)

-- two ascending lists with the same members are one
pub same_lists : (w : ℕ) (ps qs : List PrefixValue) → Ascends w ps → Ascends w qs
    → ((p : PrefixValue) → Contains ps p → Contains qs p) → ((p : PrefixValue) → Contains qs p → Contains ps p)
    → ps ≡ qs
same_lists w [] [] a b f g = refl
same_lists w [] (q ∷ qs) a b f g = absurd (omega (arith, (g q (0, omega arith, refl)).1))
same_lists w (p ∷ ps) [] a b f g = absurd (omega (arith, (f p (0, omega arith, refl)).1))
same_lists w (p ∷ ps) (q ∷ qs) a b f g =
    let e : p ≡ q = same_heads w p q ps qs a b (f p (0, omega arith, refl)) (g q (0, omega arith, refl)) in
    let t : ps ≡ qs = same_lists w ps qs a.1 b.1
    (λ r i. in_tail w p r ps qs a i (rw e (f r (contains_later p ps r i))))
    (λ r i. in_tail w q r qs ps b i (rw (← e) (g r (contains_later q qs r i)))) in
    cc

-- a set has one cover list
pub one_cover_list : (w : ℕ) (S : ℕ → Type 0) (ps qs : List PrefixValue) → IsCoverList w S ps → IsCoverList w S qs
    → ps ≡ qs
one_cover_list w S ps qs c d = same_lists w ps qs c.ascending d.ascending
    (λ p i. (d.members p).1 ((c.members p).0 i)) (λ p i. (c.members p).1 ((d.members p).0 i))
