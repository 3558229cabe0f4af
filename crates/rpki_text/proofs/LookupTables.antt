-- A table that has what is wanted at each place, by a test that computes.
use Rattle.rpki_text.proofs.Common.{Bool, List, arith, get_or, suc, true, zero, ℕ, ◌&&◌, ◌<◌, ◌≡◌}
use Rattle.std.proofs.Common.{inl, inr, nat_eq}
use Rattle.std.proofs.lemmas.Bool.{and_parts, cases_eq, eqb-true}

-- the table has what f gives, below n
unfoldable pub agrees_below : List ℕ → (ℕ → ℕ) → ℕ → Bool
agrees_below table f zero = true
agrees_below table f (suc n) = nat_eq (get_or table n 0) (f n) && agrees_below table f n

pub agrees_at : (table : List ℕ) (f : ℕ → ℕ) (n : ℕ) → agrees_below table f n ≡ true → (b : ℕ) → b < n
    → get_or table b 0 ≡ f b
unfolding agrees_below
agrees_at table f zero h b less = absurd (omega (arith, less))
agrees_at table f (suc n) h b less =
    let both = and_parts _ _ h in
    elim (cases_eq b n) [
      | inl same ↦ rw same (eqb-true _ _ both.0)
      | inr other ↦ agrees_at table f n both.1 b (omega (arith, less, other))
    ]
