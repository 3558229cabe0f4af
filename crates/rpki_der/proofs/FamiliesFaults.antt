-- Families are refused for none at all exactly where none are there, and for one that is there twice exactly where it
-- stands behind members that were read, of which one has it.
use Rattle.rpki_der.proofs.Common.{Bool, Err, List, Ok, [], arith, cond, false, inl, inr, length, refl, suc, true, zero}
use Rattle.rpki_der.proofs.Common.{ℕ, ◌↔◌, ◌∷◌, ◌≡◌, ◌≢◌, ◌≤◌, refined, DuplicateFamily, NoFamily, BeginsEmpty}
use Rattle.rpki_der.proofs.Common.{BeginsWithAll, BeginsWithValue, ByFamily, claims_among, families_at, families_in}
use Rattle.rpki_der.proofs.Common.{member_at, member_in, members_by, seen, was_seen, family_at, AddressFamily, Reading}
use Rattle.rpki_der.proofs.Common.{nil_from_length}
use Rattle.std.specs.Prelude.{◌⊎◌}
use Rattle.rpki_der.proofs.SequenceFaults.{NamesTo, begins_value, bind_err, bind_fails, bind_names, cond_names}
use Rattle.rpki_der.proofs.SequenceFaults.{header_names, names_more, not_named, looked_shorter, tagged_fails}
use Rattle.rpki_der.proofs.SequenceFaults.{tagged_shorter}
use Rattle.rpki_der.proofs.FamiliesGathering.{behind}
use Rattle.rpki_der.proofs.FamilyDerLemmas.{family_names}
use Rattle.rpki_der.specs.FamiliesFaults.{BeginsWithRepeat, any_member_at}

module _ {X : Type 0} (claim_at : AddressFamily → Reading X)
    (names : (family : AddressFamily) (bytes : List ℕ) → NamesTo 11 (claim_at family bytes)) where
  member_names : (before : Bool × Bool) (bytes : List ℕ) → NamesTo 12 (member_at claim_at before bytes)
  unfolding refined member_in
  member_names before bytes =
      search (arith, header_names, bind_names, cond_names, family_names, names_more, names)

  members_names : (steps : ℕ) (found : ByFamily X) (bytes : List ℕ)
      → NamesTo 12 (members_by (member_at claim_at) steps found bytes)
  unfolding members_by
  members_names steps found [] = tt
  members_names zero found (b ∷ bytes) = omega arith
  members_names (suc steps) found (b ∷ bytes) = search (bind_names, member_names, members_names steps)

  -- up to NoFamily
  pub families_names : (bytes : List ℕ) → NamesTo 13 (families_at claim_at bytes)
  unfolding families_in refined
  families_names bytes = grind (arith, header_names, cond_names, members_names, names_more)

  -- ---- none at all

  pub no_family : (bytes : List ℕ) → (families_at claim_at bytes ≡ Err NoFamily) ↔ BeginsEmpty bytes
  unfolding families_in
  no_family =
      tagged_fails 48 _ (λ content. content ≡ []) NoFamily (omega arith)
      (λ content. grind (arith, members_names, not_named, nil_from_length))

  -- ---- a family twice

  -- a member that is read, behind others
  member_behind : (before after : Bool × Bool) (bytes : List ℕ) (member : AddressFamily × X) (rest : List ℕ)
      → member_at claim_at before bytes ≡ Ok (member, rest)
      → member_at claim_at after bytes ≡ cond (was_seen after member.0) (Err DuplicateFamily) (Ok (member, rest))
  unfolding refined member_in
  member_behind before after bytes member rest is = grind arith

  -- the family was there, or is that of one of the members
  abbrev IsThere : ByFamily X → List (AddressFamily × X) → AddressFamily → Type 0
  IsThere found members family = (was_seen (seen found) family ≡ true) ⊎ (claims_among family members ≢ [])

  -- one member more
  there_behind : (found : ByFamily X) (member : AddressFamily × X) (members : List (AddressFamily × X))
      (family : AddressFamily) → IsThere (behind found member) members family ↔ IsThere found (member ∷ members) family
  there_behind found member members family = grind arith

  abbrev BeginsThere : ByFamily X → List (AddressFamily × X) → List ℕ → Type 0
  BeginsThere found members content =
      (family : AddressFamily × List ℕ) × (family_at content ≡ Ok family) × IsThere found members family.0

  member_fails : (found : ByFamily X) (bytes : List ℕ)
      → (member_at claim_at (seen found) bytes ≡ Err DuplicateFamily) ↔ BeginsWithValue 48 (BeginsThere found []) bytes
  unfolding member_in
  member_fails found =
      tagged_fails 48 _ (BeginsThere found []) DuplicateFamily (omega arith)
      (λ content. grind (arith, bind_fails, family_names, not_named, names))

  abbrev Repeats : ByFamily X → List ℕ → Type 0
  Repeats found bytes =
      (members : List (AddressFamily × X)) × (rest : List ℕ)
      × BeginsWithAll (any_member_at claim_at) bytes members rest × BeginsWithValue 48 (BeginsThere found members) rest

  -- a refusal is that of the first member whose family was there
  repeats : (steps : ℕ) (found : ByFamily X) (bytes : List ℕ)
      → members_by (member_at claim_at) steps found bytes ≡ Err DuplicateFamily → Repeats found bytes
  unfolding members_by
  repeats zero found bytes is = absurd (grind arith)
  repeats (suc steps) found [] is = absurd cc
  repeats (suc steps) found (b ∷ bytes) is = elim (bind_err (member_at claim_at (seen found) (b ∷ bytes)) _ _ is) [
    | inl failed ↦ ([], b ∷ bytes, refl, grind (arith, member_fails found (b ∷ bytes)))
    | inr (one, read, fails) ↦
        let (members, rest, all, there) = repeats steps (behind found one.0) one.1 fails in
        let alone = member_behind (seen found) (false, false) (b ∷ bytes) one.0 one.1 read in
        (one.0 ∷ members, rest, (one.1, grind arith, all), grind (arith, there_behind found one.0 members))
  ]

  -- and there the reading stops; fewer octets are left behind a member, so the steps are enough
  fails_repeats : (steps : ℕ) (found : ByFamily X) (members : List (AddressFamily × X)) (bytes rest : List ℕ)
      → length bytes ≤ steps → BeginsWithAll (any_member_at claim_at) bytes members rest
      → BeginsWithValue 48 (BeginsThere found members) rest
      → members_by (member_at claim_at) steps found bytes ≡ Err DuplicateFamily
  unfolding members_by
  fails_repeats steps found [] [] rest enough all there =
      absurd (grind (arith, tagged_shorter 48 rest there.0))
  fails_repeats steps found (m ∷ ms) [] rest enough all there =
      absurd (grind (arith, looked_shorter 48 _ [] (m, all.0) all.1))
  fails_repeats zero found members (b ∷ bytes) rest enough all there = absurd (omega (arith, enough))
  fails_repeats (suc steps) found [] (b ∷ bytes) rest enough all there = grind (arith, begins_value, member_fails)
  fails_repeats (suc steps) found (m ∷ ms) (b ∷ bytes) rest enough (left, read, all) there =
      let fewer = looked_shorter 48 _ (b ∷ bytes) (m, left) read in
      let more = fails_repeats steps (behind found m) ms left rest (omega (arith, fewer, enough)) all in
      rw (member_behind (false, false) (seen found) (b ∷ bytes) m left read)
      (grind (arith, begins_value, there_behind, more))

  pub family_twice : (bytes : List ℕ)
      → (families_at claim_at bytes ≡ Err DuplicateFamily) ↔ BeginsWithValue 48 (BeginsWithRepeat claim_at) bytes
  unfolding families_in members_by
  family_twice =
      tagged_fails 48 _ (BeginsWithRepeat claim_at) DuplicateFamily (omega arith)
      (λ content. grind (arith, begins_value, repeats, fails_repeats))
