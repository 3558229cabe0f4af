-- Families whose claims stand for others: what the families stand for is what they are with the
-- claims that theirs stand for.
use Rattle.rpki_der.proofs.Common.{List, None, Option, Some, [], arith, refl, ℕ, ◌∷◌, ◌≡◌, ◌≢◌, Each, OneFront, Refines}
use Rattle.rpki_der.proofs.Common.{IsReading, ByFamily, IsFamilies, IsMember, SaysByFamily, SaysOption, claims_among}
use Rattle.rpki_der.proofs.Common.{listed, AddressFamily, Ipv4, Ipv6, Grammar, Reading}
use Rattle.rpki_der.proofs.SequenceReadings.{one_front_said}
use Rattle.rpki_der.proofs.FamiliesGathering.{families_reading}

module _ {X Y : Type 0} (C : Y → X → Type 0) where
  -- families stand for at most one, where claims do
  pub one_by_family : ((y : Y) (a b : X) → C y a → C y b → a ≡ b) → (found : ByFamily Y) (a b : ByFamily X)
      → SaysByFamily C found a → SaysByFamily C found b → a ≡ b
  one_by_family one found a b says tells = grind arith

  -- the claims of a list stand for those of the other, one by one
  abbrev Say : List Y → List X → Type 0
  Say [] [] = Unit {0}
  Say [] (x ∷ xs) = ⊥
  Say (y ∷ ys) [] = ⊥
  Say (y ∷ ys) (x ∷ xs) = C y x × Say ys xs

  -- so what stands for something does as a list of one
  says_listed : (o : Option Y) (x : Option X) → SaysOption C o x → Say (listed o) (listed x)
  says_listed o x says = grind arith

  -- and claims that stand for one at most are one at most
  listed_says : (ys : List Y) (x : Option X) → Say ys (listed x) → (o : Option Y) × (ys ≡ listed o) × SaysOption C o x
  listed_says [] None says = (None, refl, tt)
  listed_says [] (Some x) says = absurd says
  listed_says (y ∷ ys) None says = absurd says
  listed_says (y ∷ []) (Some x) says = (Some y, refl, says.0)
  listed_says (y ∷ z ∷ ys) (Some x) says = absurd says.1

module _ {X Y : Type 0} (G : AddressFamily → Grammar Y) (C : Y → X → Type 0) where
  -- the claims of a family, as those that they stand for
  abbrev Stands : AddressFamily → Grammar X
  Stands family = Refines (G family) C

  -- members with the claims that theirs stand for; where there were some, there are some
  members_said : (members : List (AddressFamily × Y)) (content : List ℕ) (v4 v6 : List X)
      → Each (IsMember G) content members → Say C (claims_among Ipv4 members) v4 → Say C (claims_among Ipv6 members) v6
      → (others : List (AddressFamily × X)) × Each (IsMember Stands) content others × (claims_among Ipv4 others ≡ v4)
      × (claims_among Ipv6 others ≡ v6) × (members ≢ [] → others ≢ [])
  members_said [] content v4 v6 all first second = ([], all, grind arith, grind arith, grind arith)
  members_said ((Ipv4, y) ∷ members) content [] v6 all first second = absurd first
  members_said ((Ipv6, y) ∷ members) content v4 [] all first second = absurd second
  members_said ((Ipv4, y) ∷ members) content (x ∷ v4) v6 (rest, found, all) one other =
      let (others, each, first, second, some) = members_said members rest v4 v6 all one.1 other in
      ((Ipv4, x) ∷ others, grind arith, cc, second, grind arith)
  members_said ((Ipv6, y) ∷ members) content v4 (x ∷ v6) (rest, found, all) one other =
      let (others, each, first, second, some) = members_said members rest v4 v6 all one other.1 in
      ((Ipv6, x) ∷ others, grind arith, first, cc, grind arith)

  -- families that stand for others are families with those claims
  pub stands_for : (bytes : List ℕ) (fs : ByFamily X) → Refines (IsFamilies G) (SaysByFamily C) bytes fs
      → IsFamilies Stands bytes fs
  stands_for bytes fs (found, (content, is, (members, all, some, gathered)), says) =
      let v4 = says_listed C found.0 fs.0 says.0 in
      let v6 = says_listed C found.1 fs.1 says.1 in
      let t =
      members_said members content (listed fs.0) (listed fs.1) all (rw (gathered Ipv4) v4)
      (rw (gathered Ipv6) v6) in
      (content, is, (t.0, t.1, t.4 some, elim [ Ipv4 ↦ t.2 | Ipv6 ↦ t.3 ]))

  -- members whose claims stand for those of these
  found : (others : List (AddressFamily × X)) (content : List ℕ) → Each (IsMember Stands) content others
      → (members : List (AddressFamily × Y)) × Each (IsMember G) content members
      × Say C (claims_among Ipv4 members) (claims_among Ipv4 others)
      × Say C (claims_among Ipv6 members) (claims_among Ipv6 others) × (others ≢ [] → members ≢ [])
  found [] content all = ([], all, tt, tt, grind arith)
  found ((family, x) ∷ others) content (rest, (front, (inner, is, (after, at, (y, claim, says))), split), all) =
      let (members, each, first, second, some) = found others rest all in
      ((family, y) ∷ members, grind arith, grind arith, grind arith, grind arith)

  -- and families with claims that others stand for are what those families stand for
  pub stood_for : (bytes : List ℕ) (fs : ByFamily X) → IsFamilies Stands bytes fs
      → Refines (IsFamilies G) (SaysByFamily C) bytes fs
  stood_for bytes fs (content, is, (others, all, some, gathered)) =
      let t = found others content all in
      let v4 = listed_says C (claims_among Ipv4 t.0) fs.0 (rw (gathered Ipv4) at t.2) in
      let v6 = listed_says C (claims_among Ipv6 t.0) fs.1 (rw (gathered Ipv6) at t.3) in
      ((v4.0, v6.0), (content, is, (t.0, t.1, t.4 some, elim [ Ipv4 ↦ v4.1 | Ipv6 ↦ v6.1 ])), (v4.2, v6.2))

  -- octets begin with at most one SEQUENCE of families, which have one claim each
  pub one_families : (claim_at : AddressFamily → Reading Y)
      → ((family : AddressFamily) → IsReading (G family) (claim_at family))
      → ((y : Y) (a b : X) → C y a → C y b → a ≡ b) → OneFront (IsFamilies Stands)
  one_families claim_at reading one a b x y r s is also =
      let of_found = one_front_said (IsFamilies G) (SaysByFamily C) _ (families_reading G claim_at reading) in
      of_found (one_by_family C one) a b x y r s (stood_for a x is) (stood_for b y also)
