-- Members to the end of the octets: what is found is what stands there, each family once.
use Rattle.rpki_der.proofs.Common.{Bool, List, Ok, Option, Result, Err, [], arith, cond, eqb, false, length, refl, suc}
use Rattle.rpki_der.proofs.Common.{zero, ℕ, ◌++◌, ◌∙◌, ◌↔◌, ◌∷◌, ◌≡◌, ◌≢◌, append-nil, IfSome, Each, EachFrom, IsBytes}
use Rattle.rpki_der.proofs.Common.{IsSequence, Refines, IsReading, DerError, NoFamily, each_from, ◌>>=◌, sym, ByFamily}
use Rattle.rpki_der.proofs.Common.{IsFamilies, IsMember, SaysFamilies, claims_among, listed, of_family, families_at}
use Rattle.rpki_der.proofs.Common.{families_in, member_at, members_by, none_found, seen, was_seen, with_claim}
use Rattle.rpki_der.proofs.Common.{AddressFamily, Ipv4, Ipv6, Grammar, Reading, nil_from_length}
use Rattle.rpki_der.proofs.ValueProofs.{content_reading, HasOctets, each_again, each_takes, value_has_octets, bind_ok}
use Rattle.rpki_der.proofs.ValueProofs.{ok_is, passed, IsCheck, each-nil}
use Rattle.rpki_der.proofs.SequenceReadings.{same_check}
use Rattle.rpki_der.proofs.FamiliesMembers.{SaysNew, member_reading}

-- what was found before and what these members have is all
abbrev pub Adds : {X : Type 0} → ByFamily X → List (AddressFamily × X) → ByFamily X → Type 0
Adds before members fs =
    (family : AddressFamily)
    → listed (of_family family before) ++ claims_among family members ≡ listed (of_family family fs)

module _ {X : Type 0} where
  -- a claim more, which is new to its family
  one_more : (before : ByFamily X) (family : AddressFamily) (x : X) (members : List (AddressFamily × X))
      (fs : ByFamily X) → Adds before ((family, x) ∷ members) fs
      ↔ ((was_seen (seen before) family ≡ false) × Adds (with_claim before family x) members fs)
  one_more before family x members fs = ((λ adds. grind (arith, adds Ipv4, adds Ipv6)), λ (new, adds). grind arith)

-- what was found with a member more, and with members more
abbrev pub behind : {X : Type 0} → ByFamily X → AddressFamily × X → ByFamily X
behind found member = with_claim found member.0 member.1

abbrev pub gather : {X : Type 0} → ByFamily X → List (AddressFamily × X) → ByFamily X
gather found [] = found
gather found (member ∷ members) = gather (behind found member) members

-- two steps behind another are one
bind_twice : {A B Z : Type 0} (r : Result A DerError) (f : A → Result B DerError) (g : B → Result Z DerError)
    → ((r >>= f) >>= g) ≡ (r >>= λ x. f x >>= g)
bind_twice r f g = grind arith

-- members that are gathered, one at least, each of the grammar of what was found before it
abbrev pub SaysMembers : {X : Type 0} → (ByFamily X → Grammar (AddressFamily × X)) → Grammar (ByFamily X)
SaysMembers {X} G content fs =
    (members : List (AddressFamily × X)) × EachFrom behind G none_found content members × (members ≢ [])
    × (gather none_found members ≡ fs)

-- members are values one after another, each in the state of what was found before, which are then gathered
module _ {X : Type 0} (member : Bool × Bool → Reading (AddressFamily × X)) where
  pub members_are : (steps : ℕ) (found : ByFamily X) (bytes : List ℕ)
      → members_by member steps found bytes
      ≡ (each_from behind steps (λ found. member (seen found)) found bytes >>= λ members. Ok (gather found members))
  unfolding members_by each_from
  members_are zero found bytes = grind arith
  members_are (suc steps) found [] = refl
  members_are (suc steps) found (b ∷ bytes) = simp (members_are steps, bind_twice)

  module _ (G : ByFamily X → Grammar (AddressFamily × X))
      (is : (found : ByFamily X) → IsReading (G found) (member (seen found)))
      (has : (found : ByFamily X) → HasOctets (G found)) where
    pub members_check : IsCheck IsBytes (SaysMembers G)
        (λ content. cond (eqb (length content) 0) (Err NoFamily)
        (members_by member (length content) none_found content))
    members_check = record {
      takes = λ content fs fits e.
          let (some, whole) = passed (eqb (length content) 0) NoFamily _ fs e in
          let (members, read, same) = bind_ok _ _ fs (sym (members_are (length content) none_found content) ∙ whole) in
          let all = each_takes behind G _ is (length content) none_found content members fits read in
          (members, all, (λ none. grind arith), ok_is (gather none_found members) fs same);
      again = λ content fs (members, all, some, same).
          let read = each_again behind G _ is has members (length content) none_found content (omega arith) all in
          grind (arith, members_are (length content) none_found content, nil_from_length content, each-nil);
    }

module _ {X : Type 0} (G : AddressFamily → Grammar X) where
  -- members that are each new to those before them are members of which each family has one
  abbrev New : ByFamily X → Grammar (AddressFamily × X)
  New before = Refines IsSequence (SaysNew G (seen before))

  each_of_new : (members : List (AddressFamily × X)) (before : ByFamily X) (content : List ℕ) (fs : ByFamily X)
      → (EachFrom behind New before content members × (gather before members ≡ fs))
      ↔ (Each (IsMember G) content members × Adds before members fs)
  each_of_new [] before content fs =
      ((λ all. grind (arith, append-nil)), λ (all, adds). grind (arith, append-nil, adds Ipv4, adds Ipv6))
  each_of_new (m ∷ members) before content fs =
      let others = λ (rest : List ℕ). each_of_new members (behind before m) rest fs in
      grind (arith, one_more before m.0 m.1 members fs, others)

  families_are : (content : List ℕ) (fs : ByFamily X) → SaysMembers New content fs ↔ SaysFamilies G content fs
  families_are content fs = (
    (λ (members, all, some, same). grind (arith, each_of_new members none_found content fs)),
    λ (members, all, some, gathered). grind (arith, each_of_new members none_found content fs),
  )

  -- a SEQUENCE of families
  pub families_reading : (claim_at : AddressFamily → Reading X)
      → ((family : AddressFamily) → IsReading (G family) (claim_at family))
      → IsReading (IsFamilies G) (families_at claim_at)
  unfolding families_in
  families_reading claim_at is =
      content_reading 48 (SaysFamilies G) (families_in claim_at)
      (same_check IsBytes (SaysMembers New) (SaysFamilies G) (families_in claim_at) families_are
      (members_check (member_at claim_at) New (λ found. member_reading G claim_at is (seen found))
      (λ found front member at. value_has_octets front 48 at.0 at.1)))

module _ {X : Type 0} (G : AddressFamily → Grammar X) where
  -- some octets are this claim of the family
  abbrev pub IsThere : AddressFamily → X → Type 0
  IsThere family x = (bytes : List ℕ) × G family bytes x

  -- the claims of a family stand in its members, and so does what they gather
  claims_there : (family : AddressFamily) (o : Option X) (members : List (AddressFamily × X)) (content : List ℕ)
      → Each (IsMember G) content members → claims_among family members ≡ listed o → IfSome o (IsThere family)
  claims_there family o [] content all same = grind arith
  claims_there family o (m ∷ members) content all same = grind (arith, claims_there family o members)

  pub each_there : (family : AddressFamily) (bytes : List ℕ) (fs : ByFamily X) → IsFamilies G bytes fs
      → IfSome (of_family family fs) (IsThere family)
  each_there family bytes fs (content, is, (members, all, some, gathered)) =
      claims_there family (of_family family fs) members content all (gathered family)
