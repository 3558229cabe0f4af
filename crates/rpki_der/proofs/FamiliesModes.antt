-- Families in either mode.
use Rattle.rpki_der.proofs.Common.{Bool, List, None, Option, Some, [], arith, refl, true, ℕ, ◌∷◌, ◌≡◌, ◌≢◌, append-nil}
use Rattle.rpki_der.proofs.Common.{EachFrom, IsSequence, Refines, IsModal, Tightens, AreInOrder, ByFamily}
use Rattle.rpki_der.proofs.Common.{IsFamiliesInOrder, families_at, families_by, families_in, families_in_by, member_at}
use Rattle.rpki_der.proofs.Common.{member_by, member_in, member_in_by, none_found, seen, AddressFamily, Ipv4, Ipv6}
use Rattle.rpki_der.proofs.Common.{Grammar, Reading, tagged_at}
use Rattle.rpki_der.proofs.ValueProofs.{content_reading, value_has_octets, bind_tightens, cond_tightens, each_tightens}
use Rattle.rpki_der.proofs.ValueProofs.{looked_tightens, passing_tightens, same_tightens}
use Rattle.rpki_der.proofs.FamiliesGathering.{behind, gather, members_are, members_check}
use Rattle.rpki_der.proofs.FamiliesMembers.{SaysNext, next_reading}

module _ {X : Type 0} (strict : Bool) (by claim_at : AddressFamily → Reading X)
    (tight : (family : AddressFamily) (bytes : List ℕ)
    → Tightens strict (by family bytes) (claim_at family bytes)) where
  -- a member
  pub member_tightens : (before : Bool × Bool) (bytes : List ℕ)
      → Tightens strict (member_by strict by before bytes) (member_at claim_at before bytes)
  unfolding member_in member_in_by
  member_tightens before =
      looked_tightens strict (tagged_at 48) _ _
      (λ content. grind (arith, bind_tightens, cond_tightens, passing_tightens))

  -- families
  pub families_tighten : (bytes : List ℕ) → Tightens strict (families_by strict by bytes) (families_at claim_at bytes)
  unfolding families_in families_in_by
  families_tighten =
      looked_tightens strict (tagged_at 48) _ _ (λ content. simp members_are
      (search (bind_tightens, cond_tightens, same_tightens, each_tightens, member_tightens)))

-- ---- strictly

module _ {X : Type 0} (S : AddressFamily → Grammar X) where
  abbrev Next : ByFamily X → Grammar (AddressFamily × X)
  Next before = Refines IsSequence (SaysNext S (seen before))

  -- members, of which none stands behind IPv6, and none behind IPv4 but of IPv6
  in_order : (members : List (AddressFamily × X)) (content : List ℕ) → EachFrom behind Next none_found content members
      → members ≢ [] → AreInOrder S content (gather none_found members).0 (gather none_found members).1
  in_order [] content all some = absurd (some refl)
  in_order (m ∷ []) content all some = grind (arith, append-nil)
  in_order ((Ipv4, x) ∷ (Ipv6, y) ∷ []) content all some = grind (arith, append-nil)
  in_order (m ∷ n ∷ members) content all some = absurd (grind arith)

  -- and such members are there
  order_of : (v4 v6 : Option X) (content : List ℕ) → AreInOrder S content v4 v6
      → (members : List (AddressFamily × X)) × EachFrom behind Next none_found content members × (members ≢ [])
      × (gather none_found members ≡ (v4, v6))
  order_of None None content are = absurd are
  order_of (Some x) None content are = ((Ipv4, x) ∷ [], grind (arith, append-nil), grind arith, grind arith)
  order_of None (Some y) content are = ((Ipv6, y) ∷ [], grind (arith, append-nil), grind arith, grind arith)
  order_of (Some x) (Some y) content are =
      ((Ipv4, x) ∷ (Ipv6, y) ∷ [], grind (arith, append-nil), grind arith, grind arith)

-- a SEQUENCE of families
pub families_modal : {X : Type 0} (S : AddressFamily → Grammar X) (reading : AddressFamily → Reading X)
    (by : Bool → AddressFamily → Reading X)
    → ((family : AddressFamily) → IsModal (S family) (reading family) (λ strict. by strict family))
    → IsModal (IsFamiliesInOrder S) (families_at reading) (λ strict. families_by strict (by strict))
unfolding families_in_by
families_modal S reading by is =
    let check = members_check (member_by true (by true)) (Next S)
    (λ found. next_reading S (by true) (λ family. (is family).tight) (seen found))
    (λ found front member at. value_has_octets front 48 at.0 at.1) in
    record {
      tight = content_reading 48 (λ content fs. AreInOrder S content fs.0 fs.1) _ (record {
        takes = λ content fs fits e.
            let (members, all, some, same) = check.takes content fs fits e in
            rw same at (in_order S members content all some);
        again = λ content fs are. check.again content fs (order_of S fs.0 fs.1 content are);
      });
      tightens = λ strict. families_tighten strict (by strict) reading (λ family. (is family).tightens strict);
    }
