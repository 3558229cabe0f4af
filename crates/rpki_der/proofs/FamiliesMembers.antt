-- A member that is read is one of a family that wasn't there before, and each such member is read; strictly, of those
-- that stand in order.
use Rattle.rpki_der.proofs.Common.{Bool, List, Ok, [], arith, false, true, ◌↔◌, ℕ, ◌≡◌, append-nil, IsBytes, IsSequence}
use Rattle.rpki_der.proofs.Common.{Refines, IsReading, passing, SaysMember, is_in_order, member_at, member_by}
use Rattle.rpki_der.proofs.Common.{member_in, member_in_by, was_seen, IsFamilyDer, family_at, AddressFamily, Grammar}
use Rattle.rpki_der.proofs.Common.{Reading}
use Rattle.rpki_der.proofs.ValueProofs.{content_reading, fits_rest, bind_ok, ok_is, passed, IsCheck}
use Rattle.rpki_der.proofs.SequenceReadings.{ended_is}
use Rattle.rpki_der.proofs.FamilyDerLemmas.{family_reading}

-- a member of a family that wasn't there before
abbrev pub SaysNew : {X : Type 0} → (AddressFamily → Grammar X) → Bool × Bool → Grammar (AddressFamily × X)
SaysNew G before content member = SaysMember G content member × (was_seen before member.0 ≡ false)

-- and one that doesn't stand behind IPv6, if it is of IPv4
abbrev pub SaysNext : {X : Type 0} → (AddressFamily → Grammar X) → Bool × Bool → Grammar (AddressFamily × X)
SaysNext G before content member = SaysNew G before content member × (is_in_order before member.0 ≡ true)

module _ {X : Type 0} (G : AddressFamily → Grammar X) (claim_at : AddressFamily → Reading X)
    (is : (family : AddressFamily) → IsReading (G family) (claim_at family)) where
  -- what the content of a member says
  member_check : (before : Bool × Bool) → IsCheck IsBytes (SaysNew G before) (member_in claim_at before)
  unfolding member_in
  member_check before = record {
    takes = λ content member fits e.
        let ((family, behind), read, more) = bind_ok (family_at content) _ member e in
        let (new, claimed) = passed (was_seen before family) _ _ member more in
        let ((claim, end), also, none) = bind_ok (claim_at family behind) _ member claimed in
        let first = family_reading.takes content family behind fits read in
        let second = (is family).takes behind claim end (fits_rest IsFamilyDer content family behind first fits) also in
        grind (arith, append-nil, ended_is, ok_is);
    again = λ content member ((rest, first, second), new).
        let read = family_reading.again first.0 member.0 rest first.1 in
        grind (arith, append-nil, (is member.0).again rest member.1 [] second);
  }

  -- a SEQUENCE of a family that wasn't there before and its claim
  pub member_reading : (before : Bool × Bool)
      → IsReading (Refines IsSequence (SaysNew G before)) (member_at claim_at before)
  member_reading before = content_reading 48 (SaysNew G before) (member_in claim_at before) (member_check before)

  -- strictly, what stands in order is read, and nothing else
  in_order : (before : Bool × Bool) (content : List ℕ) (member : AddressFamily × X)
      → (member_in_by true claim_at before content ≡ Ok member)
      ↔ ((member_in claim_at before content ≡ Ok member) × (is_in_order before member.0 ≡ true))
  unfolding member_in member_in_by passing
  in_order before content member = grind (arith, bind_ok, ok_is, passed)

  pub next_reading : (before : Bool × Bool)
      → IsReading (Refines IsSequence (SaysNext G before)) (member_by true claim_at before)
  next_reading before =
      let check = member_check before in
      content_reading 48 (SaysNext G before) (member_in_by true claim_at before) (record {
        takes = λ content member fits e.
            let (read, ordered) = (in_order before content member).0 e in
            (check.takes content member fits read, ordered);
        again = λ content member says. grind (arith, in_order, check.again content member says.0);
      })
