-- Families of which each claim says something, in either mode: strictly, the octets are those that are written of them.
use Rattle.rpki_der.proofs.Common.{Bool, List, None, Option, Some, [], ap, arith, length, refl, ℕ, ◌++◌, ◌<◌, ◌^◌, ◌∙◌}
use Rattle.rpki_der.proofs.Common.{◌∷◌, ◌≡◌, ◌≢◌, append-nil, length-append, IfSome, sequence_value, AreInOrder}
use Rattle.rpki_der.proofs.Common.{ByFamily, IsFamilies, IsFamiliesInOrder, IsMember, SaysByFamily, SaysFamilies}
use Rattle.rpki_der.proofs.Common.{SaysOption, families_at, families_by, families_der, member_der, option_der}
use Rattle.rpki_der.proofs.Common.{AddressFamily, Ipv4, Ipv6, Grammar, Reading}
use Rattle.rpki_der.proofs.ValueProofs.{value_is}
use Rattle.rpki_der.proofs.FamiliesGathering.{families_reading}
use Rattle.rpki_der.proofs.FamiliesModes.{families_modal}
use Rattle.rpki_der.proofs.FamiliesSaid.{one_by_family}
use Rattle.rpki_der.proofs.SequenceWriting.{content_shorter}
use Rattle.rpki_der.proofs.FamilyDerLemmas.{family_written}
use Rattle.rpki_der.proofs.SaidInModes.{IsSaidInModes}

module _ {X Y : Type 0} (G S : AddressFamily → Grammar Y) (C : Y → X → Type 0)
    (P : AddressFamily → X → Type 0) (octets : X → List ℕ) (reading : AddressFamily → Reading Y)
    (by : Bool → AddressFamily → Reading Y)
    (is : (family : AddressFamily) → IsSaidInModes (G family) (S family) C (P family) octets (reading family)
    (λ strict. by strict family)) where
  -- claims of their family, one at least
  abbrev ArePresent : ByFamily X → Type 0
  ArePresent fs = IfSome fs.0 (P Ipv4) × IfSome fs.1 (P Ipv6) × (fs.0 ≡ None → fs.1 ≢ None)

  -- ---- members

  member_says : (family : AddressFamily) (x : X) → P family x → length (member_der octets family x) < 2 ^ 64
      → (y : Y) × IsMember S (member_der octets family x) (family, y) × C y x
  member_says family x p short =
      grind (arith, content_shorter, family_written, length-append, value_is, (is family).says x p)

  -- ---- in order

  in_order_spelled : (content : List ℕ) (y4 y6 : Option Y) (x4 x6 : Option X) → AreInOrder S content y4 y6
      → SaysOption C y4 x4 → SaysOption C y6 x6
      → ArePresent (x4, x6) × (content ≡ option_der octets Ipv4 x4 ++ option_der octets Ipv6 x6)
  in_order_spelled content y4 y6 x4 x6 are first second =
      grind (arith, append-nil, (is Ipv4).spelled, (is Ipv6).spelled)

  in_order_says : (x4 x6 : Option X) → ArePresent (x4, x6)
      → length (option_der octets Ipv4 x4 ++ option_der octets Ipv6 x6) < 2 ^ 64
      → (ys : ByFamily Y) × AreInOrder S (option_der octets Ipv4 x4 ++ option_der octets Ipv6 x6) ys.0 ys.1
      × SaysByFamily C ys (x4, x6)
  in_order_says None None are small = absurd (are.2 refl refl)
  in_order_says (Some x) None are small =
      let (y, one, says) = member_says Ipv4 x are.0 (rw append-nil at small) in
      ((Some y, None), rw append-nil one, grind arith)
  in_order_says None (Some x) are small =
      let (y, one, says) = member_says Ipv6 x are.1 small in ((None, Some y), one, grind arith)
  in_order_says (Some x) (Some w) are small =
      let parts = length-append (member_der octets Ipv4 x) (member_der octets Ipv6 w) in
      let (y, one, says) = member_says Ipv4 x are.0 (omega (arith, small, parts)) in
      let (z, other, tells) = member_says Ipv6 w are.1 (omega (arith, small, parts)) in
      ((Some y, Some z), grind arith, grind arith)

  in_order_looser : (content : List ℕ) (y4 y6 : Option Y) → AreInOrder S content y4 y6 → SaysFamilies G content (y4, y6)
  in_order_looser content None None are = absurd are
  in_order_looser content (Some y) None are =
      ((Ipv4, y) ∷ [], grind (arith, append-nil, (is Ipv4).looser), grind arith, grind arith)
  in_order_looser content None (Some y) are =
      ((Ipv6, y) ∷ [], grind (arith, append-nil, (is Ipv6).looser), grind arith, grind arith)
  in_order_looser content (Some y) (Some z) are =
      let looser = (is Ipv6).looser in
      ((Ipv4, y) ∷ (Ipv6, z) ∷ [], grind (arith, append-nil, (is Ipv4).looser, looser), grind arith, grind arith)

  -- ---- families

  pub families_said : IsSaidInModes (IsFamilies G) (IsFamiliesInOrder S) (SaysByFamily C) ArePresent
      (families_der octets) (families_at reading) (λ strict. families_by strict (by strict))
  families_said = record {
    lenient = families_reading G reading (λ family. (is family).lenient);
    modal = families_modal S reading by (λ family. (is family).modal);
    looser = λ bytes ys is. grind (arith, in_order_looser);
    one = one_by_family C (is Ipv4).one;
    spelled = λ bytes ys fs (content, at, are) says. (
        let spelled = in_order_spelled content ys.0 ys.1 fs.0 fs.1 are says.0 says.1 in
        (spelled.0, at.spelled ∙ ap sequence_value spelled.1));
    says = λ fs are short. (
        let small = content_shorter (option_der octets Ipv4 fs.0 ++ option_der octets Ipv6 fs.1) short in
        grind (arith, value_is, in_order_says fs.0 fs.1 are small));
  }
