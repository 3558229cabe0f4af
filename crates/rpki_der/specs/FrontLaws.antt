-- Lemmas: a value at the front of octets, and the octets after it, decide whether all of the octets are a value.
use Rattle.std.proofs.Common.{◌≢◌, ℕ, List, [], sym, subst, ◌∙◌}
use Rattle.std.proofs.lemmas.List.{append-nil}
use Rattle.rpki_der.specs.Der.{Front, HasNone, NoFront, OneFront}

module _ {X : Type 0} (G : List ℕ → X → Type 0) (octets : List ℕ) where
  -- no octet is left after the value
  pub whole_value : (x : X) → Front G octets x [] → G octets x
  whole_value x front = subst (λ bytes. G bytes x) (sym (front.2 ∙ append-nil front.0)) front.1

  -- no value is at the front
  pub none_where_no_front : NoFront G octets → HasNone G octets
  none_where_no_front none y is = none y [] (octets, is, sym (append-nil octets))

  -- octets are left after the value
  pub none_where_more : OneFront G → (x : X) (rest : List ℕ) → Front G octets x rest → rest ≢ [] → HasNone G octets
  none_where_more one x rest front some y is =
      some (one front.0 octets x y rest [] front.1 is (sym front.2 ∙ sym (append-nil octets))).2
