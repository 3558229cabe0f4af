-- Lemmas on octets that must hold one value. A call reads the value at the front, and checks that no octet is left.
use Rattle.respath_lines.proofs.Common.{Err, List, MatchResult, Ok, Result, [], arith, length, refl, subst, ℕ, ◌∷◌, ◌≡◌}
use Rattle.respath_lines.proofs.Common.{◌≢◌, ne_eqb, fault_text, IfRefused, OrMemory, Memory, Refused, IsHexadecimal}
use Rattle.respath_lines.proofs.Common.{HasFault, IsEnded, ShowsHexadecimal, ShowsOctets, ShowsResult, Some, OneFront}
use Rattle.respath_lines.proofs.Common.{DerError}
use Rattle.rpki_der.specs.FrontLaws.{none_where_more, none_where_no_front, whole_value}
use Rattle.rpki_der.specs.Views.{left}
use Rattle.rpki_der.specs.declared.cursor.Cursor.{Cursor}
use Rattle.rpki_der.specs.declared.error.DerError.TheVariants.{TrailingData}
use Rattle.rpki_der.specs.SequenceReading.{only}
use Rattle.rpki_der.specs.SequenceViews.{ReadsOrMemory, TakesSaidOrMemory}
use Rattle.respath_lines.proofs.HexadecimalLemmas.{one_octets}

module _ {X Y : Type 0} (G : List ℕ → X → Type 0) (reading : List ℕ → Result (Y × List ℕ) DerError) where
  -- octets after a value are a fault of the whole octets: trailing data
  only_more : (octets rest : List ℕ) (y : Y) → reading octets ≡ Ok (y, rest) → rest ≢ []
      → only reading octets ≡ Err TrailingData
  unfolding only
  only_more octets [] y e some = absurd (some refl)
  only_more octets (b ∷ rest) y e some = rw (e, ne_eqb (length (b ∷ rest)) 0 (λ none. omega (arith, none))) refl

  -- the value at the front and the check of the end give the value or the fault of the whole octets
  pub ended_take : (C : Y → X → Type 0) → OneFront G → (old new : Cursor) (taken : Result X (OrMemory DerError))
      → ReadsOrMemory G (λ x. x) old new taken → TakesSaidOrMemory C old new taken reading
      → (answer : Result X (OrMemory DerError)) → IsEnded taken (left new) answer
      → MatchResult answer (G (left old)) (IfRefused (HasFault G reading (left old)))
  unfolding only
  ended_take C one old new (Ok x) reads took (Ok y) (same, nothing) =
      rw same (whole_value G (left old) x (rw nothing at reads))
  ended_take C one old new (Ok x) reads took (Err (Refused fault)) (more, trailing) =
      rw trailing
      (none_where_more G (left old) one x (left new) reads more, only_more (left old) (left new) took.0 took.1 more)
  ended_take C one old new (Ok x) reads took (Err (Memory error)) impossible = absurd impossible
  ended_take C one old new (Err (Refused fault)) reads took answer is =
      rw is (none_where_no_front G (left old) reads.0, rw took.0 refl)
  ended_take C one old new (Err (Memory error)) reads took answer is = rw is tt

  module _ (value_text : X → List ℕ) where
    -- what is shown of the value that octets are, or of their first fault
    pub shows_octets : (octets : List ℕ) (found : Result X (OrMemory DerError))
        → MatchResult found (G octets) (IfRefused (HasFault G reading octets)) → (answer : List ℕ)
        → ShowsResult (λ value. Some (value_text value)) (λ fault. Some (fault_text fault)) found answer
        → ShowsOctets G reading value_text octets answer
    shows_octets octets found is answer shows = grind (arith)

    -- what is shown of the octets that a text writes is what is shown of the text
    pub shows_text : (text octets answer : List ℕ) → IsHexadecimal text octets
        → ShowsOctets G reading value_text octets answer → ShowsHexadecimal G reading value_text text answer
    shows_text text octets answer writes shows = record {
      octets =
          λ others also.
          subst (λ bytes. ShowsOctets G reading value_text bytes answer) (one_octets text octets others writes also)
          shows;
      none = λ no. absurd (no octets writes);
    }
