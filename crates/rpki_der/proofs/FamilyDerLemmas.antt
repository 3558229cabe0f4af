-- Families in DER: what is read, what is written, and which faults are named.
use Rattle.rpki_der.proofs.Common.{List, Ok, Result, [], arith, get_or, length, ℕ, ◌∷◌, ◌≡◌, and_parts, eqb-true}
use Rattle.rpki_der.proofs.Common.{IsErrAnd, MatchResult, Refines, header, length_octets, Gives, IsReading, tagged_at}
use Rattle.rpki_der.proofs.Common.{DerError, IsFamilyDer, SaysFamily, family_at, family_der, family_of_octets}
use Rattle.rpki_der.proofs.Common.{AddressFamily, Skips, skipping, ◌++◌}
use Rattle.rpki_der.proofs.ValueProofs.{content_reading, IsTagged, same_reading, IsCheck, ok_is, ok_or_err, value_is}
use Rattle.rpki_der.proofs.SequenceReadings.{skips_reading}
use Rattle.rpki_der.proofs.SequenceFaults.{NamesTo, cond_names, header_names, refined_names}

-- ---- a fault under another name

-- a reading whose fault gets another name still answers what the rule says
pub renamed : {X Y E : Type 0} (Fits : X → Type 0) (C : X → Y → Type 0) (check : X → Result Y DerError) (x : X)
    (read : Result Y DerError) (named : Result Y E) (P : DerError → E → Type 0)
    → IsCheck Fits C check → Fits x → Gives (λ y. y) read (check x)
    → MatchResult read (λ y. named ≡ Ok y) (λ e. IsErrAnd named (P e))
    → MatchResult named (C x) (λ _. (y : Y) → C x y → ⊥)
renamed Fits C check x read named P is fits gives same = grind (arith, ok_or_err)

-- ---- families

-- two octets by their places
two : (content : List ℕ) (a b : ℕ) → length content ≡ 2 → get_or content 0 0 ≡ a → get_or content 1 0 ≡ b
    → content ≡ a ∷ b ∷ []
two (c ∷ d ∷ []) a b n x y = grind arith
two content a b n x y = absurd (grind arith)

-- what the two octets say
pub family_check : IsCheck (λ _. Unit {0}) SaysFamily family_of_octets
unfolding family_of_octets
family_check = record {
  takes = λ content f fits e. grind (arith, and_parts, eqb-true, two, ok_is);
  again = λ content f says. grind arith;
}

-- an OCTET STRING of a family
pub family_reading : IsReading IsFamilyDer family_at
family_reading =
    same_reading (Refines (IsTagged 4) SaysFamily) IsFamilyDer family_at (λ bytes f fits is. grind arith)
    (λ bytes f is. grind arith) (content_reading 4 SaysFamily family_of_octets (grind (arith, family_check)))

-- a family takes four octets
pub length_family : (family : AddressFamily) → length (family_der family) ≡ 4
unfolding header length_octets
length_family family = grind (arith)

-- the OCTET STRING of a family
pub family_written : (family : AddressFamily) → IsFamilyDer (family_der family) family
family_written family = grind (arith, value_is)

-- so what is written of a family is read, whatever follows it
pub family_again : (family : AddressFamily) (rest : List ℕ) → family_at (family_der family ++ rest) ≡ Ok (family, rest)
family_again family rest = family_reading.again (family_der family) family rest (family_written family)

-- and a family is passed over where it is read
pub family_skipped : IsReading (Skips IsFamilyDer) (skipping family_at)
family_skipped = skips_reading IsFamilyDer family_at family_reading

-- which fault is named
pub family_names : (bytes : List ℕ) → NamesTo 9 (family_at bytes)
unfolding family_of_octets
family_names =
    refined_names 9 (tagged_at 4) _ (header_names 9 4 (omega arith)) (λ content. grind (arith, cond_names, two))
