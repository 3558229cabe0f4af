-- Lists that are written: they are values of the grammar, and no two lists are written alike, also in a SEQUENCE.
use Rattle.rpki_der.proofs.Common.{List, [], arith, length, refl, ℕ, ◌++◌, ◌<◌, ◌^◌, ◌∷◌, ◌≡◌, cases_lt, drop_at}
use Rattle.rpki_der.proofs.Common.{length-append, AllByRecursion, Each, header, length_octets, octets, sequence_value}
use Rattle.rpki_der.proofs.Common.{IsReading, octets_of_all, Grammar, Reading, le-ltb, lt-ltb}
use Rattle.rpki_der.proofs.ValueProofs.{HasOctets, each_again}

-- a SEQUENCE is longer than what is in it
pub content_shorter : (content : List ℕ) → length (sequence_value content) < 2 ^ 64 → length content < 2 ^ 64
content_shorter content short = grind (arith, length-append)

module _ {X : Type 0} (G : Grammar X) (octets : X → List ℕ) where
  -- values that are written one after another are such values
  pub each_written : (xs : List X) → AllByRecursion (λ x. G (octets x) x) xs → Each G (octets_of_all octets xs) xs
  each_written [] all = refl
  each_written (x ∷ xs) all = (octets_of_all octets xs, (octets x, all.0, refl), each_written xs all.1)

  -- lists that are written alike are one
  pub written_alike : (reading : Reading X) → IsReading G reading → HasOctets G → (xs ys : List X)
      → AllByRecursion (λ x. G (octets x) x) xs → AllByRecursion (λ x. G (octets x) x) ys
      → octets_of_all octets xs ≡ octets_of_all octets ys → xs ≡ ys
  written_alike reading is has xs ys all also same =
      let next : Unit {0} → X → Unit {0} = λ state x. state in
      let again = each_again next (λ _. G) (λ _. reading) (λ _. is) (λ _. has) in
      let steps = length (octets_of_all octets xs) in
      let first = again xs steps tt (octets_of_all octets xs) (omega arith) (each_written xs all) in
      let second = again ys steps tt (octets_of_all octets xs) (omega arith) (rw same (each_written ys also)) in
      cc

-- what follows the octets of a length is known by them, since the first tells how many others there are
after_length : (m n : ℕ) (xs ys : List ℕ) → length_octets m ++ xs ≡ length_octets n ++ ys → xs ≡ ys
unfolding length_octets
after_length m n xs ys e =
    let first = drop_at (octets m) xs (length (octets m)) refl in
    let second = drop_at (octets n) ys (length (octets m)) in
    grind (arith, cases_lt m 128, cases_lt n 128, le-ltb, lt-ltb, first, second)

-- SEQUENCEs that are written alike have one content
pub one_content : (xs ys : List ℕ) → sequence_value xs ≡ sequence_value ys → xs ≡ ys
unfolding header
one_content xs ys same = after_length (length xs) (length ys) xs ys cc
