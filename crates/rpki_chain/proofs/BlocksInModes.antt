-- Sets and resources of blocks in either mode: strictly, the octets are those that are written of them.
use Rattle.rpki_chain.proofs.Common.{Bool, List, None, Ok, Option, Result, Some, [], arith, length, refl, true, ℕ, ◌<◌}
use Rattle.rpki_chain.proofs.Common.{◌^◌, ◌∷◌, ◌≡◌, ◌≢◌, All, ⊤, IsSequenceFrom, Covers, IsChain, EachFrom, Where}
use Rattle.rpki_chain.proofs.Common.{IsModal, IsReading, DerError, IsBlockSet, IsChoiceOf, ListsBy, MatchChoice, Claim}
use Rattle.rpki_chain.proofs.Common.{IsRunsOfBlocks, Runs, ResourcesChoice, Blocks, Inherit, Missing, choice_at}
use Rattle.rpki_der.proofs.ValueLists.{HasOctets}
use Rattle.rpki_der.proofs.WrittenValues.{value_is}
use Rattle.rpki_der.specs.Der.{Each}
use Rattle.rpki_der.specs.Reading.{refined, tagged_at}
use Rattle.rpki_der.specs.Views.{is_strict, left}
use Rattle.rpki_der.specs.declared.cursor.Cursor.{Cursor}
use Rattle.rpki_der.specs.SequenceReading.{IsSequenceOf, sequence_from, values_from, values_of}
use Rattle.rpki_der.specs.SequenceWriting.{sequence_octets}
use Rattle.rpki_der.proofs.SequenceModes.{strict_values_check, values_stateless, values_tighten}
use Rattle.rpki_der.proofs.SequenceReadings.{sequence_reading, values_check}
use Rattle.rpki_der.proofs.SequenceWriting.{content_shorter}
use Rattle.rpki_der.proofs.SaidInModes.{IsSaidInModes, ordered_modal, strictly_found}
use Rattle.rpki_block.specs.Beyond.{IsBeyond}
use Rattle.rpki_chain.specs.ChoiceDer.{choice_octets}
use Rattle.rpki_chain.specs.Claims.{IsClaim}
use Rattle.rpki_chain.proofs.AscendingDer.{IsWritten, listed_chain, no_numbers, set_spelled, spelled_set, taken_chain}
use Rattle.rpki_chain.proofs.ChoiceReadings.{choice_modal, choice_reading, has_numbers}
use Rattle.rpki_chain.proofs.ClaimLemmas.{lists_one}
use Rattle.rpki_chain.proofs.RunLists.{IsRunsOf-unique}

-- Leniently blocks of G are found, strictly those of W, each behind the one before. P holds of the sets of such blocks.
pub record AreBlocksInModes {B : Type 0} (f : B → ℕ × ℕ) (form : ℕ × ℕ → B) (octets : B → List ℕ) (last : ℕ)
    (Fits : ℕ × ℕ → Type 0) (P : Runs → Type 0) (G W : List ℕ → B → Type 0)
    (reading : List ℕ → Result (B × List ℕ) DerError)
    (by : Bool → Option ℕ → List ℕ → Result (B × List ℕ) DerError) : Type 0 where
  pub lenient : IsReading G reading
  pub has_octets : HasOctets G
  pub modal : (before : Option ℕ)
      → IsModal (Where W (λ x. IsBeyond before (f x).0)) reading (λ strict. by strict before)
  pub looser : (bytes : List ℕ) (x : B) → W bytes x → G bytes x
  pub written : IsWritten f form octets last Fits W
  pub fitting : (set : Runs) → IsBlockSet 0 last set → All Fits set → P set
  pub fits : (set : Runs) → P set → IsBlockSet 0 last set × All Fits set

module _ {B : Type 0} {f : B → ℕ × ℕ} {form : ℕ × ℕ → B} {octets : B → List ℕ} {last : ℕ} {Fits : ℕ × ℕ → Type 0}
    {P : Runs → Type 0} {G W : List ℕ → B → Type 0} {reading : List ℕ → Result (B × List ℕ) DerError}
    {by : Bool → Option ℕ → List ℕ → Result (B × List ℕ) DerError}
    (is : AreBlocksInModes f form octets last Fits P G W reading by) where
  -- the greatest number of the block before, and a block behind it
  abbrev Next : Option ℕ → B → Option ℕ
  Next before x = Some (f x).1

  abbrev Behind : Option ℕ → List ℕ → B → Type 0
  Behind before = Where W (λ x. IsBeyond before (f x).0)

  -- what is written of a set
  abbrev written_set : Runs → List ℕ
  written_set = sequence_octets (λ b. octets (form b))

  -- ---- sets

  -- blocks that are found strictly are found leniently
  each_looser : (before : Option ℕ) (bytes : List ℕ) (xs : List B) → EachFrom Next Behind before bytes xs
      → Each G bytes xs
  each_looser before bytes [] none = none
  each_looser before bytes (x ∷ xs) (rest, (front, (w, beyond), split), more) =
      (rest, (front, is.looser front x w, split), each_looser (Some (f x).1) rest xs more)

  -- a SEQUENCE of blocks stands for one set
  pub set_said : IsSaidInModes (IsSequenceOf G) (IsSequenceFrom Next Behind None) (IsRunsOfBlocks f) P written_set
      (refined (tagged_at 48) (values_of reading)) (λ strict. sequence_from Next (by strict) None)
  set_said = record {
    lenient = sequence_reading (λ (state : Unit {0}) (x : B). state) (λ state. G) (λ state. reading)
        (λ state. is.lenient) (λ state. is.has_octets) tt;
    modal = ordered_modal Next G Behind reading by is.lenient is.has_octets is.modal None;
    looser = λ bytes xs (content, at, each). (content, at, each_looser None content xs each);
    one = λ xs a b. IsRunsOf-unique (Covers f xs) a b;
    spelled = λ bytes xs set found says. (
        let spelled = set_spelled f form octets last Fits W is.written bytes set (xs, found, says) in
        (is.fitting set spelled.0.0 spelled.0.1, spelled.1));
    says = λ set p short. spelled_set f form octets last Fits W is.written (written_set set) set
        (content_shorter _ short) (is.fits set p, refl);
  }

  -- strictly, its blocks are a chain
  pub chain_read : (old : Cursor) (xs : List B) (rest : List ℕ) → is_strict old ≡ true
      → sequence_from Next (by (is_strict old)) None (left old) ≡ Ok (xs, rest) → IsChain f form xs
  chain_read old xs rest strict read = grind (arith, set_said, strictly_found, taken_chain)

  -- ---- resources

  -- a claim that has octets
  abbrev IsPresent : Claim → Type 0
  IsPresent claim = IsClaim P claim × (claim ≢ Missing)

  -- blocks of which one is taken stand for a set that isn't empty, and those of such a set are some
  some_numbers : (content : List ℕ) (xs : List B) (set : Runs) → EachFrom Next Behind None content xs → xs ≢ []
      → IsRunsOfBlocks f xs set → set ≢ []
  some_numbers content [] set each some says = absurd (some refl)
  some_numbers content (x ∷ xs) set (rest, (front, (w, beyond), split), more) some says =
      has_numbers f (x ∷ xs) set some (λ d any. is.written.ordered front x w) says

  some_blocks : (xs : List B) (set : Runs) → IsRunsOfBlocks f xs set → set ≢ [] → xs ≢ []
  some_blocks xs set says some none = some (no_numbers f set (rw none at says))

  choice_spelled : (bytes : List ℕ) (choice : ResourcesChoice (List B)) (claim : Claim)
      → IsChoiceOf (IsSequenceFrom Next Behind None) bytes choice → ListsBy (IsRunsOfBlocks f) choice claim
      → IsPresent claim × (bytes ≡ choice_octets written_set claim)
  choice_spelled bytes Missing claim found lists = absurd found
  choice_spelled bytes Inherit claim found lists = rw lists ((tt, λ e. cc), found.spelled)
  choice_spelled bytes (Blocks xs) claim (found, some) (set, says, same) =
      let spelled = set_said.spelled bytes xs set found says in
      rw same (((spelled.0, some_numbers found.0 xs set found.2 some says), λ e. cc), spelled.1)

  choice_says : (claim : Claim) → IsClaim P claim → claim ≢ Missing → length (choice_octets written_set claim) < 2 ^ 64
      → (choice : ResourcesChoice (List B))
      × IsChoiceOf (IsSequenceFrom Next Behind None) (choice_octets written_set claim) choice
      × ListsBy (IsRunsOfBlocks f) choice claim
  choice_says Missing p present short = absurd (present refl)
  choice_says Inherit p present short = (Inherit, value_is 5 [] (omega arith) (omega arith), refl)
  choice_says (Blocks set) (p, some) present short =
      let found = set_said.says set p short in
      (Blocks found.0, (found.1, some_blocks found.0 set found.2 some), (set, found.2, refl))

  choice_modes : IsModal (IsChoiceOf (IsSequenceFrom Next Behind None)) (choice_at (values_of reading))
      (λ strict. choice_at (values_from Next (by strict) None))
  choice_modes =
      let strictly = strict_values_check Next (λ before. G) Behind (λ before. reading) by (λ before. is.lenient)
      (λ before. is.has_octets) is.modal None in
      rw (← values_stateless Next reading None)
      (choice_modal (EachFrom Next Behind None) (values_from Next (λ before. reading) None)
      (λ strict. values_from Next (by strict) None) strictly (λ strict.
      values_tighten strict Next (by strict) (λ before. reading) (λ before. (is.modal before).tightens strict) None))

  -- a NULL, or such a SEQUENCE of one block at least, stands for one claim
  pub choice_said : IsSaidInModes (IsChoiceOf (IsSequenceOf G)) (IsChoiceOf (IsSequenceFrom Next Behind None))
      (ListsBy (IsRunsOfBlocks f)) IsPresent (choice_octets written_set) (choice_at (values_of reading))
      (λ strict. choice_at (values_from Next (by strict) None))
  choice_said = record {
    lenient = choice_reading (Each G) (values_of reading)
        (values_check (λ (state : Unit {0}) (x : B). state) (λ state. G) (λ state. reading) (λ state. is.lenient)
        (λ state. is.has_octets) tt);
    modal = choice_modes;
    looser = λ bytes choice found. grind (arith, set_said.looser);
    one = lists_one (IsRunsOfBlocks f) (λ xs a b. IsRunsOf-unique (Covers f xs) a b);
    spelled = choice_spelled;
    says = λ claim (p, present). choice_says claim p present;
  }

  -- strictly, what is listed is a chain
  pub chain_listed : (old : Cursor) (choice : ResourcesChoice (List B)) (rest : List ℕ) → is_strict old ≡ true
      → choice_at (values_from Next (by (is_strict old)) None) (left old) ≡ Ok (choice, rest)
      → MatchChoice choice ⊤ ⊤ (IsChain f form)
  chain_listed old choice rest strict read =
      let found = strictly_found choice_said old choice rest strict read in
      listed_chain f form octets last Fits W is.written found.0 choice found.1
