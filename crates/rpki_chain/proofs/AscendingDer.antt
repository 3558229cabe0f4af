-- Blocks that strict cursors take one after another: they are a chain, and the octets are what is written of their set.
use Rattle.rpki_chain.proofs.Common.{List, None, Option, Some, [], ap, arith, length, map, refl, subst, suc, sym, ℕ}
use Rattle.rpki_chain.proofs.Common.{◌+◌, ◌<◌, ◌^◌, ◌∙◌, ◌∷◌, ◌≡◌, ◌≤◌, All-cons, All-map, All-nil, All, AllPairs, ⊤}
use Rattle.rpki_chain.proofs.Common.{IsSequenceFrom, Covers-nil, IsChain-nil, Covers, IsChain, IsNew, EachFrom, Refines}
use Rattle.rpki_chain.proofs.Common.{Spells, Where, sequence_value, IsBlockChain, IsBlockSet, IsChoiceOf, ListsBy}
use Rattle.rpki_chain.proofs.Common.{MatchChoice, IsRunsOfBlocks, Runs, ResourcesChoice}
use Rattle.std.proofs.lemmas.List.Folds.{flat_map-map}
use Rattle.std.proofs.lemmas.List.Kept.{AllPairs-cons}
use Rattle.rpki_block.specs.Beyond.{IsBeyond}
use Rattle.rpki_der.proofs.WrittenValues.{value_is}
use Rattle.rpki_der.specs.SequenceWriting.{octets_of_all, sequence_octets}
use Rattle.rpki_chain.proofs.SetLawLemmas.{empty_set}
use Rattle.rpki_chain.proofs.RunLists.{IsRunsOf-unique, IsRunsOfBlocks-bounds}
use Rattle.rpki_chain.proofs.SetLemmas.{IsBlockSet-from_chain, made_again, made_of_set}

-- what is listed in such lists as were read is as what was read
pub listed_are : {X Y : Type 0} (items : Y → List X) (P : List X → Type 0) (read : ResourcesChoice (List X))
    (listed : ResourcesChoice Y) → ListsBy (λ xs l. items l ≡ xs) read listed → MatchChoice read ⊤ ⊤ P
    → MatchChoice listed ⊤ ⊤ (λ l. P (items l))
listed_are items P read listed e is = grind arith

-- the runs of no blocks
pub no_numbers : {B : Type 0} (f : B → ℕ × ℕ) (set : Runs) → IsRunsOfBlocks f [] set → set ≡ []
no_numbers f set is = empty_set (Covers f []) set is (Covers-nil f)

-- what is written of a block that sets have; Fits says what else is known of its bounds
pub record IsWritten {B : Type 0} (f : B → ℕ × ℕ) (form : ℕ × ℕ → B) (octets : B → List ℕ) (last : ℕ)
    (Fits : ℕ × ℕ → Type 0) (G : List ℕ → B → Type 0) : Type 0 where
  pub spelled : (bytes : List ℕ) (x : B) → G bytes x → bytes ≡ octets x
  pub ordered : (bytes : List ℕ) (x : B) → G bytes x → (f x).0 ≤ (f x).1
  pub below : (bytes : List ℕ) (x : B) → G bytes x → (f x).1 ≤ last
  pub fits : (bytes : List ℕ) (x : B) → G bytes x → Fits (f x)
  pub new_form : (bytes : List ℕ) (x : B) → G bytes x → IsNew f form x
  pub written : (b : ℕ × ℕ) → b.0 ≤ b.1 → b.1 ≤ last → Fits b → G (octets (form b)) (form b)
  pub form_bounds : (b : ℕ × ℕ) → b.0 ≤ b.1 → b.1 ≤ last → f (form b) ≡ b

module _ {B : Type 0} (f : B → ℕ × ℕ) (form : ℕ × ℕ → B) (octets : B → List ℕ) (last : ℕ) (Fits : ℕ × ℕ → Type 0)
    (G : List ℕ → B → Type 0) (is : IsWritten f form octets last Fits G) where
  -- the greatest number of the block before
  abbrev Next : Option ℕ → B → Option ℕ
  Next before x = Some (f x).1

  -- a block behind it
  abbrev Behind : Option ℕ → List ℕ → B → Type 0
  Behind before = Where G (λ x. IsBeyond before (f x).0)

  -- what is known of blocks that were taken
  record AreTaken (before : Option ℕ) (bytes : List ℕ) (xs : List B) : Type 0 where
    chain : IsBlockChain f form 0 last xs
    fit : All (λ x. Fits (f x)) xs
    beyond : All (λ x. IsBeyond before (f x).0) xs
    spelled : bytes ≡ octets_of_all octets xs

  are_taken : (before : Option ℕ) (bytes : List ℕ) (xs : List B) → EachFrom Next Behind before bytes xs
      → AreTaken before bytes xs
  are_taken before bytes [] none = grind (arith, IsChain-nil, All-nil)
  are_taken before bytes (x ∷ xs) (rest, (front, (g, first), split), more) =
      grind (arith, All-cons, AllPairs-cons, are_taken (Some (f x).1) rest xs more)

  -- so they are a chain, and so is what resources list
  pub taken_chain : (before : Option ℕ) (bytes : List ℕ) (xs : List B) → EachFrom Next Behind before bytes xs
      → IsChain f form xs
  taken_chain before bytes xs each = (are_taken before bytes xs each).chain.chain

  pub listed_chain : (bytes : List ℕ) (choice : ResourcesChoice (List B))
      → IsChoiceOf (IsSequenceFrom Next Behind None) bytes choice → MatchChoice choice ⊤ ⊤ (IsChain f form)
  listed_chain bytes choice is = grind (arith, taken_chain)

  -- what is written of runs is taken as their blocks
  taken : (before : Option ℕ) (set : Runs) → All (λ b. (b.0 ≤ b.1) × (b.1 ≤ last) × Fits b) set
      → AllPairs (λ b c. b.1 + 1 < c.0) set → All (λ b. IsBeyond before b.0) set
      → EachFrom Next Behind before (octets_of_all (λ b. octets (form b)) set) (map form set)
  taken before [] each apart beyond = refl
  taken before (b ∷ set) each apart beyond =
      let then = taken (Some b.1) set (λ k d small. each (suc k) d (omega arith))
      (λ i j d lt within. apart (suc i) (suc j) d (omega arith) (omega arith))
      (λ k d small. apart 0 (suc k) d (omega arith) (omega arith)) in
      grind (arith, each 0 b, beyond 0 b, is.form_bounds b, is.written b, then)

  -- a set whose runs fit
  abbrev pub IsFitting : Runs → Type 0
  IsFitting set = IsBlockSet 0 last set × All Fits set

  -- a SEQUENCE of such blocks is what is written of a set
  pub set_spelled : (bytes : List ℕ) (set : Runs)
      → Refines (IsSequenceFrom Next Behind None) (IsRunsOfBlocks f) bytes set
      → Spells IsFitting (sequence_octets (λ b. octets (form b))) bytes set
  set_spelled bytes set (xs, (content, at, each), says) =
      let are = are_taken None content xs each in
      let own : IsBlockSet 0 last (map f xs) = IsBlockSet-from_chain are.chain refl in
      let covered = IsRunsOfBlocks-bounds f xs (map f xs) refl own.are_runs in
      let same : map f xs ≡ set = IsRunsOf-unique (Covers f xs) (map f xs) set covered says in
      let made : xs ≡ map form set = rw (← same) (sym (made_again f form xs are.chain.chain.new_form)) in
      let whole = are.spelled ∙ ap (octets_of_all octets) made ∙ flat_map-map octets form set in
      (subst IsFitting same (own, All-map Fits f xs are.fit), at.spelled ∙ ap sequence_value whole)

  -- and what is written of a set, if it isn't too long, is such a SEQUENCE
  pub spelled_set : (bytes : List ℕ) (set : Runs) → length (octets_of_all (λ b. octets (form b)) set) < 2 ^ 64
      → Spells IsFitting (sequence_octets (λ b. octets (form b))) bytes set
      → Refines (IsSequenceFrom Next Behind None) (IsRunsOfBlocks f) bytes set
  spelled_set bytes set short ((own, fit), spelled) =
      let content = octets_of_all (λ b. octets (form b)) set in
      let blocks = taken None set (grind (arith, own.are_runs.ordered, own.below, fit)) own.are_runs.apart
      (λ k d lt. tt) in (
        map form set,
        (content, rw spelled (value_is 48 content (omega arith) short), blocks),
        made_of_set f form 0 last (λ b from. is.form_bounds b) set own,
      )
