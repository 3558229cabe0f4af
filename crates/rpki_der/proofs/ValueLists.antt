-- Values one after another to the end of the octets, each read in the state that the values before it led to.
use Rattle.rpki_der.proofs.Common.{Err, List, None, Ok, Result, Some, [], ap, append_assoc, arith, length, refl, suc}
use Rattle.rpki_der.proofs.Common.{zero, ℕ, ◌++◌, ◌<◌, ◌∙◌, ◌∷◌, ◌≡◌, ◌≢◌, ◌≤◌, ◌-◌, append-nil, length-append}
use Rattle.rpki_der.proofs.Common.{EachFrom, Front, IsBytes, IsValue, header, IsReading, each_from, optional, ◌>>=◌}
use Rattle.rpki_der.proofs.Common.{DerError, Grammar, Reading}
use Rattle.rpki_der.proofs.ReadingSteps.{bind_ok}
use Rattle.rpki_der.proofs.ValueReadings.{fits_rest}

-- a value has an octet
abbrev pub HasOctets : {X : Type 0} → Grammar X → Type 0
HasOctets {X} G = (front : List ℕ) (x : X) → G front x → 0 < length front

-- the tag octet is one
pub value_has_octets : (bytes : List ℕ) (tag : ℕ) (content : List ℕ) → IsValue bytes tag content → 0 < length bytes
unfolding header
value_has_octets bytes tag content is = rw is.spelled (omega arith)

-- behind a value fewer octets are left
pub shorter : {X : Type 0} (G : Grammar X) → HasOctets G → (bytes : List ℕ) (x : X) (rest : List ℕ)
    → Front G bytes x rest → length rest < length bytes
shorter G has bytes x rest found = grind (arith, length-append)

-- ---- the reading and the grammar

-- at the end nothing more is read
pub each-nil : {S X : Type 0} (next : S → X → S) (steps : ℕ) (reading : S → Reading X) (state : S)
    → each_from next steps reading state [] ≡ Ok []
unfolding each_from
each-nil next steps reading state = grind arith

-- values that are read are those of the grammar
pub each_takes : {S X : Type 0} (next : S → X → S) (G : S → Grammar X) (reading : S → Reading X)
    → ((state : S) → IsReading (G state) (reading state)) → (steps : ℕ) (state : S) (bytes : List ℕ) (xs : List X)
    → IsBytes bytes → each_from next steps reading state bytes ≡ Ok xs → EachFrom next G state bytes xs
unfolding each_from
each_takes next G reading is steps state [] xs fits e = grind arith
each_takes next G reading is zero state (b ∷ bytes) xs fits e = absurd cc
each_takes next G reading is (suc steps) state (b ∷ bytes) xs fits e =
    let (one, read, more) = bind_ok (reading state (b ∷ bytes)) _ xs e in
    let (others, found, same) = bind_ok (each_from next steps reading (next state one.0) one.1) _ xs more in
    let front = (is state).takes (b ∷ bytes) one.0 one.1 fits read in
    let inside = fits_rest (G state) (b ∷ bytes) one.0 one.1 front fits in
    grind (arith, each_takes next G reading is steps (next state one.0) one.1 others)

-- values of the grammar are read
pub each_again : {S X : Type 0} (next : S → X → S) (G : S → Grammar X) (reading : S → Reading X)
    → ((state : S) → IsReading (G state) (reading state)) → ((state : S) → HasOctets (G state))
    → (xs : List X) (steps : ℕ) (state : S) (bytes : List ℕ) → length bytes ≤ steps → EachFrom next G state bytes xs
    → each_from next steps reading state bytes ≡ Ok xs
unfolding each_from
each_again next G reading is has [] steps state bytes le all =
    ap (each_from next steps reading state) all ∙ each-nil next steps reading state
each_again next G reading is has (x ∷ xs) steps state [] le all =
    absurd (omega (arith, shorter (G state) (has state) [] x all.0 all.1))
each_again next G reading is has (x ∷ xs) zero state (b ∷ bytes) le all = absurd (omega arith)
each_again next G reading is has (x ∷ xs) (suc steps) state (b ∷ bytes) le all =
    let fewer = shorter (G state) (has state) (b ∷ bytes) x all.0 all.1 in
    let read = (is state).again all.1.0 x all.0 all.1.1 in
    grind (arith, each_again next G reading is has xs steps (next state x) all.0 (omega arith) all.2)

-- ---- a loop over the values

abbrev pub with_front : {X : Type 0} → List X → Result (List X) DerError → Result (List X) DerError
with_front front read = read >>= λ xs. Ok (front ++ xs)

-- what was read, and what is left in the state after it, give the whole
pub record SoFar {S X : Type 0} (next : S → X → S) (reading : S → List ℕ → Result (X × List ℕ) DerError)
    (front : List X) (state : S) (bytes : List ℕ) (total : Result (List X) DerError) : Type 0 where
  pub steps : ℕ
  pub enough : length bytes ≤ steps
  pub whole : with_front front (each_from next steps reading state bytes) ≡ total

-- the first value, and those behind it
each-cons : {S X : Type 0} (next : S → X → S) (steps : ℕ) (reading : S → Reading X) (state : S) (b : ℕ) (bytes : List ℕ)
    → length (b ∷ bytes) ≤ steps
    → each_from next steps reading state (b ∷ bytes)
    ≡ (reading state (b ∷ bytes) >>= λ x. each_from next (steps - 1) reading (next state x.0) x.1 >>= λ xs. Ok
    (x.0 ∷ xs))
unfolding each_from
each-cons next zero reading state b bytes enough = absurd (omega arith)
each-cons next (suc steps) reading state b bytes enough =
    let less : suc steps - 1 ≡ steps = omega arith in rw less refl

-- a turn that reads a value
pub loop_more : {S X : Type 0} (next : S → X → S) (reading : S → Reading X) (front : List X) (state : S)
    (bytes : List ℕ) (total : Result (List X) DerError) (x : X) (rest : List ℕ)
    → SoFar next reading front state bytes total → reading state bytes ≡ Ok (x, rest) → length rest < length bytes
    → SoFar next reading (front ++ x ∷ []) (next state x) rest total
loop_more next reading front state [] total x rest so read fewer = absurd (omega arith)
loop_more next reading front state (b ∷ bytes) total x rest so read fewer = record {
  steps = so.steps - 1;
  enough = omega (arith, so.enough, fewer);
  whole = grind (arith, append_assoc, each-cons);
}

-- at the end of the octets the values read so far are all
pub loop_ends : {S X : Type 0} (next : S → X → S) (reading : S → Reading X) (front : List X) (state : S)
    (bytes : List ℕ) (total : Result (List X) DerError) → SoFar next reading front state bytes total → bytes ≡ []
    → total ≡ Ok front
loop_ends next reading front state bytes total so none = grind (arith, append-nil, each-nil)

-- a turn that fails is what the whole fails with
pub loop_fails : {S X : Type 0} (next : S → X → S) (reading : S → Reading X) (front : List X) (state : S)
    (bytes : List ℕ) (total : Result (List X) DerError) (e : DerError) → SoFar next reading front state bytes total
    → bytes ≢ [] → reading state bytes ≡ Err e → total ≡ Err e
loop_fails next reading front state [] total e so some read = absurd (some refl)
loop_fails next reading front state (b ∷ bytes) total e so some read = grind (arith, each-cons)

-- ---- what an optional reading says

-- Some is what the reading gives before the end
pub optional_some : {X : Type 0} (reading : Reading X) (bytes : List ℕ) (x : X) (rest : List ℕ)
    → optional reading bytes ≡ Ok (Some x, rest) → (bytes ≢ []) × (reading bytes ≡ Ok (x, rest))
unfolding optional
optional_some reading bytes x rest e = grind arith

-- None is at the end, and nothing is left
pub optional_none : {X : Type 0} (reading : Reading X) (bytes rest : List ℕ) → optional reading bytes ≡ Ok (None, rest)
    → (bytes ≡ []) × (rest ≡ [])
unfolding optional
optional_none reading bytes rest e = grind arith

-- a fault is what the reading gives before the end
pub optional_err : {X : Type 0} (reading : Reading X) (bytes : List ℕ) (e : DerError) → optional reading bytes ≡ Err e
    → (bytes ≢ []) × (reading bytes ≡ Err e)
unfolding optional
optional_err reading bytes e h = grind arith
