-- What a take in either mode, and then the end of the octets, tell of all of them.
use Rattle.rpki_extensions.proofs.Common.{Bool, Err, List, None, Ok, arith, Option, Result, [], ap, refl, subst, sym, ℕ}
use Rattle.rpki_extensions.proofs.Common.{◌++◌, ◌∙◌, ◌≡◌, ◌≢◌, append-nil, IfSome, ByFamily, families_der}
use Rattle.rpki_extensions.proofs.Common.{AddressFamily, Ipv4, Ipv6, Claim, Missing, ended, DerError, ArePresentClaims}
use Rattle.rpki_extensions.proofs.Common.{IsFamilyClaim, IsPresentFamilyClaim, if_present, ip_families_der}
use Rattle.rpki_extensions.proofs.Common.{ip_resources_der, IfRefused, OrMemory, Memory, Refused, claim_or_missing}
use Rattle.rpki_extensions.proofs.Common.{IsSaidIn, is_canonical, Encoding, Any, Canonical}
use Rattle.rpki_der.specs.declared.cursor.Cursor.{Cursor}
use Rattle.rpki_der.specs.Der.{Front, HasNone, OneFront, Spells}
use Rattle.rpki_der.specs.FrontLaws.{none_where_more, none_where_no_front, whole_value}
use Rattle.rpki_der.specs.Views.{Lenient, Strict, is_strict, left}
use Rattle.rpki_der.specs.SequenceReading.{only}
use Rattle.rpki_der.specs.SequenceViews.{ReadsOrMemory, TakesSaidOrMemory}
use Rattle.rpki_extensions.proofs.WholeValueLemmas.{nothing_left, something_left}

-- the fault of a take is that of all octets
only_refused : {X : Type 0} (reading : List ℕ → Result (X × List ℕ) DerError) (octets : List ℕ) (fault : DerError)
    → reading octets ≡ Err fault → only reading octets ≡ Err fault
unfolding only
only_refused reading octets fault e = rw e refl

-- and so is that of their end
only_more : {X : Type 0} (reading : List ℕ → Result (X × List ℕ) DerError) (octets rest : List ℕ) (x : X)
    (fault : DerError) → reading octets ≡ Ok (x, rest) → ended rest ≡ Err fault → only reading octets ≡ Err fault
unfolding only
only_more reading octets rest x fault e f = rw (e, f) refl

module _ {X Y : Type 0} (encoding : Encoding) (G : List ℕ → X → Type 0) (P : X → Type 0) (written : X → List ℕ)
    (C : Y → X → Type 0) (by : Bool → List ℕ → Result (Y × List ℕ) DerError)
    (old new : Cursor) (mode : is_strict old ≡ is_canonical encoding) where
  -- what a call promises in each mode, in the one that it is in
  reads_in : (result : Result X (OrMemory DerError)) → Lenient old (ReadsOrMemory G (λ x. x) old new result)
      → Strict old (ReadsOrMemory (Spells P written) (λ x. x) old new result)
      → ReadsOrMemory (IsSaidIn encoding G P written) (λ x. x) old new result
  reads_in result lenient strict = chosen encoding mode
    where
      chosen : (e : Encoding) → is_strict old ≡ is_canonical e
          → ReadsOrMemory (IsSaidIn e G P written) (λ x. x) old new result
      chosen Any m = lenient m
      chosen Canonical m = strict m

  -- a refusal
  pub refused_in : (e : OrMemory DerError) → Lenient old (ReadsOrMemory G (λ x. x) old new (Err e))
      → Strict old (ReadsOrMemory (Spells P written) (λ x. x) old new (Err e))
      → TakesSaidOrMemory C old new (Err e) (by (is_strict old))
      → IfRefused
      (λ fault. HasNone (IsSaidIn encoding G P written) (left old)
      × (only (by (is_canonical encoding)) (left old) ≡ Err fault)) e
  refused_in (Refused fault) lenient strict took =
      let none = (reads_in (Err (Refused fault)) lenient strict).0 in (
        none_where_no_front (IsSaidIn encoding G P written) (left old) none,
        only_refused (by (is_canonical encoding)) (left old) fault
            (subst (λ m. by m (left old) ≡ Err fault) mode took.0),
      )
  refused_in (Memory e) lenient strict took = tt

  -- octets that are left behind the value
  pub more_in : (x : X) (fault : DerError) → OneFront G
      → ((y : X) (rest : List ℕ) → P y → left old ≡ written y ++ rest → (x ≡ y) × (left new ≡ rest))
      → Lenient old (ReadsOrMemory G (λ x. x) old new (Ok x))
      → Strict old (ReadsOrMemory (Spells P written) (λ x. x) old new (Ok x))
      → TakesSaidOrMemory C old new (Ok x) (by (is_strict old)) → ended (left new) ≡ Err fault
      → HasNone (IsSaidIn encoding G P written) (left old) × (only (by (is_canonical encoding)) (left old) ≡ Err fault)
  more_in x fault one back lenient strict took e = (
    none encoding (reads_in (Ok x) lenient strict),
    only_more (by (is_canonical encoding)) (left old) (left new) took.0 fault
        (subst (λ m. by m (left old) ≡ Ok (took.0, left new)) mode took.1) e,
  )
    where
      some : left new ≢ []
      some = something_left (left new) fault e

      none : (e : Encoding) → ReadsOrMemory (IsSaidIn e G P written) (λ x. x) old new (Ok x)
          → HasNone (IsSaidIn e G P written) (left old)
      none Any read = none_where_more G (left old) one x (left new) read some
      none Canonical read = λ y is. some (back y [] is.0 (is.1 ∙ sym (append-nil (written y)))).1

  -- no octets that are left
  pub all_in : (x : X) (u : Unit {0}) → Lenient old (ReadsOrMemory G (λ x. x) old new (Ok x))
      → Strict old (ReadsOrMemory (Spells P written) (λ x. x) old new (Ok x)) → ended (left new) ≡ Ok u
      → IsSaidIn encoding G P written (left old) x
  all_in x u lenient strict e =
      whole_value (IsSaidIn encoding G P written) (left old) x
      (subst (λ rest. Front (IsSaidIn encoding G P written) (left old) x rest) (nothing_left (left new) u e)
      (reads_in (Ok x) lenient strict))

-- ---- families

-- a claim that is there is present
present_again : (family : AddressFamily) (found : Option Claim) → IfSome found (IsPresentFamilyClaim family)
    → if_present (claim_or_missing found) ≡ found
present_again family found is = grind (arith)

of_family : (family : AddressFamily) (found : Option Claim) → IfSome found (IsPresentFamilyClaim family)
    → IsFamilyClaim family (claim_or_missing found)
of_family family found is = grind (arith)

none_of : (family : AddressFamily) (found : Option Claim) → IfSome found (IsPresentFamilyClaim family)
    → claim_or_missing found ≡ Missing → found ≡ None
none_of family found is e = grind (arith)

-- what a call says of octets that are written of two claims, of which one at least isn't missing, said of families
pub families_again : (old new : Cursor) (x : ByFamily Claim)
    → ((v4 v6 : Claim) (rest : List ℕ) → IsFamilyClaim Ipv4 v4 → IsFamilyClaim Ipv6 v6 → (v4 ≡ Missing → v6 ≢ Missing)
    → left old ≡ ip_families_der v4 v6 ++ rest → (x ≡ (if_present v4, if_present v6)) × (left new ≡ rest))
    → (y : ByFamily Claim) (rest : List ℕ) → ArePresentClaims y → left old ≡ families_der ip_resources_der y ++ rest
    → (x ≡ y) × (left new ≡ rest)
families_again old new x back (a, b) rest (first, second, some) at =
    let v4 = claim_or_missing a in
    let v6 = claim_or_missing b in
    let same : (if_present v4, if_present v6) ≡ (a, b) =
    λ i. (present_again Ipv4 a first i, present_again Ipv6 b second i) in
    let ensured =
    back v4 v6 rest (of_family Ipv4 a first) (of_family Ipv6 b second)
    (λ no also. some (none_of Ipv4 a first no) (none_of Ipv6 b second also))
    (at ∙ ap (λ (fs : ByFamily Claim). families_der ip_resources_der fs ++ rest) (sym same)) in
    (ensured.0 ∙ same, ensured.1)
