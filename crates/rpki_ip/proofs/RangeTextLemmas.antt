-- A text of a prefix or a range has one value or one fault at most.
use Rattle.std.proofs.Common.{◌≡◌, ℕ, ◌-◌, ◌^◌, ◌<◌, inl, inr, List, Option, Result, Ok, Err, MatchResult, arith, refl}
use Rattle.rpki_text.specs.Cuts.{HasNo, IsCutAt, Around, slash, dash}
use Rattle.rpki_text.specs.Numbers.{HasNumberFault, IsNumberText}
use Rattle.rpki_addr.specs.Widths.{width}
use Rattle.rpki_cover.specs.Prefixes.{PrefixValue}
use Rattle.rpki_text.specs.Reading.{Answers}
use Rattle.rpki_addr.specs.declared.addr.IpAddr.{IpAddr}
use Rattle.rpki_text.specs.declared.number.ParseIntError.{ParseIntError}
use Rattle.rpki_text.specs.declared.number.ParseIntError.TheVariants.{PosOverflow}
use Rattle.rpki_addr.proofs.AddressTextLemmas.{IsIpText-one}
use Rattle.rpki_text.proofs.NumberTexts.{IsNumberText-one}
use Rattle.rpki_text.proofs.CutLemmas.{HasNo-no_cut, around_at, none_around}
use Rattle.rpki_text.proofs.NumberLemmas.{number_answers}
pub use Rattle.rpki_text.proofs.ReadingLemmas.{answers_by_one}
use Rattle.rpki_ip.specs.AddrText.{first_of, greatest_of}
use Rattle.rpki_ip.specs.BlockText.{IsAddressText, HasAddressFault, IsPrefixBetween, HasPrefixFault, IsRangeFrom}
use Rattle.rpki_ip.specs.BlockText.{IsIpRangeBetween, HasRangeFault, IsSingleText, IsIpPrefixText, HasIpPrefixTextFault}
use Rattle.rpki_ip.specs.BlockText.{IsRangeText, HasRangeTextFault, HasFaultAround}
use Rattle.rpki_ip.specs.Ranges.{RangeValue}
use Rattle.rpki_ip.specs.declared.error.FromStrError.{FromStrError}
use Rattle.rpki_ip.specs.declared.error.FromStrError.TheVariants as Fault
use Rattle.rpki_der.specs.declared.family.AddressFamily.{AddressFamily}

-- two answers that are right are one
abbrev AtMostOne : {X : Type 0} → (X → Type 0) → (FromStrError → Type 0) → Type 0
AtMostOne {X} Has Fails = (r s : Result X FromStrError) → MatchResult r Has Fails → MatchResult s Has Fails → r ≡ s

-- a reader of the parts round a byte, and one that misses it
module _ {X : Type 0} (b : ℕ) (text : List ℕ) (Has : List ℕ → List ℕ → X → Type 0)
    (Fails : List ℕ → List ℕ → FromStrError → Type 0) where
  abbrev IsRound : X → Type 0
  IsRound x = Around b text (λ l q. Has l q x)

  abbrev Misses : FromStrError → Type 0
  Misses e = HasFaultAround b text Fails e

  -- what is so of the text is so of each cut of it
  at_cut : (l q : List ℕ) → IsCutAt b text l q → (r : Result X FromStrError) → MatchResult r IsRound Misses
      → MatchResult r (Has l q) (Fails l q)
  at_cut l q cut (Ok x) h = around_at b text l q (λ l q. Has l q x) cut h
  at_cut l q cut (Err e) (inl (none, _)) = absurd (HasNo-no_cut b text l q none cut)
  at_cut l q cut (Err e) (inr h) = around_at b text l q (λ l q. Fails l q e) cut h

  -- so where the parts have one answer at most, the text has
  pub cut_one : ((l q : List ℕ) → AtMostOne (Has l q) (Fails l q)) → AtMostOne IsRound Misses
  cut_one one (Ok x) s h k = one h.left h.right (Ok x) s h.holds (at_cut h.left h.right h.cut s k)
  cut_one one (Err d) s (inr h) k = one h.left h.right (Err d) s h.holds (at_cut h.left h.right h.cut s k)
  cut_one one (Err d) s (inl none) k = grind (arith, none_around)

  pub cut_answers : AtMostOne IsRound Misses → (l q : List ℕ) → IsCutAt b text l q → (r : Result X FromStrError)
      → MatchResult r (Has l q) (Fails l q) → Answers IsRound Misses r
  cut_answers one l q cut r h = grind arith

  pub no_cut_answers : AtMostOne IsRound Misses → HasNo b text → Answers IsRound Misses (Err Fault.MissingSeparator)
  no_cut_answers one none = answers_by_one one (Err Fault.MissingSeparator) (inl (none, refl))

-- a number text has no fault, and any other has one
number_apart : (text : List ℕ) (n : ℕ) (f : ParseIntError) → IsNumberText (2 ^ 8 - 1) text n
    → HasNumberFault (2 ^ 8 - 1) text f → ⊥
number_apart text n f h k = let e = (number_answers (2 ^ 8 - 1) text (Err f) k).each_value n h in cc

same_number_fault : (text : List ℕ) (f g : ParseIntError) → HasNumberFault (2 ^ 8 - 1) text f
    → HasNumberFault (2 ^ 8 - 1) text g → f ≡ g
same_number_fault text f g h k = let e = (number_answers (2 ^ 8 - 1) text (Err f) h).each_fault g k in cc

-- a text of one form has one value or one fault at most
pub prefix_one : (w : Option AddressFamily) (text : List ℕ) (r s : Result PrefixValue FromStrError)
    → MatchResult r (IsIpPrefixText w text) (HasIpPrefixTextFault w text)
    → MatchResult s (IsIpPrefixText w text) (HasIpPrefixTextFault w text) → r ≡ s
prefix_one w text =
    cut_one slash text (IsPrefixBetween w) (HasPrefixFault w)
    (λ l q r s h k. grind (arith, IsIpText-one, IsNumberText-one, number_apart, same_number_fault))

pub range_one : (w : Option AddressFamily) (text : List ℕ) (r s : Result RangeValue FromStrError)
    → MatchResult r (IsRangeText w text) (HasRangeTextFault w text)
    → MatchResult s (IsRangeText w text) (HasRangeTextFault w text) → r ≡ s
range_one w text =
    cut_one dash text (IsIpRangeBetween w) (HasRangeFault w) (λ l q r s h k. grind (arith, IsIpText-one))

pub single_one : (w : Option AddressFamily) (text : List ℕ) (r s : Result RangeValue FromStrError)
    → MatchResult r (IsSingleText w text) (HasAddressFault w text)
    → MatchResult s (IsSingleText w text) (HasAddressFault w text) → r ≡ s
single_one w text r s h k = grind (arith, IsIpText-one)

-- an address, and a length that it doesn't have
pub too_long : (w : Option AddressFamily) (left right : List ℕ) (a : IpAddr) (n : ℕ) → IsAddressText w left a
    → IsNumberText (2 ^ 8 - 1) right n → width a < n
    → HasPrefixFault w left right (Fault.PrefixLen PosOverflow)
too_long w left right a n is number above = inr (a, is, (PosOverflow, inr (n, number, above, refl), refl))

-- an address alone is a range
pub single_of : (a : IpAddr) (r : RangeValue) (min max : ℕ) → r ≡ record { min = min; max = max } → min ≡ first_of a
    → max ≡ greatest_of a → IsRangeFrom a a r
single_of a r min max is first last = grind arith
