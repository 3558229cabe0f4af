-- Lemmas: the readings of blocks of AS numbers find exactly the blocks of the grammar. Readers of lists depend on this.
use Rattle.std.proofs.Common.{◌≡◌, ℕ, ◌≤◌, ltb, List, Result, Ok, Err, refl, sym, ap, subst, ◌∙◌, arith, inl, inr}
use Rattle.std.proofs.lemmas.Bool.{ltb-false, le-ltb}
use Rattle.rpki_block.specs.Ranges.{RangeValue}
use Rattle.rpki_der.specs.declared.error.DerError.{DerError}
use Rattle.rpki_der.specs.declared.error.DerError.TheVariants.{ReversedRange}
use Rattle.rpki_der.specs.Der.{IsBytes, IsTlv, IsUnsigned, IsValue, Refines, integer}
use Rattle.rpki_der.specs.Reading.{◌>>=◌, IsReading, unsigned}
use Rattle.rpki_der.proofs.ContentReadings.{spelled_unsigned, unsigned_check, unsigned_spelled}
use Rattle.rpki_der.proofs.ValueLists.{HasOctets, value_has_octets}
use Rattle.rpki_der.proofs.ValueReadings.{fits_content, same_reading, u32_reading}
use Rattle.rpki_der.proofs.ReadingSteps.{IsCheck, ok_is, passed}
use Rattle.rpki_base.specs.AsnDer.{IsAsNumber, SaysAsNumber, as_number_at, skip_number}
use Rattle.rpki_der.specs.SequenceReading.{SaysByTag, SaysPair}
use Rattle.rpki_der.proofs.SequenceReadings.{by_tag_reading, mapped_check, pair_check}
use Rattle.rpki_as_block.specs.AsDer.{IsAsBlock, IsBlockInAnyOrder}
use Rattle.rpki_as_block.specs.AsDerReading.{as_block_at, as_id_in, as_range_block_in, as_range_in, range_of}
use Rattle.rpki_as_block.specs.AsDerReading.{skip_block_at, skip_pair}
use Rattle.rpki_as_block.specs.declared.block.AsBlock.{AsBlock}
use Rattle.rpki_as_block.specs.declared.block.AsBlock.TheVariants.{Id, Range}

-- ---- ranges

-- the bounds of a range as it is read
IsBetween : ℕ → ℕ → RangeValue → Type 0
IsBetween min max r = (min ≤ max) × (r ≡ record { min = min; max = max })

-- numbers in order are the bounds of their range
range_says : (min max : ℕ) (r : RangeValue) → range_of min max ≡ Ok r → IsBetween min max r
unfolding range_of IsBetween
range_says min max r e =
    let made : RangeValue = record { min = min; max = max } in
    let g = passed (ltb max min) ReversedRange (Ok made) r e in
    (ltb-false max min g.0, sym (ok_is made r g.1))

-- numbers in order are read as their range
range_again : (min max : ℕ) (r : RangeValue) → IsBetween min max r → range_of min max ≡ Ok r
unfolding range_of IsBetween
range_again min max r (ordered, is) = rw (le-ltb max min ordered) (ap (λ (x : RangeValue). Ok x) (sym is))

-- two numbers denote a range
range_check : IsCheck IsBytes (SaysPair IsAsNumber IsBetween) as_range_in
range_check = pair_check IsAsNumber IsBetween as_number_at range_of u32_reading range_says range_again

-- ---- blocks

-- a block by its tag and its content
SaysId : List ℕ → AsBlock → Type 0
SaysId content b = (n : ℕ) × IsUnsigned content n × (b ≡ Id n)

SaysRange : List ℕ → AsBlock → Type 0
SaysRange content b = (r : RangeValue) × SaysPair IsAsNumber IsBetween content r × (b ≡ Range r)

-- an INTEGER whose content denotes a number is an AS number
number_spelled : (bytes content : List ℕ) (n : ℕ) → IsBytes bytes → IsValue bytes 2 content → IsUnsigned content n
    → IsAsNumber bytes n
number_spelled bytes content n fits is says =
    (says.limit, subst (IsValue bytes 2) (unsigned_spelled content n (fits_content bytes 2 content is fits) says) is)

-- from the tag and the content to the grammar
block_to : (bytes : List ℕ) (b : AsBlock) → IsBytes bytes → Refines IsTlv (SaysByTag 2 SaysId SaysRange) bytes b
    → IsAsBlock bytes b
unfolding SaysId SaysRange IsBetween
block_to bytes b fits (v, is, inl (t, (n, says, e))) =
    subst (IsAsBlock bytes) (sym e)
    (number_spelled bytes v.content n fits (subst (λ (tag : ℕ). IsValue bytes tag v.content) t is) says)
block_to bytes b fits (v, is, inr (t, (r, (min, max, both, (ordered, made)), e))) =
    subst (IsAsBlock bytes) (sym (e ∙ ap (λ (x : RangeValue). Range x) made))
    (ordered, (v.content, subst (λ (tag : ℕ). IsValue bytes tag v.content) t is, both))

-- from the grammar to the tag and the content
block_from : (bytes : List ℕ) (b : AsBlock) → IsAsBlock bytes b → Refines IsTlv (SaysByTag 2 SaysId SaysRange) bytes b
unfolding SaysId SaysRange IsBetween
block_from bytes (Id n) is =
    (record { tag = 2; content = integer n }, is.1, inl (refl, (n, spelled_unsigned n is.0, refl)))
block_from bytes (Range r) (ordered, (content, is, both)) =
    (record { tag = 48; content = content }, is, inr (refl, (r, (r.min, r.max, both, (ordered, refl)), refl)))

-- the reading of a block finds exactly the blocks of the grammar
pub as_block_reading : IsReading IsAsBlock as_block_at
unfolding SaysId SaysRange
as_block_reading =
    same_reading (Refines IsTlv (SaysByTag 2 SaysId SaysRange)) IsAsBlock as_block_at block_to block_from
    (by_tag_reading 2 SaysId SaysRange as_id_in as_range_block_in (λ e. omega arith)
    (mapped_check IsBytes IsUnsigned unsigned Id number_check)
    (mapped_check IsBytes (SaysPair IsAsNumber IsBetween) as_range_in Range range_check))
  where
    number_check : IsCheck IsBytes IsUnsigned unsigned
    number_check =
        record { takes = λ content n fits e. unsigned_check.takes content n tt e; again = unsigned_check.again }

-- a block has at least one octet
pub as_block_has_octets : HasOctets IsAsBlock
as_block_has_octets front (Id n) is = value_has_octets front 2 (integer n) is.1
as_block_has_octets front (Range r) is = value_has_octets front 48 is.1.0 is.1.1

-- ---- skipped blocks

-- two numbers in any order
SaysTwo : List ℕ → Unit {0} → Type 0
SaysTwo = SaysPair IsAsNumber (λ first second u. Unit {0})

-- from the tag and the content to the grammar
skip_to : (bytes : List ℕ) (u : Unit {0}) → IsBytes bytes → Refines IsTlv (SaysByTag 2 SaysAsNumber SaysTwo) bytes u
    → IsBlockInAnyOrder bytes u
unfolding SaysTwo
skip_to bytes u fits (v, is, inl (t, (n, says))) =
    inl (n, number_spelled bytes v.content n fits (subst (λ (tag : ℕ). IsValue bytes tag v.content) t is) says)
skip_to bytes u fits (v, is, inr (t, (first, second, both, unit))) =
    inr (v.content, subst (λ (tag : ℕ). IsValue bytes tag v.content) t is, (first, second, both))

-- from the grammar to the tag and the content
skip_from : (bytes : List ℕ) (u : Unit {0}) → IsBlockInAnyOrder bytes u
    → Refines IsTlv (SaysByTag 2 SaysAsNumber SaysTwo) bytes u
unfolding SaysTwo
skip_from bytes u (inl (n, is)) =
    (record { tag = 2; content = integer n }, is.1, inl (refl, (n, spelled_unsigned n is.0)))
skip_from bytes u (inr (content, is, (first, second, both))) =
    (record { tag = 48; content = content }, is, inr (refl, (first, second, both, tt)))

-- the check of a skipped number
skip_check : IsCheck IsBytes SaysAsNumber skip_number
skip_check =
    record {
      takes = λ content u fits e.
          number_of content u (unsigned content) refl e;
      again = λ content u (n, says). rw (unsigned_check.again content n says) refl;
    }
  where
    number_of : (content : List ℕ) (u : Unit {0}) (r : Result ℕ DerError) → unsigned content ≡ r
        → (r >>= λ n. Ok tt) ≡ Ok u → SaysAsNumber content u
    number_of content u (Ok n) is e = (n, unsigned_check.takes content n tt is)
    number_of content u (Err d) is e = absurd cc

-- the reading of a skipped block finds exactly the blocks, with the numbers of a range in any order
pub skip_reading : IsReading IsBlockInAnyOrder skip_block_at
unfolding SaysTwo
skip_reading =
    same_reading (Refines IsTlv (SaysByTag 2 SaysAsNumber SaysTwo)) IsBlockInAnyOrder skip_block_at skip_to skip_from
    (by_tag_reading 2 SaysAsNumber SaysTwo skip_number skip_pair (λ e. omega arith) skip_check
    (pair_check IsAsNumber (λ first second u. Unit {0}) as_number_at (λ first second. Ok tt) u32_reading
    (λ first second u e. tt) (λ first second u h. refl)))
