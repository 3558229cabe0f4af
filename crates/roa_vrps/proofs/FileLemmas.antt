-- Lemmas on texts in both forms, and on files. A text has one list of entries, or one fault, and so has a file. The
-- same holds of the expiries of a file.
use Rattle.roa_vrps.proofs.Common.{AreDated, AreFileEntries, AreTextEntries, Bool, Entry, Err, ExpiryFault, FileFault}
use Rattle.roa_vrps.proofs.Common.{Found, HasExpiryFault, HasFileFault, HasTextFault, IsFoundIn, IsUnexpiredFile}
use Rattle.roa_vrps.proofs.Common.{IsVrpFile, JsonArray, List, MatchOrMemory, MayTextWantMemory, MayWantMemory, Memory}
use Rattle.roa_vrps.proofs.Common.{NoVrp, Ok, Option, OrMemory, Refused, Vec, arith, inl, inr, length, length-map, refl}
use Rattle.roa_vrps.proofs.Common.{true, vrps_of, ℕ, [], ◌≡◌, ◌≢◌, ◌⊎◌}
use Rattle.roa_vrps.specs.Marks.{IsUnmarked}
use Rattle.roa_vrps.specs.declared.fault.ExpiryFault.TheVariants.{File}
use Rattle.roa_vrps.proofs.CsvLemmas.{csv_exact, rows_begin}
use Rattle.roa_vrps.proofs.EntryLemmas.{Dates, Vrps, expiries_counted, expiries_exact, vrps_none}
use Rattle.roa_vrps.proofs.JsonLemmas.{json_exact}
use Rattle.roa_vrps.proofs.Outcomes.{IsExact, exact_beside, exact_fault, exact_map, exact_of, exact_with, found_as}

-- a file has one text
pub unmarked_one : (file a b : List ℕ) → IsUnmarked file a → IsUnmarked file b → a ≡ b
unmarked_one file a b h k = grind (arith)

-- one of three outcomes, if each rules out the others
either_exact : {A E P Q R : Type 0} {Has Is : A → Type 0} {Fails Wrong : E → Type 0} (fault : E) → (P → Q → ⊥)
    → (P → R → ⊥) → (Q → R → ⊥) → IsExact Has Fails → IsExact Is Wrong
    → IsExact (λ a. (P × Has a) ⊎ (R × Is a)) (λ e. (P × Fails e) ⊎ (Q × (e ≡ fault)) ⊎ (R × Wrong e))
either_exact fault pq pr qr first last = record {
  one = λ a b h k. grind (arith, first.one, last.one);
  apart = λ a e h k. grind (arith, first.apart, last.apart);
  fault_one = λ d e h k. grind (arith, first.fault_one, last.fault_one);
}

text_exact : (text : List ℕ) → IsExact (AreTextEntries text) (HasTextFault text)
text_exact text =
    either_exact JsonArray (λ object array. array.0 object) (λ object csv. csv.no_object object)
    (λ array csv. csv.no_array array.1) (json_exact text) (csv_exact text)

-- what is found in the text is found in the file, or nothing is
module _ {A : Type 0} (asked : Bool) (file text : List ℕ) (found : Found A) (is : IsUnmarked file text)
    (had : IsFoundIn asked (AreTextEntries text) found) where
  pub file_found : found.vrps.items ≢ [] → IsFoundIn asked (AreFileEntries file) found
  file_found some = found_as (λ entries are same. (text, is, (are, λ none. some (rw none at same)))) had

  pub file_empty : found.vrps.items ≡ [] → HasFileFault file NoVrp
  file_empty none = (text, is, inr (rw (vrps_none had.entries (rw none at had.vrps_are)) at had.entries_are, refl))

pub file_fault : (file text : List ℕ) (error : OrMemory FileFault) → IsUnmarked file text
    → MatchOrMemory error (HasTextFault text) (MayTextWantMemory text)
    → MatchOrMemory error (HasFileFault file) (MayWantMemory file)
file_fault file text (Refused fault) is wrong = (text, is, inl wrong)
file_fault file text (Memory error) is wants = (text, is, wants)

-- one outcome, of values that may not be empty
exact_some : {A E : Type 0} {Has : List A → Type 0} {Fails : E → Type 0} (fault : E) → IsExact Has Fails
    → IsExact (λ a. Has a × (a ≢ [])) (λ e. Fails e ⊎ (Has [] × (e ≡ fault)))
exact_some fault exact = record {
  one = λ a b h k. exact.one a b h.0 k.0;
  apart = λ a e h k. grind (arith, exact.one, exact.apart);
  fault_one = λ d e h k. grind (arith, exact.apart, exact.fault_one);
}

module _ (file : List ℕ) where
  pub entries_exact : IsExact (AreFileEntries file) (HasFileFault file)
  entries_exact = exact_of (unmarked_one file) (λ text. exact_some NoVrp (text_exact text))

  pub file_exact : IsExact (IsVrpFile file) (HasFileFault file)
  file_exact = exact_map vrps_of entries_exact

-- memory may be requested for a file with VRPs
text_wants : (text : List ℕ) (entries : List Entry) → AreTextEntries text entries → entries ≢ []
    → MayTextWantMemory text
text_wants text entries h some = grind (arith, rows_begin)

pub file_wants : (file : List ℕ) (entries : List Entry) → AreFileEntries file entries → MayWantMemory file
file_wants file entries h = grind (arith, text_wants)

module _ (file : List ℕ) where
  -- what is read of the entries is the expiries of the file, or its fault
  pub dated_read : {A : Type 0} (found : Found A) (expiries : Vec (Option ℕ) A) → found.expiries ≡ Ok expiries
      → IsFoundIn true (AreFileEntries file) found → AreDated file found.vrps.items expiries.items
  dated_read found expiries is h = (h.entries, h.entries_are, (h.vrps_are, (rw is at h.read) refl))

  pub wrong_read : {A : Type 0} (found : Found A) (f : ExpiryFault) → found.expiries ≡ Err f
      → IsFoundIn true (AreFileEntries file) found → HasExpiryFault file f
  wrong_read found f is h = inr (h.entries, h.entries_are, (rw is at h.read) refl)

  -- each VRP has an expiry
  pub one_each : (vrps : Vrps) (expiries : Dates) → AreDated file vrps expiries → length expiries ≡ length vrps
  one_each vrps expiries h = grind (arith, expiries_counted, length-map)

  -- a file has one list of VRPs and of expiries, or one fault
  dated_exact : IsExact (λ (dated : Vrps × Dates). AreDated file dated.0 dated.1) (HasExpiryFault file)
  dated_exact =
      let each = λ (entries : List Entry). exact_beside (vrps_of entries) (expiries_exact entries) in
      let all = exact_with (exact_fault File (entries_exact file)) each in all

  -- and so one list of VRPs that have not expired
  pub unexpired_exact : (time : ℕ)
      → IsExact (λ (found : Vrps × ℕ). IsUnexpiredFile file time found.0 found.1) (HasExpiryFault file)
  unexpired_exact time = record {
    one = λ a b h k.
        let same = dated_exact.one (h.vrps, h.expiries) (k.vrps, k.expiries) h.dated k.dated in
        grind (arith, same, h.kept_are, k.kept_are, h.expired_are, k.expired_are);
    apart = λ a f h. dated_exact.apart (h.vrps, h.expiries) f h.dated;
    fault_one = dated_exact.fault_one;
  }
