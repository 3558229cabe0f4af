-- A SLURM file says one thing, or has one fault.
use Rattle.std.proofs.Common.{List, MatchResult, Result, arith, inl, inr, sym, ℕ, ◌∙◌, ◌≡◌}
use Rattle.json.specs.Json.{Members}
use Rattle.rpki_text.proofs.TextListLemmas.{AnswersOrMemory-from_found}
use Rattle.rpki_text.specs.Memory.{IfRefused}
use Rattle.rpki_text.specs.Reading.{AnswersOrMemory}
use Rattle.rpki_text.specs.declared.memory.OrMemory.{OrMemory}
use Rattle.roa_vrps.proofs.FileLemmas.{unmarked_one}
use Rattle.roa_vrps.proofs.MemberLemmas.{wrong_one}
use Rattle.roa_vrps.specs.JsonFiles.{IsJsonObject}
use Rattle.roa_vrps.specs.Marks.{IsUnmarked}
use Rattle.roa_slurm.proofs.Common.{HasUnknown, KnowsAll, SlurmFault, SlurmMember, SlurmObject}
use Rattle.roa_slurm.proofs.EntryOutcomes.{key_filter_item_exact, key_item_exact, known_apart, list_exact}
use Rattle.roa_slurm.proofs.EntryOutcomes.{prefix_assertion_exact, prefix_filter_exact, unknown_one}
use Rattle.roa_vrps.proofs.Outcomes.{IsExact, exact_of, exact_with}
use Rattle.roa_slurm.proofs.OutcomeLemmas.{IsOne, exact_both, step_one, then_one}
use Rattle.std.specs.Prelude.{IfErr}
use Rattle.std.specs.Str.{IsUtf8}
use Rattle.rpki_text.specs.Memory.{IsMemory}
use Rattle.roa_slurm.specs.SlurmFiles.{MayWantMemory}
use Rattle.roa_slurm.specs.SlurmFiles.{AreSlurm, HasAssertions, HasAssertionsFault, HasFilters, HasFiltersFault}
use Rattle.roa_slurm.specs.SlurmFiles.{HasPart, HasPartFault, HasSlurmFault, HasSlurmTextFault, HasVersion}
use Rattle.roa_slurm.specs.SlurmFiles.{HasVersionFault, HaveSlurmFault, IsSlurmFile, IsSlurmText, SlurmValue}
use Rattle.roa_slurm.specs.declared.fault.SlurmFault.TheVariants.{NotObject, Unknown}
use Rattle.roa_slurm.specs.declared.member.SlurmMember.TheVariants.{BgpsecAssertions, BgpsecFilters}
use Rattle.roa_slurm.specs.declared.member.SlurmMember.TheVariants.{LocallyAddedAssertions, PrefixAssertions}
use Rattle.roa_slurm.specs.declared.member.SlurmMember.TheVariants.{PrefixFilters, ValidationOutputFilters}
use Rattle.roa_slurm.specs.declared.object.SlurmObject.TheVariants.{Assertions, File, Filters}

module _ (ms : Members) where
  version_apart : (f : SlurmFault) → HasVersion ms → HasVersionFault ms f → ⊥
  version_apart f has wrong = grind (arith)

  version_one : (d e : SlurmFault) → HasVersionFault ms d → HasVersionFault ms e → d ≡ e
  version_one d e h k = grind (arith, wrong_one)

  -- a member that is an object
  part_exact : (part : SlurmMember) (whole : SlurmObject) → IsExact (HasPart part whole ms) (HasPartFault part whole ms)
  part_exact part whole = record {
    one = λ a b h k. grind (arith);
    apart = λ a f h wrong. grind (arith, known_apart);
    fault_one = λ d e h k. grind (arith, unknown_one, wrong_one);
  }

  filters_exact : IsExact (HasFilters ms) (HasFiltersFault ms)
  filters_exact =
      exact_with (part_exact ValidationOutputFilters Filters)
      (λ inner. exact_both (list_exact prefix_filter_exact PrefixFilters inner)
      (list_exact key_filter_item_exact BgpsecFilters inner))

  assertions_exact : IsExact (HasAssertions ms) (HasAssertionsFault ms)
  assertions_exact =
      exact_with (part_exact LocallyAddedAssertions Assertions)
      (λ inner. exact_both (list_exact prefix_assertion_exact PrefixAssertions inner)
      (list_exact key_item_exact BgpsecAssertions inner))

  names_apart : (f : SlurmFault) → KnowsAll File ms → (n : ℕ) × HasUnknown File 1 ms n × (f ≡ Unknown n) → ⊥
  names_apart f known h = known_apart File 1 ms h.0 known h.1

  names_one : (d e : SlurmFault) → (n : ℕ) × HasUnknown File 1 ms n × (d ≡ Unknown n)
      → (n : ℕ) × HasUnknown File 1 ms n × (e ≡ Unknown n) → d ≡ e
  names_one d e h k = grind (arith, unknown_one)

  slurm_one : (x y : SlurmValue) → AreSlurm ms x → AreSlurm ms y → x ≡ y
  slurm_one x y h k =
      let filters = filters_exact.one x.filters y.filters h.filters k.filters in
      let assertions = assertions_exact.one x.assertions y.assertions h.assertions k.assertions in
      grind (arith, filters, assertions)

  slurm_apart : (x : SlurmValue) (f : SlurmFault) → AreSlurm ms x → HaveSlurmFault ms f → ⊥
  slurm_apart x f h (inl wrong) = names_apart f h.known wrong
  slurm_apart x f h (inr (_, inl wrong)) = version_apart f h.version wrong
  slurm_apart x f h (inr (_, inr (_, inl wrong))) = filters_exact.apart x.filters f h.filters wrong
  slurm_apart x f h (inr (_, inr (_, inr (_, wrong)))) = assertions_exact.apart x.assertions f h.assertions wrong

  slurm_fault_one : IsOne (HaveSlurmFault ms)
  slurm_fault_one =
      then_one names_apart names_one (then_one version_apart version_one
      (step_one filters_exact (record { same = assertions_exact.fault_one })))

  slurm_exact : IsExact (AreSlurm ms) (HaveSlurmFault ms)
  slurm_exact = record { one = slurm_one; apart = slurm_apart; fault_one = slurm_fault_one.same }

-- ---- the text, and the file

-- a text is one object or none
object_exact : (text : List ℕ) → IsExact (IsJsonObject text)
    (λ (fault : SlurmFault). ((members : Members) → ¬ IsJsonObject text members) × (fault ≡ NotObject))
object_exact text = record {
  one = λ a b h k. grind (arith);
  apart = λ a f h wrong. wrong.0 a h;
  fault_one = λ d e h k. h.1 ∙ sym k.1;
}

text_exact : (text : List ℕ) → IsExact (IsSlurmText text) (HasSlurmTextFault text)
text_exact text = exact_with (object_exact text) slurm_exact

file_exact : (file : List ℕ) → IsExact (IsSlurmFile file) (HasSlurmFault file)
file_exact file = exact_of (unmarked_one file) text_exact

module _ (file : List ℕ) where
  -- so what is found decides the answer
  pub slurm_answer : {V : Type 0} (view : V → SlurmValue) (r : Result V (OrMemory SlurmFault))
      → MatchResult r (λ v. IsSlurmFile file (view v)) (IfRefused (HasSlurmFault file))
      → AnswersOrMemory view (IsSlurmFile file) (HasSlurmFault file) r
  slurm_answer view r found =
      AnswersOrMemory-from_found view (IsSlurmFile file) (HasSlurmFault file) (file_exact file).one
      (file_exact file).apart (file_exact file).fault_one r found

  -- what is found in the text is found in the file, and so is a request for memory
  pub slurm_found : {V : Type 0} (text : List ℕ) (view : V → SlurmValue) (r : Result V (OrMemory SlurmFault))
      → IsUnmarked file text → MatchResult r (λ v. IsSlurmText text (view v)) (IfRefused (HasSlurmTextFault text))
      → MatchResult r (λ v. IsSlurmFile file (view v)) (IfRefused (HasSlurmFault file))
  slurm_found text view r is h = grind (arith)

  pub slurm_wants : {V : Type 0} (text : List ℕ) (r : Result V (OrMemory SlurmFault)) → IsUnmarked file text
      → IfErr r (λ e. IsMemory e → IsUtf8 text) → IfErr r (λ e. IsMemory e → MayWantMemory file)
  slurm_wants text r is h = grind (arith)
