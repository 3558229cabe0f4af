-- Lemmas on the lists of a SLURM file. An item has one value, or one fault. A list has the same.
use Rattle.std.proofs.Common.{List, None, Option, Some, arith, inl, inr, sym, ℕ, ◌+◌, ◌∙◌, ◌≡◌}
use Rattle.std.proofs.Common.{◌⊎◌}
use Rattle.json.specs.Json.{Items, Json, Members, item, member, no_items, no_members}
use Rattle.rpki_prefix.specs.MaxLen.{MaxLenValue}
use Rattle.roa_vrps.proofs.MemberLemmas.{wrong_one}
use Rattle.roa_slurm.proofs.Common.{FamilyPrefix, HasUnknown, KnowsAll, SlurmItemFault}
use Rattle.roa_slurm.proofs.Common.{SlurmMember, SlurmObject, AreEntries, HaveInvalid}
use Rattle.roa_slurm.proofs.Common.{HaveAssertionFault, HaveKeyFault, HaveKeyFilterFault}
use Rattle.roa_vrps.proofs.Outcomes.{IsExact, exact_with}
use Rattle.roa_slurm.proofs.OutcomeLemmas.{IsOne, one_of, step_one, then_one}
use Rattle.roa_slurm.proofs.PartOutcomes.{asn_exact, prefix_exact, need_asn, need_prefix, longest_exact}
use Rattle.roa_slurm.proofs.PartOutcomes.{asn_apart, asn_one, longest_apart}
use Rattle.roa_slurm.proofs.PartOutcomes.{longest_one, optional_apart, prefix_apart, prefix_one}
use Rattle.roa_slurm.proofs.PartOutcomes.{required_apart}
use Rattle.roa_slurm.proofs.PartOutcomes.{required_fault_one}
use Rattle.roa_slurm.proofs.PartOutcomes.{text_fault_one}
use Rattle.roa_slurm.specs.Entries.{AreAssertion, AreFilter, AreKey, AreKeyFilter, HasKeyAssertionFault}
use Rattle.roa_slurm.specs.Entries.{HasKeyFilterFault, HasPrefixAssertionFault, HasPrefixFilterFault, HasShapeFault}
use Rattle.roa_slurm.specs.Entries.{HaveFilterFault, IsFilterBy, IsItemOf, IsKeyAssertion, IsKeyFilter}
use Rattle.roa_slurm.specs.Entries.{IsPrefixAssertion, IsPrefixFilter}
use Rattle.roa_slurm.specs.Lists.{HasList, HasListFault}
use Rattle.roa_slurm.specs.declared.filter.PrefixFilter.{PrefixFilter}
use Rattle.roa_slurm.specs.declared.bgpsec.KeyAssertion.{KeyAssertion}
use Rattle.roa_slurm.specs.declared.bgpsec.KeyFilter.{KeyFilter}
use Rattle.roa_slurm.specs.declared.member.SlurmMember.TheVariants.{Comment, RouterPublicKey, Ski}
use Rattle.roa_slurm.specs.declared.object.SlurmObject.TheVariants.{BgpsecAssertionItem, BgpsecFilterItem}
use Rattle.roa_slurm.specs.declared.object.SlurmObject.TheVariants.{PrefixAssertionItem, PrefixFilterItem}

-- ---- names

-- no name is unknown if all names are known
pub known_apart : (whole : SlurmObject) (first : ℕ) (ms : Members) (n : ℕ) → KnowsAll whole ms
    → HasUnknown whole first ms n → ⊥
known_apart whole first no_members n known wrong = wrong
known_apart whole first (member key value ms) n h wrong = grind (arith, known_apart whole (first + 1) ms)

-- members have at most one first unknown name
pub unknown_one : (whole : SlurmObject) (first : ℕ) (ms : Members) (m n : ℕ) → HasUnknown whole first ms m
    → HasUnknown whole first ms n → m ≡ n
unknown_one whole first no_members m n h k = absurd h
unknown_one whole first (member key value ms) m n h k = grind (arith, unknown_one whole (first + 1) ms)

-- ---- members of items

-- a prefix and an AS number give at most one filter
filter_by_one : (p : Option FamilyPrefix) (n : Option ℕ) (a b : PrefixFilter) → IsFilterBy p n a → IsFilterBy p n b
    → a ≡ b
filter_by_one p n a b h k = grind (arith)

-- no filter is given if both the prefix and the AS number are missing
no_filter : (p : Option FamilyPrefix) (n : Option ℕ) (a : PrefixFilter) → IsFilterBy p n a → p ≡ None → n ≡ None → ⊥
no_filter p n a h none empty = grind (arith)

-- one of two members is there
none_left : {A B : Type 0} → (¬ A) ⊎ (¬ B) → A → B → ⊥
none_left h a b = grind (arith)

module _ (ms : Members) where
  -- ---- a filter of VRPs

  filter_one : (a b : PrefixFilter) → AreFilter ms a → AreFilter ms b → a ≡ b
  filter_one a b h k = grind (arith, asn_one, prefix_one)

  filter_apart : (a : PrefixFilter) (f : SlurmItemFault) → AreFilter ms a → HaveFilterFault ms f → ⊥
  filter_apart a f (p, has_p, n, has_n, comment, is) (inl wrong) = prefix_apart ms p f has_p wrong
  filter_apart a f (p, has_p, n, has_n, comment, is) (inr (_, inl wrong)) = asn_apart ms n f has_n wrong
  filter_apart a f (p, has_p, n, has_n, comment, is) (inr (_, inr (_, inl wrong))) =
      optional_apart Comment ms f comment wrong
  filter_apart a f (p, has_p, n, has_n, comment, is) (inr (_, inr (_, inr (_, (no_p, no_n, _))))) =
      no_filter p n a is (prefix_one ms p None has_p no_p) (asn_one ms n None has_n no_n)

  filter_fault_one : IsOne (HaveFilterFault ms)
  filter_fault_one =
      step_one (prefix_exact ms) (step_one (asn_exact ms) (then_one (optional_apart Comment ms)
      (text_fault_one Comment ms) (record { same = λ d e h k. h.2 ∙ sym k.2 })))

  filter_exact : IsExact (AreFilter ms) (HaveFilterFault ms)
  filter_exact = record { one = filter_one; apart = filter_apart; fault_one = filter_fault_one.same }

  -- ---- an added VRP

  assertion_one : (x y : MaxLenValue × ℕ) → AreAssertion ms x → AreAssertion ms y → x ≡ y
  assertion_one x y h k =
      let prefix = prefix_one ms (Some x.0.prefix) (Some y.0.prefix) h.prefix k.prefix in
      let asn = asn_one ms (Some x.1) (Some y.1) h.asn k.asn in
      let same : x.0.prefix ≡ y.0.prefix = cc in
      let len = longest_one ms y.0.prefix h.longest k.longest (rw same at h.allows) k.allows in
      grind (arith, same, asn, len, h.max_len, k.max_len)

  assertion_apart : (x : MaxLenValue × ℕ) (f : SlurmItemFault) → AreAssertion ms x → HaveAssertionFault ms f → ⊥
  assertion_apart x f h (inl wrong) = (need_prefix ms).apart x.0.prefix f h.prefix wrong
  assertion_apart x f h (inr (_, inl wrong)) = (need_asn ms).apart x.1 f h.asn wrong
  assertion_apart x f h (inr (_, inr (_, (q, has, inl wrong)))) =
      let same = (need_prefix ms).one x.0.prefix q h.prefix has in
      longest_apart ms q h.longest f (rw same at h.allows) wrong
  assertion_apart x f h (inr (_, inr (_, (q, has, inr (_, wrong))))) = optional_apart Comment ms f h.comment wrong

  assertion_fault_one : IsOne (HaveAssertionFault ms)
  assertion_fault_one =
      step_one (need_prefix ms) (step_one (need_asn ms) (one_of (need_prefix ms).one
      (λ p. step_one (longest_exact ms p) (record { same = text_fault_one Comment ms }))))

  assertion_exact : IsExact (AreAssertion ms) (HaveAssertionFault ms)
  assertion_exact = record { one = assertion_one; apart = assertion_apart; fault_one = assertion_fault_one.same }

  -- ---- a filter of router keys

  key_filter_apart : (f : SlurmItemFault) → AreKeyFilter ms → HaveKeyFilterFault ms f → ⊥
  key_filter_apart f h (inl wrong) = asn_apart ms h.asn f h.has_asn wrong
  key_filter_apart f h (inr (_, inl wrong)) = optional_apart Ski ms f h.identifier wrong
  key_filter_apart f h (inr (_, inr (_, inl wrong))) = optional_apart Comment ms f h.comment wrong
  key_filter_apart f h (inr (_, inr (_, inr (_, (no_asn, no_ski, _))))) = none_left h.some no_asn no_ski

  key_filter_fault_one : IsOne (HaveKeyFilterFault ms)
  key_filter_fault_one =
      step_one (asn_exact ms) (then_one (optional_apart Ski ms) (text_fault_one Ski ms)
      (then_one (optional_apart Comment ms) (text_fault_one Comment ms) (record { same = λ d e h k. h.2 ∙ sym k.2 })))

  key_filter_exact : IsExact (λ (key : KeyFilter). AreKeyFilter ms) (HaveKeyFilterFault ms)
  key_filter_exact = record {
    one = λ a b h k. search (arith);
    apart = λ a f h wrong. key_filter_apart f h wrong;
    fault_one = key_filter_fault_one.same;
  }

  -- ---- an added router key

  key_apart : (f : SlurmItemFault) → AreKey ms → HaveKeyFault ms f → ⊥
  key_apart f h (inl wrong) = (need_asn ms).apart h.asn f h.has_asn wrong
  key_apart f h (inr (_, inl wrong)) = required_apart Ski ms f h.identifier wrong
  key_apart f h (inr (_, inr (_, inl wrong))) = required_apart RouterPublicKey ms f h.key wrong
  key_apart f h (inr (_, inr (_, inr (_, wrong)))) = optional_apart Comment ms f h.comment wrong

  key_fault_one : IsOne (HaveKeyFault ms)
  key_fault_one =
      step_one (need_asn ms) (then_one (required_apart Ski ms) (required_fault_one Ski ms)
      (then_one (required_apart RouterPublicKey ms) (required_fault_one RouterPublicKey ms)
      (record { same = text_fault_one Comment ms })))

  key_exact : IsExact (λ (key : KeyAssertion). AreKey ms) (HaveKeyFault ms)
  key_exact = record {
    one = λ a b h k. search (arith);
    apart = λ a f h wrong. key_apart f h wrong;
    fault_one = key_fault_one.same;
  }

-- ---- items

shape_exact : (whole : SlurmObject) (value : Json) → IsExact (IsItemOf whole value) (HasShapeFault whole value)
shape_exact whole value = record {
  one = λ a b h k. grind (arith);
  apart = λ a f h wrong. grind (arith, known_apart);
  fault_one = λ d e h k. grind (arith, unknown_one);
}

pub prefix_filter_exact : (value : Json) → IsExact (IsPrefixFilter value) (HasPrefixFilterFault value)
prefix_filter_exact value = exact_with (shape_exact PrefixFilterItem value) filter_exact

pub prefix_assertion_exact : (value : Json) → IsExact (IsPrefixAssertion value) (HasPrefixAssertionFault value)
prefix_assertion_exact value = exact_with (shape_exact PrefixAssertionItem value) assertion_exact

pub key_filter_item_exact : (value : Json) → IsExact (IsKeyFilter value) (HasKeyFilterFault value)
key_filter_item_exact value = exact_with (shape_exact BgpsecFilterItem value) key_filter_exact

pub key_item_exact : (value : Json) → IsExact (IsKeyAssertion value) (HasKeyAssertionFault value)
key_item_exact value = exact_with (shape_exact BgpsecAssertionItem value) key_exact

-- ---- lists

module _ {X : Type 0} {Is : Json → X → Type 0} {Fails : Json → SlurmItemFault → Type 0}
    (each : (j : Json) → IsExact (Is j) (Fails j)) where
  entries_one : (items : Items) (a b : List X) → AreEntries Is items a → AreEntries Is items b → a ≡ b
  entries_one no_items a b h k = h ∙ sym k
  entries_one (item value items) a b h k = grind (arith, (each value).one, entries_one items)

  apart : (j : Json) (x : X) (e : SlurmItemFault) → Is j x → Fails j e → ⊥
  apart j = (each j).apart

  fault_one : (j : Json) (d e : SlurmItemFault) → Fails j d → Fails j e → d ≡ e
  fault_one j = (each j).fault_one

  entries_apart : (first : ℕ) (items : Items) (a : List X) (n : ℕ) (f : SlurmItemFault) → AreEntries Is items a
      → HaveInvalid Is Fails first items n f → ⊥
  entries_apart first no_items a n f h wrong = wrong
  entries_apart first (item value items) a n f h wrong = grind (arith, apart, entries_apart (first + 1) items)

  invalid_one : (first : ℕ) (items : Items) (m n : ℕ) (d e : SlurmItemFault) → HaveInvalid Is Fails first items m d
      → HaveInvalid Is Fails first items n e → (m ≡ n) × (d ≡ e)
  invalid_one first no_items m n d e h k = absurd h
  invalid_one first (item value items) m n d e h k = grind (arith, apart, fault_one, invalid_one (first + 1) items)

  pub list_exact : (part : SlurmMember) (ms : Members) → IsExact (HasList Is part ms) (HasListFault Is Fails part ms)
  list_exact part ms = record {
    one = λ a b h k. grind (arith, entries_one);
    apart = λ a f h wrong. grind (arith, entries_apart);
    fault_one = λ d e h k. grind (arith, invalid_one, wrong_one);
  }
