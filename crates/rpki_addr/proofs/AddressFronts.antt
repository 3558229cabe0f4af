-- Texts that begin with an address or are one: what std's readers find in them, as the number of the address.
use Rattle.rpki_addr.proofs.Common.{List, None, Result, Some, [], ap, append-nil, arith, lit≤, option_map, refl, sym, ℕ}
use Rattle.rpki_addr.proofs.Common.{◌++◌, ◌∙◌, ◌≡◌, read_ipv4_complete, read_ipv4_sound, read_ipv6_complete}
use Rattle.rpki_addr.proofs.Common.{read_ipv6_sound, same_parts, none-some, same_Some, Read, read_ipv4, read_ipv6}
use Rattle.rpki_addr.proofs.Common.{whole_value, from_groups, from_octets, IsIpv4Text, IsIpv6Text}
use Rattle.std.proofs.lemmas.List.{nil_from_length}
use Rattle.std.specs.Prelude.{MatchResult}
use Rattle.rpki_text.specs.Reading.{Answers}
use Rattle.rpki_text.proofs.ReadingLemmas.{Answers-from_found}
use Rattle.rpki_addr.specs.AddressFronts.{IsAtFront, EndsIpv4, EndsIpv6}
use Rattle.rpki_addr.proofs.AddressLemmas.{IsDotted-ipv4, IsIpv4Text-dotted, IsColonHex-groups, IsGroupsText-colon_hex}

-- what was read, as a number
abbrev pub numbered_by : (List ℕ → ℕ) → Read (List ℕ) → Read ℕ
numbered_by f r = option_map (λ (p : List ℕ × List ℕ). (f p.0, p.1)) r

-- is that of what std's reader read
pub seen_some : (f : List ℕ → ℕ) (r : Read (List ℕ)) (n : ℕ) (rest : List ℕ)
    → ◌≡◌ {A = Read ℕ} (Some (n, rest)) (numbered_by f r) → (o : List ℕ) × (r ≡ Some (o, rest)) × (f o ≡ n)
seen_some f r n rest e = grind (arith, none-some, same_parts)

-- the answer is the number that is read of a whole text, or the fault where none is
abbrev pub IsReadWhole : {E : Type 0} → E → Read ℕ → Result ℕ E → Type 0
IsReadWhole fault read r =
    MatchResult r (λ n. Some n ≡ whole_value read) (λ e. (e ≡ fault) × (None ≡ whole_value read))

-- std's reader of a family reads what is written, and reads it where the text ends or goes on with no more of it
pub record Reader (f : List ℕ → ℕ) (read : List ℕ → Read (List ℕ)) (Writes : List ℕ → ℕ → Type 0)
    (Ends : List ℕ → Type 0) : Type 0 where
  sound : (text o rest : List ℕ) → read text ≡ Some (o, rest)
      → (front : List ℕ) × (text ≡ front ++ rest) × Writes front (f o)
  complete : (text : List ℕ) (n : ℕ) (rest : List ℕ) → Writes text n → Ends rest
      → numbered_by f (read (text ++ rest)) ≡ Some (n, rest)
  at_end : Ends []

pub ipv4_reader : Reader from_octets read_ipv4 IsIpv4Text EndsIpv4
ipv4_reader = record {
  sound = λ text o rest e. grind (arith, read_ipv4_sound text o rest e, IsDotted-ipv4);
  complete = λ text n rest h ends.
      grind (arith, read_ipv4_complete text h.octets rest (IsIpv4Text-dotted text n h) ends);
  at_end = lit≤ tt;
}

pub ipv6_reader : Reader from_groups read_ipv6 IsIpv6Text EndsIpv6
ipv6_reader = record {
  sound = λ text o rest e.
      let (front, split, h) = read_ipv6_sound text o rest e in
      (front, split, record { groups = o; written = IsColonHex-groups front o h; value = refl });
  complete = λ text n rest h ends.
      let colons = IsGroupsText-colon_hex text h.groups h.written in
      grind (arith, read_ipv6_complete text h.groups rest colons, ends.no_digit, ends.no_dot, ends.no_colon);
  at_end = record { no_digit = lit≤ tt; no_dot = λ e. omega arith; no_colon = λ e. omega arith };
}

module _ {f : List ℕ → ℕ} {read : List ℕ → Read (List ℕ)} {Writes : List ℕ → ℕ → Type 0} {Ends : List ℕ → Type 0}
    (reader : Reader f read Writes Ends) where
  -- what was found stands there
  pub found : (text : List ℕ) (n : ℕ) (rest : List ℕ)
      → ◌≡◌ {A = Read ℕ} (Some (n, rest)) (numbered_by f (read text)) → IsAtFront Writes text n rest
  found text n rest e = grind (arith, seen_some)

  -- and what stands there is found, so nothing else is, and something is
  pub at_front : (text : List ℕ) (n : ℕ) (rest : List ℕ) → IsAtFront Writes text n rest → Ends rest
      → numbered_by f (read text) ≡ Some (n, rest)
  at_front text n rest h ends = rw h.split (reader.complete h.front n rest h.writes ends)

  -- the same of a whole text
  whole : (text : List ℕ) (n : ℕ) → Writes text n → numbered_by f (read text) ≡ Some (n, [])
  whole text n h = rw append-nil at (reader.complete text n [] h reader.at_end)

  -- a text writes one number at most
  pub whole_one : (text : List ℕ) (m n : ℕ) → Writes text m → Writes text n → m ≡ n
  whole_one text m n h k = (same_parts m n [] [] (sym (whole text m h) ∙ whole text n k)).0

  whole_some : (text : List ℕ) (n : ℕ) → Some n ≡ whole_value (numbered_by f (read text)) → Writes text n
  whole_some text n e =
      let h = found text n [] (grind (arith, none-some, same_Some, nil_from_length)) in
      rw (h.split, append-nil h.front) h.writes

  whole_none : (text : List ℕ) → None ≡ whole_value (numbered_by f (read text)) → (n : ℕ) → Writes text n → ⊥
  whole_none text e n h = none-some n (e ∙ ap whole_value (whole text n h))

  whole_found : {E : Type 0} (fault : E) (text : List ℕ) (r : Result ℕ E)
      → IsReadWhole fault (numbered_by f (read text)) r
      → MatchResult r (Writes text) (λ e. (e ≡ fault) × ((n : ℕ) → ¬ Writes text n))
  whole_found fault text r is = grind (arith, whole_none, whole_some)

  -- what is read of a whole text is the right answer
  pub whole_answers : {E : Type 0} (fault : E) (text : List ℕ) (r : Result ℕ E)
      → IsReadWhole fault (numbered_by f (read text)) r
      → Answers (Writes text) (λ e. (e ≡ fault) × ((n : ℕ) → ¬ Writes text n)) r
  whole_answers fault text r is = grind (arith, Answers-from_found, found, whole_found, whole_one)
