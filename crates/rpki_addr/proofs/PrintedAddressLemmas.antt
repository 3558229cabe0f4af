-- What is printed of an IPv6 address is the one text that its groups ask for.
use Rattle.rpki_addr.proofs.Common.{List, [], AllSegments, AllSegments-drop, append_assoc, cond_both, drop_at}
use Rattle.rpki_addr.proofs.Common.{last_digit_below, length-append, length-replicate, ◌⊎◌, ap, ap₂, arith, codes, drop}
use Rattle.rpki_addr.proofs.Common.{flat_map, inl, inr, le-ltb, length, length-take-le, lit<, lt-ltb, map, refl}
use Rattle.rpki_addr.proofs.Common.{replicate, suc, sym, take, ℕ, ◌%◌, ◌++◌, ◌+◌, ◌<◌, ◌≤◌, ◌^◌, ◌∷◌, ◌≡◌}
use Rattle.rpki_addr.proofs.Common.{div-div-eq-div-mul, cases_lt, lt-leb, append_cancel_left, div_below, hex}
use Rattle.rpki_addr.proofs.Common.{hex_groups_text, longest_zero_run, number-last_digits, groups_of, HasZeroRun}
use Rattle.rpki_addr.proofs.Common.{IsFirstLongestRun, IsMapped, IsPrintedIpv6, IsShortened, IsUnshortened, hex_text}
use Rattle.rpki_addr.proofs.Common.{ipv4_text, ipv6_text}
use Rattle.std.proofs.Common.{take-add}
use Rattle.std.specs.Net.Addr.{octets_of as std_octets_of}
use Rattle.std.specs.Net.Text as std
use Rattle.std.specs.Net.Text.{ipv6_text as std_ipv6_text}
use Rattle.std.proofs.lemmas.List.{take-append-drop, take_at}
use Rattle.std.proofs.lemmas.Slice.Eq.{bytes_eq-Decides}
use Rattle.std.proofs.NetLemmas.Texts.{AllSegments-take, IsZeroRun, IsZeroRun-longest_zero_run, longest_zero_run_first}
use Rattle.rpki_addr.specs.PrintedAddress.{groups_text}
use Rattle.rpki_addr.proofs.AddressLemmas.{dotted_is}
use Rattle.rpki_text.proofs.CutLemmas.{same_rest}

-- a group in hexadecimal, as std writes it
hex_is : (g : ℕ) → g < 0x10000 → hex g ≡ hex_text g
unfolding hex
hex_is g small = grind (arith, cases_lt, lt-leb)

-- groups with colons between them, as std writes them
more_groups_are : (groups : List ℕ) → AllSegments groups
    → flat_map (λ t. codes ":" ++ hex t) groups ≡ flat_map (λ next. codes ":" ++ next) (map hex_text groups)
more_groups_are [] h = refl
more_groups_are (g ∷ groups) h = ap₂ (λ t u. 58 ∷ (t ++ u)) (hex_is g (h 0)) (more_groups_are groups (λ k. h (suc k)))

groups_text_is : (groups : List ℕ) → AllSegments groups → std.groups_text groups ≡ groups_text groups
groups_text_is [] h = refl
groups_text_is (g ∷ groups) h = ap₂ (λ t u. t ++ u) (hex_is g (h 0)) (more_groups_are groups (λ k. h (suc k)))

-- a run of zeros is one of std's
zero_run_at : (groups before : List ℕ) (m : ℕ) (after : List ℕ) → HasZeroRun groups before m after
    → IsZeroRun groups (length before) m
zero_run_at groups before m after e = grind (arith, drop_at, length-append, length-replicate, take_at)

-- the run that std chooses is the first longest one
chosen_run : (groups : List ℕ)
    → IsFirstLongestRun groups (take (longest_zero_run groups).0 groups) (longest_zero_run groups).1
    (drop ((longest_zero_run groups).0 + (longest_zero_run groups).1) groups)
chosen_run groups =
    let start = (longest_zero_run groups).0 in
    let n = (longest_zero_run groups).1 in
    let (within, zeros) = IsZeroRun-longest_zero_run groups in
    let back = drop (start + n) groups in
    let run : HasZeroRun groups (take start groups) n back =
    rw (← append_assoc (take start groups) (replicate n 0) back, ← zeros, ← take-add start n groups)
    (sym (take-append-drop (start + n) groups)) in
    grind (arith, run, longest_zero_run_first groups, zero_run_at groups, length-take-le start groups)

-- two or more zero groups are shortened, and fewer are not
printed_groups : (groups : List ℕ) → AllSegments groups
    → IsShortened groups (hex_groups_text groups) ⊎ IsUnshortened groups (hex_groups_text groups)
unfolding hex_groups_text
printed_groups groups fits =
    let start = (longest_zero_run groups).0 in
    let n = (longest_zero_run groups).1 in
    let back = drop (start + n) groups in
    let chosen = chosen_run groups in
    let before = groups_text_is (take start groups) (AllSegments-take start groups fits) in
    let behind = groups_text_is back (AllSegments-drop (start + n) groups fits) in
    elim (cases_lt 1 n) [
      | inl some ↦
          let two : 2 ≤ n = omega (arith, some) in
          let spelled : hex_groups_text groups ≡ groups_text (take start groups) ++ codes "::" ++ groups_text back =
          rw (lt-ltb 1 n some, before, behind) refl in
          inl (search (chosen, two, spelled))
      | inr few ↦ inr (grind (arith, chosen, groups_text_is groups fits, le-ltb))
    ]

-- the first six groups tell whether the address is mapped
first_six : (n : ℕ) → n < 2 ^ 128 → take 6 (groups_of n) ≡ 0 ∷ 0 ∷ 0 ∷ 0 ∷ 0 ∷ 0xffff ∷ [] → IsMapped n
first_six n small is = grind (arith, div-div-eq-div-mul, div_below, number-last_digits)

six_first : (n : ℕ) → IsMapped n → take 6 (groups_of n) ≡ 0 ∷ 0 ∷ 0 ∷ 0 ∷ 0 ∷ 0xffff ∷ []
six_first n mapped = grind (arith, div-div-eq-div-mul)

-- the last two groups are the last 32 bits
last_bits : (n : ℕ) → std.ipv4_text (std_octets_of (drop 6 (groups_of n))) ≡ ipv4_text (n % 2 ^ 32)
last_bits n = grind (arith, dotted_is)

-- what std prints is printed so
pub IsPrintedIpv6-ipv6_text : (n : ℕ) → n < 2 ^ 128 → IsPrintedIpv6 n (ipv6_text n)
unfolding ipv6_text std_ipv6_text
IsPrintedIpv6-ipv6_text n small =
    let test = bytes_eq-Decides (take 6 (groups_of n)) (0 ∷ 0 ∷ 0 ∷ 0 ∷ 0 ∷ 0xffff ∷ []) in
    let groups = printed_groups (groups_of n) (last_digit_below 0x10000 (lit< tt) 8 n) in
    cond_both _ _ _ (IsPrintedIpv6 n)
    (λ is. inl (first_six n small (test.0 is), ap (λ t. codes "::ffff:" ++ t) (last_bits n)))
    (λ other. inr ((λ mapped. let e = test.1 (six_first n mapped) in cc), groups))

-- fronts of one length, before equal lists
same_front : (xs ys rest other : List ℕ) → length xs ≡ length ys → xs ++ rest ≡ ys ++ other → xs ≡ ys
same_front xs ys rest other l e = grind (arith, take_at xs rest (length xs) refl, take_at ys other (length xs) (sym l))

-- groups have one first longest run
one_shortened : (groups text other : List ℕ) → IsShortened groups text → IsShortened groups other → text ≡ other
one_shortened groups text other h k = grind (arith, append_cancel_left, same_front, same_rest)

-- and what is mapped, or not, has one text
one_way : (P : Type 0) (mapped groups text other : List ℕ)
    → (P × (text ≡ mapped)) ⊎ ((P → ⊥) × (IsShortened groups text ⊎ IsUnshortened groups text))
    → (P × (other ≡ mapped)) ⊎ ((P → ⊥) × (IsShortened groups other ⊎ IsUnshortened groups other)) → text ≡ other
one_way P mapped groups text other h k = grind (arith, one_shortened groups text other)

-- an address is printed in one way
pub IsPrintedIpv6-one : (n : ℕ) (text other : List ℕ) → IsPrintedIpv6 n text → IsPrintedIpv6 n other → text ≡ other
IsPrintedIpv6-one n text other = one_way (IsMapped n) _ (groups_of n) text other

-- the text of an address that is mapped, and of one that isn't
pub mapped_is : (n : ℕ) → n < 2 ^ 128 → IsMapped n → ipv6_text n ≡ codes "::ffff:" ++ ipv4_text (n % 2 ^ 32)
mapped_is n small mapped = IsPrintedIpv6-one n _ _ (IsPrintedIpv6-ipv6_text n small) (inl (mapped, refl))

pub unmapped_is : (n : ℕ) → n < 2 ^ 128 → ¬ IsMapped n → ipv6_text n ≡ hex_groups_text (groups_of n)
unmapped_is n small other =
    let groups = printed_groups (groups_of n) (last_digit_below 0x10000 (lit< tt) 8 n) in
    IsPrintedIpv6-one n _ _ (IsPrintedIpv6-ipv6_text n small) (inr (other, groups))
