-- A length in digits at the front of a text.
use Rattle.rpki_ip.proofs.Common.{List, arith, drop, length, length-drop, refl, take, ℕ, ◌-◌, ◌<◌, ◌≡◌, ◌≤◌}
use Rattle.rpki_ip.proofs.Common.{length-take, take-append-drop, cleared, PrefixValue, width, width_small, IsPrefixAt}
use Rattle.std.specs.Str.Parse.{AllDigits, digits_value}
use Rattle.std.proofs.lemmas.Str.Parse.{without_leading_plus_none, digit_at}
use Rattle.rpki_text.specs.Numbers.{IsNumberText, AreDigitsFrom}
use Rattle.rpki_addr.specs.AddressFronts.{IsAtFront}
use Rattle.rpki_ip.specs.AddrText.{first_of}
use Rattle.rpki_addr.specs.declared.addr.IpAddr.{IpAddr}

-- digits are a number text
digits_are_number : (limit : ℕ) (ds : List ℕ) (n : ℕ) → 0 < length ds → AllDigits 10 ds → digits_value 10 ds ≡ n
    → n ≤ limit → IsNumberText limit ds n
digits_are_number limit ds n some all value small =
    grind (arith, digit_at ds 0 all some, without_leading_plus_none)

-- so digits at the front are a length, where the family has it
pub prefix_at : (first : IpAddr) (text : List ℕ) (n end : ℕ) (p : PrefixValue) → AreDigitsFrom 0 end text n
    → (end ≡ 0 → ⊥) → n ≤ width first → p ≡ record { first = cleared 128 (first_of first) n; len = n }
    → IsAtFront (λ t p. AllDigits 10 t × IsPrefixAt first t p) text p (drop end text)
prefix_at first text n end p h some small is =
    let digits = take (end - 0) (drop 0 text) in
    let count : length digits ≡ end = omega (arith, length-take {A = ℕ}, length-drop 0 text, h.digits.within) in
    let ten = h.digits.all_digits in
    let byte : n ≤ 255 = omega (arith, width_small first) in
    let number = digits_are_number 255 digits n (omega (arith, count, some)) ten h.digits.value byte in
    record {
      front = digits;
      split = grind (arith, take-append-drop (end - 0) text);
      writes = (ten, rw is (record { length_text = number; within = small; first = refl }));
    }
