-- Cover lists of IPv4 addresses, at width 32 and as prefixes of addresses of 128 bits.
use Rattle.rpki_cover.proofs.Common.{List, arith, map, refl, suc, zero, ℕ, ◌%◌, ◌*◌, ◌+◌, ◌-◌, ◌/◌, ◌<◌, ◌^◌, ◌≡◌, ◌≤◌}
use Rattle.rpki_cover.proofs.Common.{cases_lt, le-leb, lt-leb, pow-add, pow_pos, IsPrefix, PrefixValue, IsCoverList}
use Rattle.rpki_cover.proofs.Common.{IsShortestCover, widened, cover_list, cover_list_upto, free_bits_upto}
use Rattle.rpki_cover.proofs.GreatestBlock.{free_bits_upto_is, same_greatest}
use Rattle.rpki_cover.proofs.Multiples.{IsMultiple, multiple_mod, mod_multiple}
use Rattle.rpki_cover.proofs.NestedPrefixes.{InRange}
use Rattle.rpki_cover.proofs.ShortestCover.{range_cover}
use Rattle.rpki_cover.proofs.CoverSteps.{cover_list_fuel}

-- the last address of the IPv4 address b
abbrev pub last_v4 : ℕ → ℕ
last_v4 b = b * 2 ^ 96 + 79228162514264337593543950335

-- a multiple with 96 bits behind it is one of a power with 96 bits behind it
wide_multiple : (k a : ℕ) → IsMultiple (2 ^ k) a → IsMultiple (2 ^ (k + 96)) (a * 2 ^ 96)
wide_multiple k a m = record { times = m.times; is = rw (pow-add 2 k 96) (omega (arith, m.is)) }

narrow_multiple : (k a : ℕ) → IsMultiple (2 ^ (k + 96)) (a * 2 ^ 96) → IsMultiple (2 ^ k) a
narrow_multiple k a m = record { times = m.times; is = omega (arith, rw (pow-add 2 k 96) at m.is) }

-- a prefix of IPv4 addresses is one of addresses of 128 bits
pub widened_prefix : (p : PrefixValue) → IsPrefix 32 p → IsPrefix 128 (widened p)
widened_prefix p is =
    let wide = wide_multiple (32 - p.len) p.first (mod_multiple (32 - p.len) p.first is.aligned) in
    grind (arith, wide, multiple_mod, pow_pos)

-- the widths are variables, since `free_bits_upto` unfolds at a numeral
module _ (w v : ℕ) (wider : w ≡ v + 96) where
  wide_bits : (a b : ℕ) → a ≤ b → free_bits_upto w (a * 2 ^ 96) (last_v4 b) ≡ free_bits_upto v a b + 96
  wide_bits a b order =
      let g = free_bits_upto_is v a b order in
      same_greatest w _ _ _ _ (free_bits_upto_is w _ _ (omega arith)) (record {
        upto = omega arith;
        aligned = wide_multiple _ a g.aligned;
        within = omega (arith, pow-add 2 (free_bits_upto v a b) 96);
        greatest = λ j more less m.
            grind (arith, g.greatest (j - 96), narrow_multiple (j - 96) a, pow-add 2 (j - 96) 96);
      })

  wide_upto : (n a b : ℕ) → cover_list_upto n w (a * 2 ^ 96) (last_v4 b) ≡ map widened (cover_list_upto n v a b)
  wide_upto zero a b = refl
  wide_upto (suc n) a b =
      grind (arith, wide_bits a b, pow-add, le-leb, lt-leb, cases_lt b a, wide_upto n (a + 2 ^ free_bits_upto v a b) b)

  wide_at : (a b : ℕ) → cover_list w (a * 2 ^ 96) (last_v4 b) ≡ map widened (cover_list v a b)
  unfolding cover_list
  wide_at a b = grind (arith, cover_list_fuel, wide_upto)

-- the cover list of a range of whole IPv4 addresses is that of these addresses, with 96 bits behind each
pub whole_list : (min max : ℕ) → min % 2 ^ 96 ≡ 0 → (max + 1) % 2 ^ 96 ≡ 0
    → cover_list 128 min max ≡ map widened (cover_list 32 (min / 2 ^ 96) (max / 2 ^ 96))
whole_list min max begins ends =
    let low : min ≡ min / 2 ^ 96 * 2 ^ 96 = omega (arith, begins) in
    let high : max ≡ last_v4 (max / 2 ^ 96) = omega (arith, ends) in
    let wide = wide_at 128 32 refl (min / 2 ^ 96) (max / 2 ^ 96) in
    cc

-- the cover list at width 32 of the first 32 bits of a range of whole IPv4 addresses is the range's shortest cover
pub whole_cover : (min max : ℕ) (ps : List PrefixValue) → min % 2 ^ 96 ≡ 0 → (max + 1) % 2 ^ 96 ≡ 0 → max < 2 ^ 128
    → IsCoverList 32 (InRange (min / 2 ^ 96) (max / 2 ^ 96)) ps → IsShortestCover 128 (InRange min max) (map widened ps)
whole_cover min max ps begins ends below is =
    let narrow = range_cover 32 (min / 2 ^ 96) (max / 2 ^ 96) (omega (arith, below)) in
    rw (narrow.only ps is, ← whole_list min max begins ends) (range_cover 128 min max below)
