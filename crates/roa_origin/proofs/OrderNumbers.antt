-- What the numbers of a table's order say: a place tells the prefix, a rank the AS number and the maximum length.
use Rattle.roa_origin.proofs.Common.{All, Bool, List, Option, ap, arith, get_or, ℕ, ◌*◌, ◌+◌, ◌-◌, ◌<◌, ◌^◌, ◌≡◌, ◌≤◌}
use Rattle.roa_origin.proofs.Common.{pow_below, pow_pos, IsNonDecreasingBy, bool_cmp, nat_cmp, ordering_then, IpAddr}
use Rattle.roa_origin.proofs.Common.{round_covers, CoversPrefix, FamilyPrefix, IsFamilyPrefix, address_number, width}
use Rattle.roa_origin.proofs.Common.{addr_of, IsLawfulVrp, Vrp, longest, family_place, vrp_place, place, rank}
use Rattle.roa_origin.proofs.Common.{table_place, max_len_flag}
use Rattle.std.proofs.lemmas.Bool.Decides.{nat_tests}
use Rattle.rpki_addr.proofs.WidthLemmas.{width_small}
use Rattle.roa_origin.proofs.NestedRoutes.{len_small, number_small, same_place, same_width}

-- what a prefix covers is no shorter
pub covers_len : (p q : FamilyPrefix) → IsFamilyPrefix p → CoversPrefix p q → p.len ≤ q.len
covers_len p q is c =
    grind (arith, is.short, pow_below (width p.addr - p.len) (width p.addr - q.len), pow_pos, round_covers, same_width)

same_addr : (a b : IpAddr) → family_place a ≡ family_place b → address_number a ≡ address_number b → a ≡ b
same_addr a b e f = grind (arith)

-- prefixes of one place are the same
pub same_prefix : (p q : FamilyPrefix) → IsFamilyPrefix p → IsFamilyPrefix q → place p ≡ place q → p ≡ q
same_prefix p q is is' e = grind (arith, len_small, number_small, same_addr)

-- what covers a prefix and is no shorter comes no earlier
pub no_earlier : (p q : FamilyPrefix) → CoversPrefix p q → p.len ≡ q.len → place q ≤ place p
no_earlier p q c e = grind (arith, pow_pos, round_covers, same_place, same_width)

-- and comes no later
pub covers_place : (p q : FamilyPrefix) → IsFamilyPrefix p → CoversPrefix p q → place p ≤ place q
covers_place p q is c = grind (arith, covers_len, round_covers, same_place)

pub longest_small : (p : Vrp) → IsLawfulVrp p → longest p ≤ 128
longest_small p is = grind (arith, width_small)

pub max_len_flag_small : (m : Option ℕ) → max_len_flag m ≤ 1
max_len_flag_small m = grind (arith)

-- a rank has 64 bits
pub rank_small : (p : Vrp) → IsLawfulVrp p → rank p < 2 ^ 64
rank_small p is =
    (let long = longest_small p is in let one = max_len_flag_small p.0.max_len in omega (arith, long, one))

-- what ranks no higher has no lesser AS number, and by one AS no longer a maximum length
pub rank_asn : (p q : Vrp) → IsLawfulVrp p → IsLawfulVrp q → rank p ≤ rank q → q.1 ≤ p.1
rank_asn p q is is' le = grind (arith, longest_small, max_len_flag_small)

pub rank_longest : (p q : Vrp) → p.1 ≡ q.1 → rank p ≤ rank q → longest p ≤ longest q
rank_longest p q e le = grind (arith, max_len_flag_small)

-- the first of two numbers, by their order with a second of 64 bits each
pub upper : (m n r s : ℕ) → s < 2 ^ 64 → m * 2 ^ 64 + r ≤ n * 2 ^ 64 + s → m ≤ n
upper m n r s small le = omega (arith, small, le)

-- and where those tie, the second
pub lower : (m n r s : ℕ) → m ≡ n → m * 2 ^ 64 + r ≤ n * 2 ^ 64 + s → r ≤ s
lower m n r s e le = omega (arith, e, le)

-- VRPs in a table's order are in that of their prefixes
pub by_places : (xs : List Vrp) → All IsLawfulVrp xs → IsNonDecreasingBy table_place xs
    → IsNonDecreasingBy vrp_place xs
by_places xs all ranked i j d le small =
    omega (arith, rank_small (get_or xs j d) (all j d small), ranked i j d le small)

-- and those of one prefix in that of their ranks
pub by_ranks : (p q : Vrp) → p.0.prefix ≡ q.0.prefix → table_place p ≤ table_place q → rank p ≤ rank q
by_ranks p q e = lower (vrp_place p) (vrp_place q) (rank p) (rank q) (ap place e)

-- families, then addresses, then lengths compare as places
pub fields_cmp : (u v : Bool) (x y k l : ℕ)
    → IsFamilyPrefix (record { addr = addr_of u x; len = k }) → IsFamilyPrefix (record { addr = addr_of v y; len = l })
    → ordering_then (ordering_then (bool_cmp u v) (nat_cmp x y)) (nat_cmp k l)
    ≡ nat_cmp (place (record { addr = addr_of u x; len = k })) (place (record { addr = addr_of v y; len = l }))
fields_cmp u v x y k l is is' = grind (arith, len_small, nat_tests, number_small)
