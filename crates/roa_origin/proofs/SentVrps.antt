-- VRPs are the same as they are sent where a number of theirs is, which follows the table's order.
use Rattle.roa_origin.proofs.Common.{List, ap, arith, get_or, length, ℕ, ◌<◌, ◌≡◌, ◌≤◌, IsNonDecreasingBy, IsLawfulVrp}
use Rattle.roa_origin.proofs.Common.{Vrp, sent_place, table_place, max_len_flag, as_sent, IsSearched, IsSentIn}
use Rattle.roa_origin.proofs.SortedSearch.{found}
use Rattle.roa_origin.proofs.OrderNumbers.{longest_small, same_prefix, max_len_flag_small}

-- VRPs of one number are sent as one
pub same_sent : (p q : Vrp) → IsLawfulVrp p → IsLawfulVrp q → sent_place p ≡ sent_place q
    → as_sent p ≡ as_sent q
same_sent p q is is' e = grind (arith, longest_small, same_prefix)

pub sent_same : (p q : Vrp) → as_sent p ≡ as_sent q → sent_place p ≡ sent_place q
sent_same p q e = ap sent_place e

-- what comes no later comes no later as it is sent
pub by_sent : (xs : List Vrp) → IsNonDecreasingBy table_place xs → IsNonDecreasingBy sent_place xs
by_sent xs ranked i j d le small = grind (arith, max_len_flag_small, ranked i j d le small)

-- of VRPs as they are sent the two orders are one
pub by_sent_place : (p q : Vrp) → max_len_flag p.0.max_len ≡ 1 → max_len_flag q.0.max_len ≡ 1
    → sent_place p ≤ sent_place q → table_place p ≤ table_place q
by_sent_place p q one one' le = omega (arith, one, one', le)

-- a table that has a VRP has it where a search for it stops
pub sent_there : (xs : List Vrp) (p : Vrp) (at : ℕ) → IsNonDecreasingBy table_place xs
    → IsSearched sent_place xs (sent_place p) at → IsSentIn xs p
    → (at < length xs) × ((d : Vrp) → sent_place (get_or xs at d) ≡ sent_place p)
sent_there xs p at ranked searched (k, q, inside, there, same) =
    found sent_place xs (sent_place p) at (by_sent xs ranked) searched (k, q, inside, there, sent_same q p same)
