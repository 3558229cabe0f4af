-- Which sets consist of whole IPv4 addresses, by their runs.
use Rattle.rpki_ipres.proofs.Common.{take, List, ap, arith, get_or, length, map, refl, subst, sym, ℕ, ◌%◌, ◌+◌, ◌-◌}
use Rattle.rpki_ipres.proofs.Common.{◌<◌, ◌^◌, ◌∙◌, ◌≡◌, ◌≤◌, cases_order, get_or-map, length-map, All-map, Holds}
use Rattle.rpki_ipres.proofs.Common.{IsRunsOf, Runs, IsChainOf, IsRun, whole_set, HasWholeBounds, IsWhole, ip_bounds}
use Rattle.rpki_ipres.proofs.Common.{IpBlock}
use Rattle.std.proofs.lemmas.List.{take_all}
use Rattle.std.specs.Prelude.{All}
use Rattle.rpki_chain_core.proofs.Chains.{IsChainOf-from}

-- a run of a whole set has whole bounds
whole_run : (S : ℕ → Type 0) (b : ℕ × ℕ) → IsRun S b → IsWhole S → HasWholeBounds b
whole_run S b run whole =
    grind (
      arith,
      run.inside b.0,
      run.inside b.1,
      run.starts (b.0 - 1),
      whole b.0 (b.0 - 1),
      run.ends,
      whole b.1 (b.1 + 1),
      cases_order (b.0 % 2 ^ 96) 0,
      cases_order ((b.1 + 1) % 2 ^ 96) 0,
    )

-- so all runs of a whole set have
pub whole_runs : (runs : Runs) → IsRunsOf (Holds runs) runs → IsWhole (Holds runs) → All HasWholeBounds runs
whole_runs runs h whole k d small =
    let chain : IsChainOf (λ (b : ℕ × ℕ). b) (λ b. b) (Holds runs) runs =
    IsChainOf-from (λ (b : ℕ × ℕ). b) (λ b. b) runs (Holds runs)
    (record { ordered = h.ordered; apart = h.apart; new_form = λ k d small. refl })
    (λ n. (λ held. held, λ held. held)) in
    whole_run (Holds runs) _ (chain.runs k d small) whole

-- and runs with whole bounds are a whole set
pub runs_whole : (runs : Runs) → All HasWholeBounds runs → IsWhole (Holds runs)
runs_whole runs all m n same (k, b, small, here, within) =
    (k, b, small, here, whole_set b (subst HasWholeBounds here (all k b small)) m n same within)

-- a block of a chain whose set is whole has whole bounds
pub whole_block : (blocks : List IpBlock) (runs : Runs) (i : ℕ) (x : IpBlock) → map ip_bounds blocks ≡ runs
    → IsRunsOf (Holds runs) runs → i < length blocks → x ≡ get_or blocks i x → IsWhole (Holds runs)
    → HasWholeBounds (ip_bounds x)
whole_block blocks runs i x bounds h small here whole =
    let all : All HasWholeBounds (map ip_bounds blocks) =
    subst (All HasWholeBounds) (sym bounds) (whole_runs runs h whole) in
    let long = length-map blocks ip_bounds in
    let at : get_or (map ip_bounds blocks) i (ip_bounds x) ≡ ip_bounds (get_or blocks i x) =
    get_or-map ip_bounds blocks i x (ip_bounds x) small in
    subst HasWholeBounds (at ∙ ap ip_bounds (sym here)) (all i (ip_bounds x) (omega (arith, long, small)))

-- and blocks that all have are a whole set
pub blocks_whole : (blocks : List IpBlock) (runs : Runs) (i : ℕ) → map ip_bounds blocks ≡ runs → length blocks ≤ i
    → All (λ block. HasWholeBounds (ip_bounds block)) (take i blocks) → IsWhole (Holds runs)
blocks_whole blocks runs i bounds end all =
    runs_whole runs (subst (All HasWholeBounds) bounds
    (All-map HasWholeBounds ip_bounds blocks
    (subst (All (λ block. HasWholeBounds (ip_bounds block))) (take_all i blocks end) all)))
