-- Covers of sets of addresses: those of their runs, one after the other.
use Rattle.rpki_ipres.proofs.Common.{arith, inl, inr, ℕ, ◌++◌, ◌<◌, ◌^◌, ◌∷◌, [], All, IsChain, Holds, Runs, IsIpSet}
use Rattle.std.specs.Prelude.{◌⊎◌}
use Rattle.std.proofs.lemmas.List.Elements.{All-head, All-tail}
use Rattle.rpki_chain_core.proofs.Chains.{Covers-nil}
use Rattle.rpki_chain_core.proofs.UniqueChain.{Covers-beyond, Covers-cons_cases, Covers-head, Covers-tail, IsChain-tail}
use Rattle.rpki_chain_core.specs.Sets.{IsWithin}
use Rattle.rpki_cover.proofs.CoverList.{CoverOf, cover_none, cover_list_covers}
use Rattle.rpki_cover.proofs.JoinedCovers.{cover_same, cover_joined}
use Rattle.rpki_cover.proofs.ShortestCover.{shortest_cover_from}
use Rattle.rpki_cover.specs.Covers.{IsShortestCover}
use Rattle.rpki_cover.specs.Walk.{cover_list}
use Rattle.rpki_ip_block.specs.BlockCovers.{runs_cover}

-- a chain of them, each as a block that is its own bounds
abbrev pub AreRuns : ℕ → Runs → Type 0
AreRuns w runs = IsChain (λ b. b) (λ b. b) runs × All (λ b. b.1 < 2 ^ w) runs

pub ip_runs : (set : Runs) → IsIpSet set → AreRuns 128 set
ip_runs set is = grind (arith)

-- the cover lists of the runs are that of the set
pub runs_covered : (w : ℕ) (runs : Runs) → AreRuns w runs → CoverOf w (Holds runs) (runs_cover w runs)
runs_covered w [] are = cover_none w (Holds []) (λ n h. Covers-nil (λ (b : ℕ × ℕ). b) n h)
runs_covered w (r ∷ rs) (chain, below) =
    cover_same w (λ n. IsWithin r n ⊎ Holds rs n) (Holds (r ∷ rs)) (cover_list w r.0 r.1 ++ runs_cover w rs)
    (λ n h. elim h [ inl here ↦ Covers-head (λ b. b) r rs n here | inr later ↦ Covers-tail (λ b. b) r rs n later ])
    (λ n h. Covers-cons_cases (λ b. b) r rs n h)
    (cover_joined w r.1 (IsWithin r) (Holds rs) (λ n h. h.1) (λ n h. Covers-beyond (λ b. b) (λ b. b) r rs n chain h)
    (cover_list w r.0 r.1) (runs_cover w rs) (cover_list_covers w r.0 r.1 (All-head (λ b. b.1 < 2 ^ w) r rs below))
    (runs_covered w rs (IsChain-tail (λ b. b) (λ b. b) r rs chain, All-tail (λ b. b.1 < 2 ^ w) r rs below)))

-- whose numbers have w bits
pub runs_below : (w : ℕ) (runs : Runs) → AreRuns w runs → (n : ℕ) → Holds runs n → n < 2 ^ w
runs_below w runs are n (k, b, small, here, within) = grind (arith, are.1 k b small)

-- so they are the set's shortest cover
pub set_covered : (set : Runs) → IsIpSet set → IsShortestCover 128 (Holds set) (runs_cover 128 set)
set_covered set is =
    let are = ip_runs set is in
    shortest_cover_from 128 (Holds set) (runs_cover 128 set) (runs_covered 128 set are) (runs_below 128 set are)
