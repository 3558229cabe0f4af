-- Covers of sets of whole IPv4 addresses: those of their IPv4 addresses.
use Rattle.rpki_family.proofs.Common.{[], arith, map, refl, sym, ℕ, ◌*◌, ◌/◌, ◌<◌, ◌^◌, ◌↔◌, ◌∙◌, ◌∷◌, ◌≡◌, ◌≤◌}
use Rattle.rpki_family.proofs.Common.{map-append, All-head, All-map, All-tail, All, Holds, Runs, IsWithin}
use Rattle.rpki_family.proofs.Common.{IsShortestCover, IsV4CoverList, widened, HasWholeBounds, IsWhole, IsIpSet, Ipv4Of}
use Rattle.rpki_family.proofs.Common.{runs_cover}
use Rattle.std.specs.Prelude.{List}
use Rattle.std.proofs.lemmas.List.{get_or-map, length-map}
use Rattle.rpki_cover.specs.Prefixes.{PrefixValue}
use Rattle.rpki_chain.proofs.RunLists.{Holds-map}
use Rattle.rpki_cover.proofs.JoinedCovers.{cover_same}
use Rattle.rpki_cover.proofs.ShortestCover.{shortest_cover_from}
use Rattle.rpki_cover.proofs.WidenedCovers.{whole_list}
use Rattle.rpki_ipres.proofs.IpSetCoverLemmas.{AreRuns, ip_runs, runs_below, runs_covered, set_covered}
use Rattle.rpki_ipres.proofs.WholeRunLemmas.{whole_runs}

-- the IPv4 addresses of bounds
abbrev pub narrowed : ℕ × ℕ → ℕ × ℕ
narrowed b = (b.0 / 2 ^ 96, b.1 / 2 ^ 96)

-- runs of whole addresses have gaps of whole addresses
narrow_runs : (runs : Runs) → All HasWholeBounds runs → AreRuns 128 runs → AreRuns 32 (map narrowed runs)
narrow_runs runs whole (chain, below) = (
  record {
    ordered = All-map (λ b. b.0 ≤ b.1) narrowed runs (λ k d small. omega (arith, chain.ordered k d small));
    apart = λ i j d less small.
        let long = length-map runs narrowed in
        let ends = whole i d (omega arith) in
        let begins = whole j d (omega arith) in
        rw (get_or-map narrowed runs i d d (omega arith), get_or-map narrowed runs j d d (omega arith))
        (omega (arith, chain.apart i j d less (omega arith), ends.ends, begins.begins));
    new_form = λ k d small. refl;
  },
  All-map (λ b. b.1 < 2 ^ 32) narrowed runs (λ k d small. omega (arith, below k d small)),
)

-- an address is in a run exactly where its least number is
narrow_within : (b : ℕ × ℕ) (a : ℕ) → HasWholeBounds b → IsWithin (narrowed b) a ↔ IsWithin b (a * 2 ^ 96)
narrow_within b a whole = grind (arith, whole.begins, whole.ends)

narrow_holds : (runs : Runs) → All HasWholeBounds runs → (a : ℕ) → Holds (map narrowed runs) a ↔ Ipv4Of runs a
narrow_holds runs whole a = grind (arith, Holds-map narrowed runs a, narrow_within)

-- the cover lists at both widths are one
narrow_cover : (runs : Runs) → All HasWholeBounds runs
    → runs_cover 128 runs ≡ map widened (runs_cover 32 (map narrowed runs))
narrow_cover [] whole = refl
narrow_cover (r ∷ rs) whole =
    let here = All-head HasWholeBounds r rs whole in
    let rest = narrow_cover rs (All-tail HasWholeBounds r rs whole) in
    grind (arith, whole_list r.0 r.1 here.begins here.ends, map-append, rest)

-- so the shortest cover of a set of whole addresses is also that of its IPv4 addresses
pub v4_covered : (set : Runs) (ps : List PrefixValue) → IsIpSet set → IsWhole (Holds set)
    → IsShortestCover 128 (Holds set) ps → IsV4CoverList (Ipv4Of set) ps
v4_covered set ps is whole shortest =
    let bounds = whole_runs set is.are_runs whole in
    let runs = narrow_runs set bounds (ip_runs set is) in
    let holds = narrow_holds set bounds in
    let covered = runs_covered 32 (map narrowed set) runs in
    let cover = cover_same 32 _ (Ipv4Of set) _ (λ a. (holds a).0) (λ a. (holds a).1) covered in
    let below = λ (a : ℕ) (h : Ipv4Of set a). runs_below 32 (map narrowed set) runs a ((holds a).1 h) in
    let narrow = shortest_cover_from 32 (Ipv4Of set) _ cover below in
    let same = shortest.only (runs_cover 128 set) (set_covered set is).list in
    record { short = _; lists = narrow.list; widens = sym same ∙ narrow_cover set bounds }
