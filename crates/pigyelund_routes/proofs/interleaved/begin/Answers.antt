-- There is a lookup for each of the twelve offsets.
use Rattle.pigyelund_routes.proofs.Common.{List, [], arith, get_or, length, subst, ℕ, ◌+◌, ◌<◌, ◌∷◌}
use Rattle.std.proofs.Common.{zero-add}
use Rattle.roa_origin.specs.Lookups.{RouteLookup}
use Rattle.pigyelund_routes.specs.Lookups.{IsLookupIn}
use Rattle.pigyelund_routes.specs.declared.route.Route.{Route}
use Rattle.pigyelund_routes.proofs.InterleavedLemmas.{AreNumbered, numbered_at}
use Rattle.pigyelund_routes.proofs.interleaved.begin.Goals as goal

pub returns : goal.returns
returns c k r s small within =
    let P : ℕ → RouteLookup → Type 0 =
    λ offset lookup. (r : Route) → c.args.at + offset < length c.args.routes.now
    → IsLookupIn c.args.table.now (get_or c.args.routes.now (c.args.at + offset) r) lookup in
    let lookups : List RouteLookup =
    c.lookup_at.result ∷ c.lookup_at-2.result ∷ c.lookup_at-3.result ∷ c.lookup_at-4.result ∷ c.lookup_at-5.result
    ∷ c.lookup_at-6.result ∷ c.lookup_at-7.result ∷ c.lookup_at-8.result ∷ c.lookup_at-9.result
    ∷ c.lookup_at-10.result ∷ c.lookup_at-11.result ∷ c.lookup_at-12.result ∷ [] in
    let all : AreNumbered P 0 lookups = (
      c.lookup_at.ensures,
      (
        c.lookup_at-2.ensures,
        (
          c.lookup_at-3.ensures,
          (
            c.lookup_at-4.ensures,
            (
              c.lookup_at-5.ensures,
              (
                c.lookup_at-6.ensures,
                (
                  c.lookup_at-7.ensures,
                  (
                    c.lookup_at-8.ensures,
                    (
                      c.lookup_at-9.ensures,
                      (c.lookup_at-10.ensures, (c.lookup_at-11.ensures, (c.lookup_at-12.ensures, tt))),
                    ),
                  ),
                ),
              ),
            ),
          ),
        ),
      ),
    ) in
    let is : P (0 + k) (get_or lookups k s) = numbered_at P 0 lookups all k s (omega (arith, small)) in
    subst (λ (j : ℕ). P j (get_or lookups k s)) (zero-add k) is r within
