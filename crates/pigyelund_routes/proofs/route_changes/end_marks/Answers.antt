-- The mark of what one lookup more finds in each table is written.
use Rattle.pigyelund_routes.proofs.Common.{arith, subst, sym, ℕ, ◌≡◌}
use Rattle.roa_origin.specs.Lookups.{RouteLookup}
use Rattle.pigyelund_routes.specs.Lookups.{AreAppended, IsLookupValidity}
use Rattle.pigyelund_routes.specs.RouteChanges.{IsChangeFound}
use Rattle.pigyelund_routes.proofs.InterleavedLemmas.{one_appended}
use Rattle.pigyelund_routes.proofs.route_changes.end_marks.Goals as goal

pub loop-offset-preserved : goal.loop-offset-preserved
loop-offset-preserved c =
    let one = c.index-befores-offset in
    let other = c.index-afters-offset in
    one_appended (IsChangeFound c.args.befores.now c.args.afters.now) c.args.at c.loop-offset.offset c.args.octets.now
    c.loop-offset.octets c.mark.result (omega (arith, c.loop-offset.auto.octets))
    (record {
      before = c.number_of.result;
      after = c.number_of-in-loop-offset.result;
      was = (
        one.result,
        sym one.is,
        subst (λ (s : RouteLookup). IsLookupValidity s c.number_of.result) (sym one.is)
            (c.validity-before.result, c.validity-before.ensures, c.number_of.ensures),
      );
      is = (
        other.result,
        sym other.is,
        subst (λ (s : RouteLookup). IsLookupValidity s c.number_of-in-loop-offset.result)
            (sym other.is) (c.validity-after.result, c.validity-after.ensures, c.number_of-in-loop-offset.ensures),
      );
      mark = c.mark.ensures;
    }) c.loop-offset.invariant

pub returns : goal.returns
returns c =
    let done : c.loop-offset.offset ≡ c.args.count = omega (arith, c.loop-offset.auto.offset-end) in
    subst
    (λ (n : ℕ). AreAppended (IsChangeFound c.args.befores.now c.args.afters.now) c.args.at n c.args.octets.now
    c.loop-offset.octets) done c.loop-offset.invariant
