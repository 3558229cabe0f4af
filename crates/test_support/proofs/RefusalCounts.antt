-- How many of the first requests a plan refuses.
use Rattle.std.proofs.Common.{◌≡◌, ℕ, zero, suc, ◌<◌, nat_lt, refl, arith, rules}
use Rattle.std.specs.Prelude.{if◌then◌else◌}
use Rattle.test_support.specs.Plans.{refused_among, RefusesSome}
use Rattle.test_support.specs.declared.plan.Plan.{Plan}
use Rattle.test_support.specs.declared.plan.Plan.TheVariants.{RefuseNone, RefuseOnly, RefuseAll}

-- none
pub among_none : (asked : ℕ) → refused_among RefuseNone asked ≡ 0
unfolding refused_among
among_none zero = refl
among_none (suc asked) = grind (arith, among_none asked)

-- one, once it was asked
pub among_only : (refused asked : ℕ)
    → refused_among (RefuseOnly refused) asked ≡ (if nat_lt refused asked then 1 else 0)
unfolding refused_among
among_only refused zero = grind arith
among_only refused (suc asked) = grind (arith, among_only refused asked)

-- all
pub among_all : (asked : ℕ) → refused_among RefuseAll asked ≡ asked
unfolding refused_among
among_all zero = refl
among_all (suc asked) = grind (arith, among_all asked)

-- where some are refused, there is one
pub refuses_some : (plan : Plan) (asked : ℕ) → 0 < refused_among plan asked → RefusesSome plan
refuses_some RefuseNone asked more = let none : ⊥ = omega (arith, more, among_none asked) in absurd none
refuses_some (RefuseOnly refused) asked more = (refused, search rules)
refuses_some RefuseAll asked more = (0, refl)
