-- The requests for memory that a plan refuses, and their number.
use Rattle.std.specs.Prelude.{◌≡◌, ℕ, Bool, true, false, IsTrue, nat_eq, zero, suc, ◌+◌, if◌then◌else◌}
use Rattle.test_support.specs.declared.plan.Plan.{Plan}
use Rattle.test_support.specs.declared.plan.Plan.TheVariants.{RefuseNone, RefuseOnly, RefuseAll}
use Rattle.test_support.specs.declared.Refusing.{Refusing}

-- Whether the plan refuses the request with this number. The first has the number 0.
abbrev pub refuses : Plan → ℕ → Bool
refuses RefuseNone number = false
refuses (RefuseOnly refused) number = nat_eq number refused
refuses RefuseAll number = true

-- The plan refuses some request.
abbrev pub RefusesSome : Plan → Type 0
RefusesSome plan = (number : ℕ) × IsTrue (refuses plan number)

-- The number of refusals among the first `asked` requests.
unfoldable pub refused_among : Plan → ℕ → ℕ
refused_among plan zero = 0
refused_among plan (suc asked) = refused_among plan asked + (if refuses plan asked then 1 else 0)

-- The answer to the request with some number.
abbrev pub IsSomeAnswer : Plan → Bool → Type 0
IsSomeAnswer plan answer = (number : ℕ) × (answer ≡ refuses plan number)

-- The number of refusals among the first requests, up to some number.
abbrev pub IsSomeRefusedCount : Plan → ℕ → Type 0
IsSomeRefusedCount plan count = (asked : ℕ) × (count ≡ refused_among plan asked)

-- The plan of an allocator.
abbrev pub plan_of : {A : Type 0} → Refusing A → Plan
plan_of refusing = refusing.requests.plan

-- The allocator that receives the granted requests.
abbrev pub inner_of : {A : Type 0} → Refusing A → A
inner_of refusing = refusing.inner
