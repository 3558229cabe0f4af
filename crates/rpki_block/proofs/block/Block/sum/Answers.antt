-- Blocks that are not apart lie together between the lesser minimum and the greater maximum.
use Rattle.std.proofs.Common.{arith, max, ℕ, ◌+◌, ◌↔◌, ◌≡◌, ◌≤◌, ◌⊎◌, min}
use Rattle.std.proofs.lemmas.Bool.{cases_lt}
use Rattle.std.proofs.lemmas.Bool.Decides.{nat_tests}
use Rattle.rpki_block.specs.Bounds.{IsWithin}
use Rattle.rpki_block.proofs.block.Block.sum.Goals as goal

-- between the lesser minimum and the greater maximum of two blocks that overlap or touch lie their numbers alone
over_both : (s b d : ℕ × ℕ) → s.0 ≡ min b.0 d.0 → s.1 ≡ max b.1 d.1 → d.0 ≤ b.1 + 1 → b.0 ≤ d.1 + 1 → (n : ℕ)
    → IsWithin s n ↔ (IsWithin b n ⊎ IsWithin d n)
over_both s b d lesser greater meets meets' n = grind (arith, cases_lt)

pub returns-then-lt-clause-apart : goal.returns-then-lt-clause-apart
returns-then-lt-clause-apart g c beside =
    let order = g.met.Self.Block.in_order in
    let same = g.met.Self.Item.Ord.matches_partial_cmp in
    grind (arith, nat_tests, order, same, c.if-lt.ensures, c.in-Some.ensures)

pub returns-then-lt-2-clause-apart : goal.returns-then-lt-2-clause-apart
returns-then-lt-2-clause-apart g c beside =
    let order = g.met.Self.Block.in_order in
    let same = g.met.Self.Item.Ord.matches_partial_cmp in
    grind (arith, nat_tests, order, same, c.if-lt-2.ensures, c.in-Some-next.ensures)

pub new-requires : goal.new-requires
new-requires g c =
    let order = g.met.Self.Block.in_order in
    let same = g.met.Self.Item.Ord.matches_partial_cmp in
    grind (arith, nat_tests, order, same, c.if-le.branch, c.if-le-2.branch)

pub returns-clause-over : goal.returns-clause-over
returns-clause-over g c =
    let number = g.Self.Block.number in
    let order = g.met.Self.Block.in_order in
    let same = g.met.Self.Item.Ord.matches_partial_cmp in
    let own = g.Self.Block.bounds c.args.self.now in
    let other = g.Self.Block.bounds c.args.other.now in
    let first : number c.if-le.first ≡ min own.0 other.0 = grind (arith, nat_tests, order, same, c.if-le.branch) in
    let last : number c.if-le-2.last ≡ max own.1 other.1 = grind (arith, nat_tests, order, same, c.if-le-2.branch) in
    let meets : other.0 ≤ own.1 + 1 = grind (arith, nat_tests, order, same, c.match-next.branch) in
    let meets' : own.0 ≤ other.1 + 1 = grind (arith, nat_tests, order, same, c.match-next-2.branch) in
    rw c.new.ensures.bounds (over_both _ own other first last meets meets')
