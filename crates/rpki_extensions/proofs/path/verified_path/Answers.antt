use Rattle.rpki_extensions.proofs.Common.{None, arith, take_all, Any, Extensions}
use Rattle.rpki_extensions.proofs.VerifiedPathLemmas.{path-inside, path-more, path-refused}
use Rattle.rpki_chain.specs.declared.path.Overclaim.TheVariants.{Refuse}
use Rattle.rpki_extensions.proofs.path.verified_path.Goals as goal

pub returns-clause-path : goal.returns-clause-path
returns-clause-path g c =
    rw (take_all c.loop-at.at c.args.certificates.now (omega (arith, c.loop-at-test.false))) at c.loop-at.invariant

pub returns-clause-inside : goal.returns-clause-inside
returns-clause-inside g c =
    path-inside c.args.certificates.now c.args.anchor.now c.loop-at.issuer (returns-clause-path g c)

-- what a place behind the end would have
abbrev nothing : Extensions
nothing = record { numbers = None; addresses = None; encoding = Any; mode = Refuse }

pub loop-at-preserved : goal.loop-at-preserved
loop-at-preserved g c =
    let turn = c.loop-at in
    path-more c.args.certificates.now turn.at nothing c.args.anchor.now turn.issuer c.in-Ok.set c.loop-at-test.true
    turn.invariant c.in-Ok.ensures

pub returns-in-Err-clause-path : goal.returns-in-Err-clause-path
returns-in-Err-clause-path g c =
    let turn = c.loop-at in
    path-refused c.args.certificates.now turn.at nothing c.args.anchor.now turn.issuer c.loop-at-test.true
    turn.invariant c.in-Err.error c.in-Err.ensures
