use Rattle.std.proofs.Common.{arith, get_or}
use Rattle.std.proofs.lemmas.List.{get_or_default, take_all}
use Rattle.pigyelund_c.specs.declared.certificate.Certificate.{Certificate}
use Rattle.pigyelund_c.proofs.CertificatePathLemmas.{path-more}
use Rattle.pigyelund_c.proofs.path.left_on_path.Goals as goal

pub returns : goal.returns
returns c =
    rw (take_all c.loop-at.at c.args.certificates.now (omega (arith, c.loop-at-test.false))) at c.loop-at.invariant

-- what an index beyond the end would have
abbrev nothing : Certificate
nothing = record { as_start = 0; as_len = 0; ip_start = 0; ip_len = 0; present = 0; mode = 0 }

pub loop-at-preserved : goal.loop-at-preserved
loop-at-preserved c =
    let turn = c.loop-at in
    path-more c.args.run.now c.args.encoding c.args.certificates.now turn.at nothing c.args.anchor turn.issuer
    c.in-Ok.set c.loop-at-test.true turn.invariant c.in-Ok.ensures

pub returns-in-Err-Refused : goal.returns-in-Err-Refused
returns-in-Err-Refused c =
    let refused = rw c.in-Err-Refused.field-0-is at c.in-Err-Refused.ensures in
    let all = c.args.certificates.now in
    let at = c.loop-at.at in
    let small = c.loop-at-test.true in
    rw c.in-Err-Refused.reason-is (
      get_or all at nothing,
      small,
      get_or_default all at _ nothing small,
      (c.loop-at.issuer, c.loop-at.invariant, refused),
    )
