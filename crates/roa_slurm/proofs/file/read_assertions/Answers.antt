use Rattle.std.proofs.lemmas.Result.{err_from_is_err_and}
use Rattle.roa_slurm.proofs.Common.{inl, inr, members_view}
use Rattle.roa_slurm.proofs.FileLemmas.{refused_then}
use Rattle.roa_slurm.specs.Entries.{IsPrefixAssertion, HasPrefixAssertionFault, IsKeyAssertion, HasKeyAssertionFault}
use Rattle.roa_slurm.specs.Lists.{HasListFault}
use Rattle.roa_slurm.specs.SlurmFiles.{HasAssertionsFault}
use Rattle.roa_slurm.specs.declared.member.SlurmMember.TheVariants.{BgpsecAssertions, PrefixAssertions}
use Rattle.roa_slurm.proofs.file.read_assertions.Goals as goal

pub returns-in_err-assertions : goal.returns-in_err-assertions
returns-in_err-assertions g c =
    let p = err_from_is_err_and c.from_residual.result c.from_residual.ensures.1 in
    rw (p.1, p.2)
    (refused_then
    (HasListFault IsPrefixAssertion HasPrefixAssertionFault PrefixAssertions (members_view c.in-Ok.inner.now.items))
    (HasAssertionsFault (members_view c.args.members.now.items))
    (λ fault wrong. inr (members_view c.in-Ok.inner.now.items, c.in-Ok.ensures, inl wrong))
    c.in_err-assertions.field-0.0 c.in_err-assertions.ensures)

pub returns-in_err-_keys : goal.returns-in_err-_keys
returns-in_err-_keys g c =
    let p = err_from_is_err_and c.from_residual-in_err-_keys.result c.from_residual-in_err-_keys.ensures.1 in
    rw (p.1, p.2)
    (refused_then
    (HasListFault IsKeyAssertion HasKeyAssertionFault BgpsecAssertions (members_view c.in-Ok.inner.now.items))
    (HasAssertionsFault (members_view c.args.members.now.items))
    (λ fault wrong. inr (
      members_view c.in-Ok.inner.now.items,
      c.in-Ok.ensures,
      inr ((c.in_ok-assertions.assertions.items, c.in_ok-assertions.ensures), wrong),
    ))
    c.in_err-_keys.field-0.0 c.in_err-_keys.ensures)
