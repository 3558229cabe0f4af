use Rattle.std.proofs.lemmas.Result.{err_from_is_err_and}
use Rattle.roa_slurm.proofs.Common.{inl, inr, members_view}
use Rattle.roa_slurm.proofs.FileLemmas.{refused_then}
use Rattle.roa_slurm.specs.Entries.{IsPrefixFilter, HasPrefixFilterFault, IsKeyFilter, HasKeyFilterFault}
use Rattle.roa_slurm.specs.Lists.{HasListFault}
use Rattle.roa_slurm.specs.SlurmFiles.{HasFiltersFault}
use Rattle.roa_slurm.specs.declared.member.SlurmMember.TheVariants.{BgpsecFilters, PrefixFilters}
use Rattle.roa_slurm.proofs.file.read_filters.Goals as goal

pub returns-in_err-filters : goal.returns-in_err-filters
returns-in_err-filters g c =
    let p = err_from_is_err_and c.from_residual.result c.from_residual.ensures.1 in
    rw (p.1, p.2)
    (refused_then
    (HasListFault IsPrefixFilter HasPrefixFilterFault PrefixFilters (members_view c.in-Ok.inner.now.items))
    (HasFiltersFault (members_view c.args.members.now.items))
    (λ fault wrong. inr (members_view c.in-Ok.inner.now.items, c.in-Ok.ensures, inl wrong))
    c.in_err-filters.field-0.0 c.in_err-filters.ensures)

pub returns-in_err-_keys : goal.returns-in_err-_keys
returns-in_err-_keys g c =
    let p = err_from_is_err_and c.from_residual-in_err-_keys.result c.from_residual-in_err-_keys.ensures.1 in
    rw (p.1, p.2)
    (refused_then (HasListFault IsKeyFilter HasKeyFilterFault BgpsecFilters (members_view c.in-Ok.inner.now.items))
    (HasFiltersFault (members_view c.args.members.now.items))
    (λ fault wrong. inr (
      members_view c.in-Ok.inner.now.items,
      c.in-Ok.ensures,
      inr ((c.in_ok-filters.filters.items, c.in_ok-filters.ensures), wrong),
    ))
    c.in_err-_keys.field-0.0 c.in_err-_keys.ensures)
