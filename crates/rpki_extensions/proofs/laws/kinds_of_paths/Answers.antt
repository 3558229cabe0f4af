use Rattle.rpki_extensions.proofs.VerifiedKinds.{AreRuns, first_of_each, refused_by_each, result_of_each}
use Rattle.rpki_extensions.proofs.VerifiedKinds.{verified_of_each}
use Rattle.rpki_extensions.proofs.laws.kinds_of_paths.Goals as goal
use Rattle.rpki_resources.specs.Triples.{IsTriple, Triple}

runs_of : (anchor : Triple) → IsTriple anchor → AreRuns anchor
runs_of anchor is = record { asn = is.asn.are_runs; ipv4 = is.ipv4.0.are_runs; ipv6 = is.ipv6.are_runs }

pub returns : goal.returns
returns g c = record {
  result = λ anchor set certificates is. (
    result_of_each certificates anchor set (runs_of anchor is),
    λ (steps, own, left). verified_of_each certificates steps anchor set (runs_of anchor is) own left,
  );
  refusal = λ anchor certificates refusal names. (
    first_of_each anchor certificates refusal names,
    λ (steps, own, first). refused_by_each anchor certificates refusal steps own first,
  );
}
