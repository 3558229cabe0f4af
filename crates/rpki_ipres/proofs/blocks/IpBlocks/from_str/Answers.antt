use Rattle.rpki_ipres.proofs.Common.{err_from_is_err_and, whole_list_without_family}
use Rattle.rpki_ipres.proofs.WholeSetReadings.{whole_cover}
use Rattle.rpki_ipres.proofs.SetTextLemmas.{set_answers, set_refused, blocks_of_family, read_as}
use Rattle.rpki_ipres.proofs.blocks.IpBlocks.from_str.Goals as goal

pub returns-in_err-blocks-clause-exact : goal.returns-in_err-blocks-clause-exact
returns-in_err-blocks-clause-exact g c =
    let p = err_from_is_err_and c.from_residual.result c.from_residual.ensures.1 in
    rw (p.1, p.2) (set_refused _ _ _ _ c.in_err-blocks.ensures.exact)

pub returns-in_err-blocks-clause-reads_back : goal.returns-in_err-blocks-clause-reads_back
returns-in_err-blocks-clause-reads_back g c = λ family set is printed.
    let p = err_from_is_err_and c.from_residual.result c.from_residual.ensures.1 in
    rw (p.1, p.2) (c.in_err-blocks.ensures.reads_back family _ (blocks_of_family family set is) printed)

pub returns : goal.returns
returns g c = record {
  exact = set_answers _ _ _ _ _ c.in_ok-blocks.ensures.exact c.in_ok-set.ensures;
  reads_back = λ family set is printed.
      let read = c.in_ok-blocks.ensures.reads_back family _ (blocks_of_family family set is) printed in
      read_as family _ set _ is read c.in_ok-set.ensures;
  whole =
      λ v4. whole_cover _ _ (whole_list_without_family _ _ v4 c.in_ok-blocks.ensures.exact.found) c.in_ok-set.ensures;
}
