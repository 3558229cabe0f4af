use Rattle.rpki_as.proofs.Common.{Err, Ok, Vec, err_from_is_err_and, HasAsBlockFault, IsAsBlockText, ReadsAsBlock}
use Rattle.rpki_as.proofs.Common.{AsBlock, found_weaker, elements}
use Rattle.rpki_as.proofs.AsListLemmas.{list_answers, list_says}
use Rattle.rpki_as.proofs.blocks.AsBlocks.from_str.Goals as goal

pub returns-in_err-blocks-clause-exact : goal.returns-in_err-blocks-clause-exact
returns-in_err-blocks-clause-exact g c =
    let p = err_from_is_err_and c.from_residual.result c.from_residual.ensures.1 in
    let found =
    found_weaker (λ t a. ReadsAsBlock t (Ok a)) IsAsBlockText (λ t e. ReadsAsBlock t (Err e)) HasAsBlockFault
    (λ t a h. h.exact.found) (λ t e h. h.exact.found) (λ (v : Vec AsBlock _). v.items)
    (elements c.args.text.now) c.read_blocks.result c.read_blocks.ensures in
    rw (p.1, p.2)
    (list_answers (λ set. set) c.args.text.now (Err c.in_err-blocks.field-0.0) (rw c.in_err-blocks.was at found))

pub returns-in_err-blocks-clause-reads_back : goal.returns-in_err-blocks-clause-reads_back
returns-in_err-blocks-clause-reads_back g c =
    λ set is printed. (returns-in_err-blocks-clause-exact g c).each_value set (list_says c.args.text.now set is printed)

pub returns-clause-exact : goal.returns-clause-exact
returns-clause-exact g c =
    let found =
    found_weaker (λ t a. ReadsAsBlock t (Ok a)) IsAsBlockText (λ t e. ReadsAsBlock t (Err e)) HasAsBlockFault
    (λ t a h. h.exact.found) (λ t e h. h.exact.found) (λ (v : Vec AsBlock _). v.items)
    (elements c.args.text.now) c.read_blocks.result c.read_blocks.ensures in
    list_answers (λ set. set) c.args.text.now _ (record {
      blocks = c.in_ok-blocks.blocks.items;
      are_written = rw c.in_ok-blocks.was at found;
      covered = c.in_ok-set.ensures;
    })

pub returns-clause-reads_back : goal.returns-clause-reads_back
returns-clause-reads_back g c =
    λ set is printed. (returns-clause-exact g c).each_value set (list_says c.args.text.now set is printed)
