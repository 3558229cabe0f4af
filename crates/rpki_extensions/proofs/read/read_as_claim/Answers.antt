-- What a take at the front of the octets tells of all of them.
use Rattle.rpki_extensions.proofs.Common.{IsRunsOfBlocks}
use Rattle.rpki_as.specs.AsDer.{IsAsResources, IsPresentAsClaim, as_resources_octets}
use Rattle.rpki_as.specs.AsDerReading.{as_choice_by}
use Rattle.rpki_as.proofs.AsResourcesDer.{one_resources}
use Rattle.rpki_as_block.specs.Blocks.{as_bounds}
use Rattle.rpki_chain.specs.Choices.{ListsBy}
use Rattle.rpki_extensions.proofs.WholeValueLemmas.{passed_on}
use Rattle.rpki_extensions.proofs.EncodingLemmas.{all_in, more_in, refused_in}
use Rattle.rpki_extensions.proofs.read.read_as_claim.Goals as goal

pub returns-in_err-resources : goal.returns-in_err-resources
returns-in_err-resources g c =
    let ensured = c.in_err-resources.ensures in
    passed_on _ _ _ _ c.from_residual.ensures
    (rw c.cursor-cursor.ensures.octets at
    (refused_in c.args.encoding IsAsResources IsPresentAsClaim as_resources_octets
    (ListsBy (IsRunsOfBlocks as_bounds)) as_choice_by c.cursor-cursor.result c.take_from.new.cursor
    c.cursor-cursor.ensures.mode _ ensured.reads ensured.strict ensured.by_mode))

pub returns-in_err-finish : goal.returns-in_err-finish
returns-in_err-finish g c =
    let ensured = c.in_ok-resources.ensures in
    passed_on _ _ _ _ c.from_residual-in_err-finish.ensures
    (rw c.cursor-cursor.ensures.octets at
    (more_in c.args.encoding IsAsResources IsPresentAsClaim as_resources_octets (ListsBy (IsRunsOfBlocks as_bounds))
    as_choice_by c.cursor-cursor.result c.take_from.new.cursor c.cursor-cursor.ensures.mode _ _
    one_resources (λ y rest p at. ensured.reads_back y rest p.0 p.1 at) ensured.reads ensured.strict ensured.by_mode
    c.in_err-finish.ensures.exact))

pub returns : goal.returns
returns g c =
    let ensured = c.in_ok-resources.ensures in
    rw c.cursor-cursor.ensures.octets at
    (all_in c.args.encoding IsAsResources IsPresentAsClaim as_resources_octets (ListsBy (IsRunsOfBlocks as_bounds))
    as_choice_by c.cursor-cursor.result c.take_from.new.cursor c.cursor-cursor.ensures.mode _ _ ensured.reads
    ensured.strict c.in_ok-finish.ensures.exact)
