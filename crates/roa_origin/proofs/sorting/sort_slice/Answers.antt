-- The one pass has sorted the VRPs.
use Rattle.roa_origin.proofs.sorting.sort_slice.Goals as goal

pub returns-then-sort_nearly-clause-ordered : goal.returns-then-sort_nearly-clause-ordered
returns-then-sort_nearly-clause-ordered c = c.sort_nearly.ensures.ordered c.if-sort_nearly.true
