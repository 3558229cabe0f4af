use Rattle.rpki_family.proofs.Common.{subst, All-tail, All, iter_rest, ip_bounds, IpBlock}
use Rattle.rpki_family.proofs.iter.BlockIterIterator.next.Goals as goal

pub invariant_of-self-2 : goal.invariant_of-self-2
invariant_of-self-2 g c =
    let fits = λ (block : IpBlock). g.B.BlockOfSet.fits (ip_bounds block) in
    All-tail fits c.in_ok-block.block.now (iter_rest c.next.new.self)
    (subst (All fits) c.in_ok-block.ensures.steps c.self.invariant)
