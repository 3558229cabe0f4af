use Rattle.rpki_resources.proofs.set.ResourceSet.contains_roa_address.Goals as goal

pub returns-in-Ipv4 : goal.returns-in-Ipv4
returns-in-Ipv4 g c = rw (c.in-Ipv4.is, ← c.self.view_is, ← c.ip_blocks.ensures.value) c.contains_roa.ensures

pub returns-in-Ipv6 : goal.returns-in-Ipv6
returns-in-Ipv6 g c =
    rw (c.in-Ipv6.is, ← c.self.view_is, ← c.ip_blocks-in-Ipv6.ensures.value) c.contains_roa-in-Ipv6.ensures
