use Rattle.rpki_family.proofs.block.read_block.Goals as goal

pub returns-in-Ipv4 : goal.returns-in-Ipv4
returns-in-Ipv4 c =
    rw c.in-Ipv4.is (record { exact = c.from_v4_str.ensures.exact; reads_back = c.from_v4_str.ensures.reads_back })

pub returns-in-Ipv6 : goal.returns-in-Ipv6
returns-in-Ipv6 c =
    rw c.in-Ipv6.is (record { exact = c.from_v6_str.ensures.exact; reads_back = c.from_v6_str.ensures.reads_back })
