-- The models of a view of a chain: its blocks, and the number of reads of them.
use Rattle.std.specs.Prelude.{ℕ, List}
use Rattle.rpki_chain_core.specs.declared.chain.Chain.{Chain}
use Rattle.rpki_chain_core.specs.declared.counted.Counted.{Counted}

-- the blocks of a view
abbrev pub chain_blocks : {T I : Type 0} {block : _} {eq : _} {ord : _} {partial_ord : _}
    → Chain T I block eq ord partial_ord → List T
chain_blocks c = c.blocks.now

-- the blocks of a view with a count
abbrev pub counted_blocks : {T I : Type 0} {block : _} {eq : _} {ord : _} {partial_ord : _}
    → Counted T I block eq ord partial_ord → List T
counted_blocks c = c.chain.blocks.now

-- the number of reads of blocks of a view with a count
abbrev pub reads_of : {T I : Type 0} {block : _} {eq : _} {ord : _} {partial_ord : _}
    → Counted T I block eq ord partial_ord → ℕ
reads_of c = c.reads.number
