-- Covers of blocks of addresses by prefixes.
use Rattle.std.specs.Prelude.{ℕ, List, map}
use Rattle.std.specs.List.{flat_map}
use Rattle.rpki_cover.specs.Prefixes.{PrefixValue}
use Rattle.rpki_cover.specs.Walk.{cover_list}
use Rattle.rpki_ip_block.specs.Blocks.{ip_bounds}
use Rattle.rpki_ip_block.specs.declared.block.IpBlock.{IpBlock}

-- the cover lists of runs, one after the other; w is the number of bits of an address
abbrev pub runs_cover : ℕ → List (ℕ × ℕ) → List PrefixValue
runs_cover w runs = flat_map (λ b. cover_list w b.0 b.1) runs

-- the cover lists of blocks of addresses of 128 bits, one after the other
abbrev pub blocks_cover : List IpBlock → List PrefixValue
blocks_cover blocks = runs_cover 128 (map ip_bounds blocks)
