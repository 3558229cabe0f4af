-- The octets of blocks of addresses that strict cursors accept.
use Rattle.std.specs.Prelude.{◌≡◌, ℕ, true, List, Option}
use Rattle.rpki_der.specs.SequenceReading.{SaysPair}
use Rattle.rpki_block.specs.Beyond.{IsBeyond}
use Rattle.rpki_der.specs.Der.{IsSequence, Refines, Where}
use Rattle.rpki_ip.specs.RangeDer.{IsSpan}
use Rattle.rpki_ip.specs.Ranges.{RangeValue}
use Rattle.rpki_ip.specs.PrefixDer.{IsStrictPrefix}
use Rattle.rpki_ip_block.specs.BlockReading.{is_set_range}
use Rattle.rpki_ip_block.specs.Blocks.{ip_bounds}
use Rattle.rpki_ip_block.specs.declared.block.IpBlock.{IpBlock}
use Rattle.rpki_ip_block.specs.declared.block.IpBlock.TheVariants.{Prefix, Range}

-- the content denotes a range, and strict cursors accept it
abbrev pub SaysStrictRange : ℕ → List ℕ → RangeValue → Type 0
SaysStrictRange limit = SaysPair (IsStrictPrefix limit) (λ p q r. IsSpan p q r × (is_set_range p q ≡ true))

-- the octets denote a block, and strict cursors accept them
abbrev pub IsStrictIpBlock : ℕ → List ℕ → IpBlock → Type 0
IsStrictIpBlock limit bytes (Prefix p) = IsStrictPrefix limit bytes p
IsStrictIpBlock limit bytes (Range r) = Refines IsSequence (SaysStrictRange limit) bytes r

-- the octets denote a block that begins more than one above the address before, and strict cursors accept them
abbrev pub IsNextIpBlock : ℕ → Option ℕ → List ℕ → IpBlock → Type 0
IsNextIpBlock limit before = Where (IsStrictIpBlock limit) (λ block. IsBeyond before (ip_bounds block).0)
