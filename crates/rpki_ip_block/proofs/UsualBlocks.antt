-- Blocks of the usual form, as the general reading finds them.
use Rattle.rpki_ip_block.proofs.Common.{Bool, List, Ok, Some, [], arith, eqb-true, false, ℕ, ◌∷◌, ◌≡◌, ip_block_at}
use Rattle.rpki_ip_block.proofs.Common.{ip_block_by, ip_block_modal, IpBlock, Prefix, Range}
use Rattle.rpki_cover.specs.Prefixes.{PrefixValue}
use Rattle.rpki_der.proofs.ReadingSteps.{bind_ok}
use Rattle.rpki_der.specs.Reading.{optional, refined, tagged_at, value_at}
use Rattle.rpki_der.specs.SequenceReading.{by_tag}
use Rattle.rpki_ip.specs.PrefixDer.{prefix_at}
use Rattle.rpki_ip.specs.RangeDer.{range_in}
use Rattle.rpki_ip.specs.Ranges.{RangeValue}

-- a prefix is a block
pub prefix_block_found : (limit : ℕ) (bytes : List ℕ) (p : PrefixValue) (rest : List ℕ)
    → prefix_at limit bytes ≡ Ok (p, rest) → ip_block_at limit bytes ≡ Ok (Prefix p, rest)
unfolding refined tagged_at by_tag
prefix_block_found limit bytes p rest e =
    let (content, tagged, more) = bind_ok (tagged_at 3 bytes) _ (p, rest) e in
    let (v, read, same) = bind_ok (value_at bytes) _ content tagged in
    grind (arith, eqb-true, bind_ok)

-- so is a range
pub range_block_found : (limit : ℕ) (bytes : List ℕ) (r : RangeValue) (rest : List ℕ)
    → refined (tagged_at 48) (range_in limit) bytes ≡ Ok (r, rest) → ip_block_at limit bytes ≡ Ok (Range r, rest)
unfolding refined tagged_at by_tag
range_block_found limit bytes r rest e =
    let (content, tagged, more) = bind_ok (tagged_at 48 bytes) _ (r, rest) e in
    let (v, read, same) = bind_ok (value_at bytes) _ content tagged in
    grind (arith, eqb-true, bind_ok)

-- a block at the front is found leniently, because no block is read of no octets
pub lenient_found : (strict : Bool) (limit : ℕ) (bytes : List ℕ) (x : IpBlock) (rest : List ℕ) → strict ≡ false
    → ip_block_at limit bytes ≡ Ok (x, rest) → optional (ip_block_by strict limit) bytes ≡ Ok (Some x, rest)
unfolding optional refined value_at
lenient_found strict limit [] x rest lenient e = absurd cc
lenient_found strict limit (b ∷ bytes) x rest lenient e =
    let tight = (ip_block_modal limit).tightens strict (b ∷ bytes) in grind arith
