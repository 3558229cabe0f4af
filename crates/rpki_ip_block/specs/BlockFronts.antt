-- Texts that begin with an element of a list of blocks of addresses.
use Rattle.std.specs.Prelude.{◌≡◌, ℕ, ◌<◌, ◌⊎◌, List, [], ◌∷◌, ◌++◌, length, Some}
use Rattle.std.specs.Int.{IsInRange}
use Rattle.std.specs.List.{AllByRecursion}
use Rattle.std.specs.Str.Parse.{AllDigits}
use Rattle.rpki_addr.specs.AddressFronts.{IsAtFront}
use Rattle.rpki_addr.specs.declared.addr.IpAddr.{IpAddr}
use Rattle.rpki_der.specs.declared.family.AddressFamily.{AddressFamily}
use Rattle.rpki_ip.specs.BlockText.{IsPrefixAt, IsRangeFrom, WithAddress}
use Rattle.rpki_ip_block.specs.ListText.{IsElementText}
use Rattle.rpki_ip_block.specs.declared.block.IpBlock.{IpBlock}
use Rattle.rpki_ip_block.specs.declared.block.IpBlock.TheVariants.{Prefix, Range}

-- The text begins with an element that denotes the block. The element has only bytes from `-` on, so it has neither a
-- comma nor white space. The rest is after it.
pub record IsBlockAtFront (family : AddressFamily) (text : List ℕ) (b : IpBlock) (rest : List ℕ) : Type 0 where
  pub front : List ℕ
  pub split : text ≡ front ++ rest
  pub some : 0 < length front
  pub block : IsElementText family front b
  pub shown : AllByRecursion (IsInRange 45 126) front

-- the block is the range from an address to an address of the family at the front of the text, and rest is after it
abbrev pub IsRangeAfterDash : AddressFamily → IpAddr → List ℕ → IpBlock → List ℕ → Type 0
IsRangeAfterDash family first text (Range r) rest =
    IsAtFront (λ t r. WithAddress (Some family) t (λ last. IsRangeFrom first last r)) text r rest
IsRangeAfterDash family first text (Prefix p) rest = ⊥

-- the block is the prefix at an address; its length in digits is at the front of the text, and rest is after it
abbrev pub IsPrefixAfterSlash : IpAddr → List ℕ → IpBlock → List ℕ → Type 0
IsPrefixAfterSlash first text (Prefix p) rest = IsAtFront (λ t p. AllDigits 10 t × IsPrefixAt first t p) text p rest
IsPrefixAfterSlash first text (Range r) rest = ⊥

-- rest is after a space (32) at the front of the text, or is the whole text
abbrev pub IsAfterOptionalSpace : List ℕ → List ℕ → Type 0
IsAfterOptionalSpace text rest = (rest ≡ text) ⊎ (text ≡ 32 ∷ rest)

-- a space alone, or no byte
abbrev pub IsSpaceOrNothing : List ℕ → Type 0
IsSpaceOrNothing text = (text ≡ []) ⊎ (text ≡ 32 ∷ [])
