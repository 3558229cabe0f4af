-- The names of the kinds of resources, and the answers to a command for each kind.
use Rattle.std.specs.Prelude.{◌≡◌, ◌≢◌, ℕ, List, Option, Some, None, codes}
use Rattle.rpki_der.specs.declared.family.AddressFamily.{AddressFamily}
use Rattle.rpki_der.specs.declared.family.AddressFamily.TheVariants.{Ipv4, Ipv6}
use Rattle.respath_lines.specs.declared.kind.Kind.{Kind}
use Rattle.respath_lines.specs.declared.kind.Kind.TheVariants.{As, V4, V6}

-- the kind with the name `as`, `v4` or `v6`, or None for any other word
pub record IsKindNamed (word : List ℕ) (kind : Option Kind) : Type 0 where
  pub as_numbers : word ≡ codes "as" → kind ≡ Some As
  pub v4_addresses : word ≡ codes "v4" → kind ≡ Some V4
  pub v6_addresses : word ≡ codes "v6" → kind ≡ Some V6
  pub unknown : word ≢ codes "as" → word ≢ codes "v4" → word ≢ codes "v6" → kind ≡ None

-- The text is the answer for resources of this kind. `IsAs` says which texts are answers for AS numbers, and `IsIp`
-- which ones are answers for addresses of a family.
pub record IsByKind (IsAs : List ℕ → Type 0) (IsIp : AddressFamily → List ℕ → Type 0) (kind text : List ℕ) : Type 0
  where
    pub as_numbers : kind ≡ codes "as" → IsAs text
    pub v4_addresses : kind ≡ codes "v4" → IsIp Ipv4 text
    pub v6_addresses : kind ≡ codes "v6" → IsIp Ipv6 text
    pub unknown : kind ≢ codes "as" → kind ≢ codes "v4" → kind ≢ codes "v6" → text ≡ codes "error: unknown kind"
