-- Sets of resources that are passed as the values of the two extensions of RFC 3779.
use Rattle.std.specs.Prelude.{◌≡◌, ◌⊎◌, ◌<◌, ℕ, List, [], ◌∷◌, Option, Some, None, length}
use Rattle.rpki_chain.specs.Claims.{Claim}
use Rattle.rpki_resources.specs.Triples.{AreListed, IsOneInherited, Triple}
use Rattle.rpki_extensions.specs.Claims.{AreAddressClaims, HasAddressesFault, HasNumbersFault, IsNumbersClaim}
use Rattle.rpki_extensions.specs.Written.{written_addresses, written_numbers}
use Rattle.rpki_extensions.specs.declared.encoding.Encoding.{Encoding}
use Rattle.pigyelund_routes.specs.Written.{IsPut}
use Rattle.pigyelund_c.specs.declared.refusal.ReadSetError.{ReadSetError}
use Rattle.pigyelund_c.specs.declared.refusal.ReadSetError.TheVariants.{Numbers, Addresses, Inherited}

-- ---- read

-- The value of an extension in a set that is passed. No octets mean that the extension is absent.
abbrev pub some_octets : List ℕ → Option (List ℕ)
some_octets [] = None
some_octets (octet ∷ octets) = Some (octet ∷ octets)

-- The octets of both extensions list this set.
pub record IsSet (encoding : Encoding) (numbers addresses : List ℕ) (set : Triple) : Type 0 where
  pub asn : Claim
  pub ip : Claim × Claim
  pub are_numbers : IsNumbersClaim encoding (some_octets numbers) asn
  pub are_addresses : AreAddressClaims encoding (some_octets addresses) ip
  pub listed : AreListed asn ip.0 ip.1 set

-- The octets are claims, and at least one of them is inherited.
pub record AreInherited (encoding : Encoding) (numbers addresses : List ℕ) : Type 0 where
  pub asn : Claim
  pub ip : Claim × Claim
  pub are_numbers : IsNumbersClaim encoding (some_octets numbers) asn
  pub are_addresses : AreAddressClaims encoding (some_octets addresses) ip
  pub inherited : IsOneInherited asn ip.0 ip.1

-- The first reason why the octets list no set.
abbrev pub IsNoSet : Encoding → List ℕ → List ℕ → ReadSetError → Type 0
IsNoSet encoding numbers addresses (Numbers fault) = HasNumbersFault encoding (some_octets numbers) fault
IsNoSet encoding numbers addresses (Addresses fault) =
    ((asn : Claim) × IsNumbersClaim encoding (some_octets numbers) asn)
    × HasAddressesFault encoding (some_octets addresses) fault
IsNoSet encoding numbers addresses Inherited = AreInherited encoding numbers addresses

-- ---- written

-- The octets of an extension, or no octets if it is absent.
abbrev pub octets_or_none : Option (List ℕ) → List ℕ
octets_or_none None = []
octets_or_none (Some octets) = octets

-- The octets of AS identifiers that list a set's AS numbers.
abbrev pub as_value : Triple → List ℕ
as_value t = octets_or_none (written_numbers t.asn)

-- The octets of IP address blocks that list a set's addresses.
abbrev pub ip_value : Triple → List ℕ
ip_value t = octets_or_none (written_addresses t.ipv4 t.ipv6)

-- A status and a set are returned. The set is written whole, or the buffers are unchanged. If they are unchanged, the
-- status is 256 and the lengths are the required ones, or the status is 512 and the lengths are 0.
abbrev pub IsSetReturned : ℕ → Triple → List ℕ → List ℕ → List ℕ → List ℕ → ℕ → ℕ → ℕ → Type 0
IsSetReturned status set as_before ip_before as_after ip_after as_len ip_len result =
    ((result ≡ 512) × (as_after ≡ as_before) × (ip_after ≡ ip_before) × (as_len ≡ 0) × (ip_len ≡ 0))
    ⊎ (((result ≡ 256) × (as_after ≡ as_before) × (ip_after ≡ ip_before)
    × (as_len ≡ length (as_value set)) × (ip_len ≡ length (ip_value set))
    × ((length as_before < as_len) ⊎ (length ip_before < ip_len)))
    ⊎ ((result ≡ status) × IsPut (as_value set) as_before as_after × IsPut (ip_value set) ip_before ip_after
    × (as_len ≡ length (as_value set)) × (ip_len ≡ length (ip_value set))))

-- Nothing is returned: the buffers are unchanged, and the lengths are 0.
abbrev pub IsNothingReturned : List ℕ → List ℕ → List ℕ → List ℕ → ℕ → ℕ → Type 0
IsNothingReturned as_before ip_before as_after ip_after as_len ip_len =
    (as_after ≡ as_before) × (ip_after ≡ ip_before) × (as_len ≡ 0) × (ip_len ≡ 0)
