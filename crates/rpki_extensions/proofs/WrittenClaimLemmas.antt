-- What is written of claims is read as them.
use Rattle.rpki_extensions.proofs.Common.{List, Some, [], arith, length, ℕ, ◌++◌, ◌<◌, ◌≡◌, ◌≢◌, ◌^◌, Ipv4, Ipv6, Claim}
use Rattle.rpki_extensions.proofs.Common.{Missing, IsFamilyClaim, if_present, IsIpFamilies, ip_families_der}
use Rattle.rpki_extensions.proofs.Common.{AreAddressClaims, claim_or_missing, IsAddressValue, Encoding}
use Rattle.rpki_ipres.proofs.IpResourcesWritten.{claims_written}
use Rattle.rpki_extensions.specs.Written.{claimed_addresses}

some_addresses : (v4 v6 : Claim) → (v4 ≡ Missing → v6 ≢ Missing)
    → Some (ip_families_der v4 v6) ≡ claimed_addresses v4 v6
some_addresses v4 v6 some = grind (arith)

back_again : (claim : Claim) → claim ≡ claim_or_missing (if_present claim)
back_again claim = grind (arith)

-- octets that are the families' as a law has it are their value by either encoding
value_again : (v4 v6 : Claim) → (v4 ≡ Missing → v6 ≢ Missing) → IsFamilyClaim Ipv4 v4 → IsFamilyClaim Ipv6 v6
    → (e : Encoding) → IsIpFamilies (ip_families_der v4 v6) (if_present v4, if_present v6)
    → IsAddressValue e (ip_families_der v4 v6) (if_present v4, if_present v6)
value_again v4 v6 some is also e law = grind (arith)

-- octets that were written to an empty vector
module _ (v4 v6 : Claim) (items old : List ℕ) (some : v4 ≡ Missing → v6 ≢ Missing)
    (ok : items ≡ old ++ ip_families_der v4 v6) (clean : old ≡ [])
  where
    pub is_written : Some items ≡ claimed_addresses v4 v6
    is_written = rw (ok, clean) (some_addresses v4 v6 some)

    pub is_read_back : IsFamilyClaim Ipv4 v4 → IsFamilyClaim Ipv6 v6 → length items < 2 ^ 64 → (encoding : Encoding)
        → AreAddressClaims encoding (Some items) (v4, v6)
    is_read_back is also short encoding =
        let octets = claims_written v4 v6 is also some (rw (ok, clean) at short) in
        let value = value_again v4 v6 some is also encoding octets in
        rw (ok, clean) ((if_present v4, if_present v6), value, λ i. (back_again v4 i, back_again v6 i))
