-- The results of the calls on handles of sets.
use Rattle.std.specs.Prelude.{◌≡◌, ◌≢◌, ◌⊎◌, ℕ, List, Option, Some, None, Result, Ok, Err, map}
use Rattle.std.specs.Ptr.{Ptr, null_ptr}
use denote.RawPtr.{InBlock}
use Rattle.rpki_as.specs.ListText.{as_list_text}
use Rattle.rpki_der.specs.declared.family.AddressFamily.{AddressFamily}
use Rattle.rpki_prefix.specs.Values.{FamilyPrefix}
use Rattle.rpki_text.specs.declared.memory.OrMemory.{OrMemory}
use Rattle.rpki_text.specs.declared.memory.OrMemory.TheVariants.{Refused, Memory}
use Rattle.rpki_resources.specs.Triples.{Triple, set_of_family}
use Rattle.rpki_resources.specs.TripleText.{ipv4_list_text, ipv6_list_text}
use Rattle.rpki_extensions.specs.Issued.{IsVerified}
use Rattle.rpki_extensions.specs.declared.encoding.Encoding.{Encoding}
use Rattle.rpki_extensions.specs.declared.extensions.Extensions.{Extensions}
use Rattle.roa_check.specs.Inside.{IsPrefixInside}
use Rattle.pigyelund_routes.specs.Families.{family_number}
use Rattle.pigyelund_routes.specs.Routes.{IsNoPrefixPassed, IsPrefixPassed, route_error_status}
use Rattle.pigyelund_routes.specs.Written.{AreWritten}
use Rattle.pigyelund_routes.specs.declared.route.RawPrefix.{RawPrefix}
use Rattle.pigyelund_routes.specs.declared.route.RouteError.{RouteError}
use Rattle.pigyelund_c.specs.Certificates.{IsArgumentError, IsCertificate}
use Rattle.pigyelund_c.specs.Covers.{ArePrefixesOf}
use Rattle.pigyelund_c.specs.Numbers.{encoding_number}
use Rattle.pigyelund_c.specs.Paths.{IsFirstRefused, IsLeftOnPath}
use Rattle.pigyelund_c.specs.Ranges.{ip_range}
use Rattle.pigyelund_c.specs.Sets.{IsNoSet, IsSet}
use Rattle.pigyelund_c.specs.Statuses.{overclaimed, refusal_status}
use Rattle.pigyelund_c.specs.Texts.{kind_number}
use Rattle.pigyelund_c.specs.Verified.{HasNoEncoding, IsVerifyRefusal, OfArgumentError}
use Rattle.pigyelund_c.specs.declared.certificate.Certificate.{Certificate}
use Rattle.pigyelund_c.specs.declared.cover.CoverError.{CoverError}
use Rattle.pigyelund_c.specs.declared.cover.CoverError.TheVariants.{Asked, Unread}
use Rattle.pigyelund_c.specs.declared.path.PathError.{PathError}
use Rattle.pigyelund_c.specs.declared.ranges.RawIpRange.{RawIpRange}
use Rattle.pigyelund_c.specs.declared.refusal.ArgumentError.{ArgumentError}
use Rattle.pigyelund_c.specs.declared.refusal.ArgumentError.TheVariants.{NoEncoding, NoFamily}
use Rattle.pigyelund_c.specs.declared.refusal.Refusal.{Refusal}
use Rattle.pigyelund_c.specs.declared.text.Kind.{Kind}
use Rattle.pigyelund_c.specs.declared.text.Kind.TheVariants.{Numbers, Ipv4, Ipv6}

-- ---- handles that are given

-- The handle of the set is given and the status is 0. Or the status is 512, and the handle is null.
abbrev pub IsGiven : Triple → Option Triple → Ptr → ℕ → Type 0
IsGiven set given at result =
    ((given ≡ Some set) × InBlock at × (result ≡ 0)) ⊎ ((at ≡ null_ptr) × (result ≡ 512))

-- The handle of a set for which P holds is given and the status is 0. Or the status is 512, and the handle is null.
abbrev pub IsSetMade : (Triple → Type 0) → Option Triple → Ptr → ℕ → Type 0
IsSetMade P given at result =
    ((set : Triple) × P set × (given ≡ Some set) × InBlock at × (result ≡ 0)) ⊎ ((at ≡ null_ptr) × (result ≡ 512))

-- The handle of a set for which P holds is given. Otherwise the status is that of a reason for which N holds, or 512,
-- and the handle is null.
abbrev pub IsSetGiven : (R : Type 0) → (Triple → Type 0) → (R → ℕ) → (R → Type 0) → Option Triple → Ptr → ℕ → Type 0
IsSetGiven R P status N given at result =
    ((set : Triple) × P set × IsGiven set given at result)
    ⊎ (((reason : R) × N reason × (result ≡ status reason) × (at ≡ null_ptr))
    ⊎ ((result ≡ 512) × (at ≡ null_ptr)))

-- ---- read

-- The octets list the set, in the encoding with this number.
abbrev pub IsReadSet : List ℕ → List ℕ → ℕ → Triple → Type 0
IsReadSet numbers addresses encoding set =
    (way : Encoding) × (encoding ≡ encoding_number way) × IsSet way numbers addresses set

-- The number of the encoding is unknown, or else the octets list no set.
abbrev pub IsNoReadSet : List ℕ → List ℕ → ℕ → CoverError → Type 0
IsNoReadSet numbers addresses encoding (Asked why) =
    (why ≡ NoEncoding) × ((way : Encoding) → encoding ≢ encoding_number way)
IsNoReadSet numbers addresses encoding (Unread reason) =
    (way : Encoding) × (encoding ≡ encoding_number way) × IsNoSet way numbers addresses reason

-- ---- verified

-- The set is the part of the issuer's set that the certificate claims. The certificate is passed as octets and numbers.
abbrev pub IsOutcomeBy : Triple → ℕ → List ℕ → List ℕ → ℕ → ℕ → Triple → Type 0
IsOutcomeBy issuer present cert_as cert_ip encoding mode set =
    (way : Encoding) × (encoding ≡ encoding_number way)
    × ((certificate : Extensions) × IsCertificate present cert_as cert_ip way mode certificate
    × IsVerified issuer certificate set)

-- A number is unknown, or else the issuer's set does not verify the certificate.
abbrev pub IsNoOutcomeBy : Triple → ℕ → List ℕ → List ℕ → ℕ → ℕ → Refusal → Type 0
IsNoOutcomeBy issuer present cert_as cert_ip encoding mode reason =
    HasNoEncoding encoding reason
    ⊎ ((way : Encoding) × (encoding ≡ encoding_number way)
    × (OfArgumentError (IsArgumentError present mode) reason
    ⊎ ((certificate : Extensions) × IsCertificate present cert_as cert_ip way mode certificate
    × IsVerifyRefusal issuer certificate reason)))

-- The set is the part of the anchor's set that the certificates leave.
abbrev pub IsPathOutcomeBy : Triple → List ℕ → List Certificate → ℕ → Triple → Type 0
IsPathOutcomeBy anchor run cs encoding set =
    (way : Encoding) × (encoding ≡ encoding_number way) × IsLeftOnPath run way anchor cs set

-- The number of the encoding is unknown, or else a certificate is not verified.
abbrev pub IsNoPathOutcomeBy : Triple → List ℕ → List Certificate → ℕ → PathError → Type 0
IsNoPathOutcomeBy anchor run cs encoding error =
    ((error.verified ≡ 0) × HasNoEncoding encoding error.reason)
    ⊎ ((way : Encoding) × (encoding ≡ encoding_number way) × IsFirstRefused run way anchor cs error)

-- The handle of overclaimed resources is given if there are such resources, and is null otherwise.
abbrev pub IsExcessGiven : Option Triple → Option Triple → Ptr → Type 0
IsExcessGiven None given at = at ≡ null_ptr
IsExcessGiven (Some excess) given at = (given ≡ Some excess) × InBlock at

-- The status is that of the reason, and the handle of its overclaimed resources is given. Or the status is 512, and the
-- handle is null.
abbrev pub IsReasonGiven : Refusal → Option Triple → Ptr → ℕ → Type 0
IsReasonGiven reason given at result =
    ((result ≡ refusal_status reason) × IsExcessGiven (overclaimed reason) given at)
    ⊎ ((result ≡ 512) × (at ≡ null_ptr))

-- The handle of the verified resources is given, or else that of the overclaimed ones. Or both are null, and the status
-- says why.
abbrev pub AreOutcomesGiven : Result Triple (OrMemory Refusal) → Option Triple → Ptr → Option Triple → Ptr → ℕ → Type 0
AreOutcomesGiven (Ok set) given at over_given over_at result = IsGiven set given at result × (over_at ≡ null_ptr)
AreOutcomesGiven (Err (Refused reason)) given at over_given over_at result =
    (at ≡ null_ptr) × IsReasonGiven reason over_given over_at result
AreOutcomesGiven (Err (Memory error)) given at over_given over_at result =
    (at ≡ null_ptr) × (result ≡ 512) × (over_at ≡ null_ptr)

-- ---- answers

-- The number is 1 if P holds, and 0 if not.
abbrev pub IsYesIf : Type 0 → ℕ → Type 0
IsYesIf P number = ((number ≡ 1) × P) ⊎ ((number ≡ 0) × ¬ P)

-- The number is 1 if the set has each address of the prefix that is passed, and 0 if not.
abbrev pub IsPrefixAnswer : Triple → RawPrefix → ℕ → Type 0
IsPrefixAnswer set passed answer =
    (p : FamilyPrefix) × IsPrefixPassed passed p × IsYesIf (IsPrefixInside set p) answer

-- The answer about a prefix is returned. With an invalid prefix it is 0, and the status is that of the reason.
abbrev pub IsPrefixAnswerReturned : Triple → RawPrefix → ℕ → ℕ → Type 0
IsPrefixAnswerReturned set passed answer result =
    (IsPrefixAnswer set passed answer × (result ≡ 0))
    ⊎ ((why : RouteError) × IsNoPrefixPassed passed why × (answer ≡ 0) × (result ≡ route_error_status why))

-- ---- lists and texts

-- The number of the family is unknown.
abbrev pub HasNoFamily : ℕ → ArgumentError → Type 0
HasNoFamily family why = (why ≡ NoFamily) × ((kind : AddressFamily) → family ≢ family_number kind)

-- The list has the fewest prefixes of the set's addresses of the family with this number.
abbrev pub ArePrefixesIn : Triple → ℕ → List RawPrefix → Type 0
ArePrefixesIn set family list =
    (kind : AddressFamily) × (family ≡ family_number kind) × ArePrefixesOf kind (set_of_family kind set) list

-- The list has the ranges of the set's addresses of the family with this number.
abbrev pub AreRangesIn : Triple → ℕ → List RawIpRange → Type 0
AreRangesIn set family list =
    (kind : AddressFamily) × (family ≡ family_number kind) × (list ≡ map (ip_range kind) (set_of_family kind set))

-- The text of one kind of resources of a set.
abbrev pub kind_list_text : Kind → Triple → List ℕ
kind_list_text Numbers set = as_list_text set.asn
kind_list_text Ipv4 set = ipv4_list_text set.ipv4
kind_list_text Ipv6 set = ipv6_list_text set.ipv6

-- The text of the kind with this number is written. Otherwise the number of the kind is unknown and the status is 1029,
-- or the status is 512, and nothing is written.
abbrev pub IsKindTextReturned : Triple → ℕ → List ℕ → List ℕ → ℕ → ℕ → Type 0
IsKindTextReturned set kind before after len result =
    ((of : Kind) × (kind ≡ kind_number of) × AreWritten (kind_list_text of set) before after len result)
    ⊎ ((((of : Kind) → kind ≢ kind_number of) × (result ≡ 1029) × (after ≡ before) × (len ≡ 0))
    ⊎ ((result ≡ 512) × (after ≡ before) × (len ≡ 0)))
