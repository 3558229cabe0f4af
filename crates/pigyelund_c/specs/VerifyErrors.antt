-- The status (numbered in `pigyelund_routes::status`) and the overclaimed resources for the reason why an issuer does
-- not verify a certificate's extensions.
use Rattle.std.specs.Prelude.{ℕ, ◌+◌, [], Option, None, Some}
use Rattle.rpki_der.specs.Faults.{fault_number}
use Rattle.rpki_resources.specs.Triples.{Triple, no_resources}
use Rattle.rpki_extensions.specs.declared.error.VerifyError.{VerifyError}
use Rattle.rpki_extensions.specs.declared.error.VerifyError.TheVariants.{Absent, AsOctets, AddressOctets, Inherited}
use Rattle.rpki_extensions.specs.declared.error.VerifyError.TheVariants.{Asn, Ipv4, Ipv6}

-- The status of the reason why an issuer does not verify a certificate's extensions. 16777216 is added if the octets of
-- an extension are invalid, or if resources are inherited without an issuer.
abbrev pub verify_error_status : {A : Type 0} → VerifyError A → ℕ
verify_error_status Absent = 16384
verify_error_status (AsOctets fault) = 16777216 + 2048 + fault_number fault
verify_error_status (AddressOctets fault) = 16777216 + 4096 + fault_number fault
verify_error_status Inherited = 16777216 + 8192
verify_error_status (Asn excess) = 32773
verify_error_status (Ipv4 excess) = 32772
verify_error_status (Ipv6 excess) = 32774

-- The overclaimed resources as a set. It has no resources for any other reason.
abbrev pub verify_error_excess : {A : Type 0} → VerifyError A → Triple
verify_error_excess Absent = no_resources
verify_error_excess (AsOctets fault) = no_resources
verify_error_excess (AddressOctets fault) = no_resources
verify_error_excess Inherited = no_resources
verify_error_excess (Asn excess) = record { asn = excess; ipv4 = []; ipv6 = [] }
verify_error_excess (Ipv4 excess) = record { asn = []; ipv4 = excess; ipv6 = [] }
verify_error_excess (Ipv6 excess) = record { asn = []; ipv4 = []; ipv6 = excess }

-- The overclaimed resources as a set, or None for any other reason.
abbrev pub verify_error_overclaimed : {A : Type 0} → VerifyError A → Option Triple
verify_error_overclaimed Absent = None
verify_error_overclaimed (AsOctets fault) = None
verify_error_overclaimed (AddressOctets fault) = None
verify_error_overclaimed Inherited = None
verify_error_overclaimed (Asn excess) = Some (record { asn = excess; ipv4 = []; ipv6 = [] })
verify_error_overclaimed (Ipv4 excess) = Some (record { asn = []; ipv4 = excess; ipv6 = [] })
verify_error_overclaimed (Ipv6 excess) = Some (record { asn = []; ipv4 = []; ipv6 = excess })
