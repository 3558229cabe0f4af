-- The statuses of reasons (numbered in `pigyelund_routes::status`), and the overclaimed resources of each.
use Rattle.std.specs.Prelude.{ℕ, ◌+◌, Option, None}
use Rattle.rpki_der.specs.Faults.{fault_number}
use Rattle.rpki_resources.specs.Triples.{Triple, no_resources}
use Rattle.pigyelund_c.specs.VerifyErrors.{verify_error_excess, verify_error_overclaimed, verify_error_status}
use Rattle.pigyelund_c.specs.declared.refusal.ArgumentError.{ArgumentError}
use Rattle.pigyelund_c.specs.declared.refusal.ArgumentError.TheVariants.{NoEncoding, NoMode, NoPresence, NoFamily}
use Rattle.pigyelund_c.specs.declared.refusal.ArgumentError.TheVariants.{Outside}
use Rattle.pigyelund_c.specs.declared.refusal.Refusal.{Refusal}
use Rattle.pigyelund_c.specs.declared.refusal.Refusal.TheVariants.{Asked, Issuer, Unverified}
use Rattle.pigyelund_c.specs.declared.refusal.ReadSetError.{ReadSetError}
use Rattle.pigyelund_c.specs.declared.refusal.ReadSetError.TheVariants.{Numbers, Addresses, Inherited}

-- The status of an invalid argument.
abbrev pub argument_error_status : ArgumentError → ℕ
argument_error_status NoEncoding = 1025
argument_error_status NoMode = 1026
argument_error_status NoPresence = 1027
argument_error_status NoFamily = 1028
argument_error_status Outside = 1032

-- The status of the reason why octets list no set. For invalid octets it has the number of the fault.
abbrev pub read_set_error_status : ReadSetError → ℕ
read_set_error_status (Numbers fault) = 2048 + fault_number fault
read_set_error_status (Addresses fault) = 4096 + fault_number fault
read_set_error_status Inherited = 8192

-- The status of the reason why an issuer does not verify a certificate.
abbrev pub refusal_status : Refusal → ℕ
refusal_status (Asked why) = argument_error_status why
refusal_status (Issuer reason) = read_set_error_status reason
refusal_status (Unverified reason) = verify_error_status reason

-- The overclaimed resources as a set. It has no resources if an argument or the issuer's octets are invalid.
abbrev pub excess_of : Refusal → Triple
excess_of (Asked why) = no_resources
excess_of (Issuer reason) = no_resources
excess_of (Unverified reason) = verify_error_excess reason

-- The overclaimed resources as a set, or None for any other reason.
abbrev pub overclaimed : Refusal → Option Triple
overclaimed (Asked why) = None
overclaimed (Issuer reason) = None
overclaimed (Unverified reason) = verify_error_overclaimed reason
