-- The texts of errors for certificates that aren't verified.
use Rattle.std.specs.Prelude.{ℕ, List, ◌++◌, codes, decimal}
use Rattle.rpki_der.specs.Faults.{fault_text}
use Rattle.rpki_as.specs.Faults.{overclaimed_as_text}
use Rattle.rpki_der.specs.declared.family.AddressFamily.TheVariants.{Ipv4 as v4, Ipv6 as v6}
use Rattle.rpki_ipres.specs.SetText.{overclaimed_ip_text}
use Rattle.rpki_extensions.specs.declared.error.VerifyBelowError.{VerifyBelowError}
use Rattle.rpki_extensions.specs.declared.error.VerifyBelowError.TheVariants.{Anchor, Certificate}
use Rattle.rpki_extensions.specs.declared.error.VerifyError.{VerifyError}
use Rattle.rpki_extensions.specs.declared.error.VerifyError.TheVariants.{Absent, AsOctets, AddressOctets, Inherited}
use Rattle.rpki_extensions.specs.declared.error.VerifyError.TheVariants.{Asn, Ipv4, Ipv6}
use Rattle.rpki_extensions.specs.declared.error.VerifyPathError.{VerifyPathError}

-- the printed text of a reason: the extension and the first fault of its octets, or the kind and its overclaimed
-- resources
abbrev pub verify_error_text : {A : Type 0} → VerifyError A → List ℕ
verify_error_text Absent = codes "neither AS identifiers nor IP address blocks"
verify_error_text (AsOctets fault) = codes "AS identifiers: " ++ fault_text fault
verify_error_text (AddressOctets fault) = codes "IP address blocks: " ++ fault_text fault
verify_error_text Inherited = codes "a trust anchor inherits resources"
verify_error_text (Asn excess) = overclaimed_as_text excess
verify_error_text (Ipv4 excess) = overclaimed_ip_text v4 excess
verify_error_text (Ipv6 excess) = overclaimed_ip_text v6 excess

-- the printed text of an error on a path: the index of the certificate, and the reason
abbrev pub certificate_text : {A : Type 0} → VerifyPathError A → List ℕ
certificate_text refusal =
    codes "certificate " ++ decimal refusal.step ++ codes ": " ++ verify_error_text refusal.reason

-- the printed text of an error below an anchor: the reason of the anchor, or the certificate with its reason
abbrev pub below_text : {A : Type 0} → VerifyBelowError A → List ℕ
below_text (Anchor reason) = verify_error_text reason
below_text (Certificate refusal) = certificate_text refusal
