-- The printed texts of the faults of prefixes, ranges and blocks, as the Rust crate `rpki` 0.20.1 prints them.
use Rattle.std.specs.Prelude.{ℕ, List, ◌++◌, codes}
use Rattle.rpki_text.specs.Numbers.{number_fault_text}
use Rattle.rpki_addr.specs.FromStrResults.{address_fault_text}
use Rattle.rpki_ip.specs.declared.error.FromStrError.{FromStrError}
use Rattle.rpki_ip.specs.declared.error.FromStrError.TheVariants.{Addr, PrefixLen, MissingSeparator, FamilyMismatch}
use Rattle.rpki_ip.specs.declared.error.FromStrError.TheVariants.{BadBlocks, BadRange}

-- the text of each fault
abbrev pub ip_from_str_error_text : FromStrError → List ℕ
ip_from_str_error_text (Addr fault) = address_fault_text fault
ip_from_str_error_text (PrefixLen fault) = codes "bad prefix length: " ++ number_fault_text fault
ip_from_str_error_text MissingSeparator = codes "missing separator"
ip_from_str_error_text FamilyMismatch = codes "address family mismatch"
ip_from_str_error_text BadBlocks = codes "cannot parse blocks"
ip_from_str_error_text BadRange = codes "invalid address range"
