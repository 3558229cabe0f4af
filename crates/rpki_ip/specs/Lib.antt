-- Definitions: texts and printed texts of addresses, prefixes and ranges, ranges of addresses, whole IPv4 addresses,
-- and DER.
pub mod AddrText
pub mod BlockText
pub mod Faults
pub mod PrefixDer
pub mod PrintedText
pub mod RangeDer
pub mod Ranges
pub mod Whole
