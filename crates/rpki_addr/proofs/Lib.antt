-- Lemmas on the texts of addresses.
pub mod AddressBytes
pub mod AddressFronts
pub mod AddressLemmas
pub mod AddressTextLemmas
pub mod Common
pub mod DigitGroupLemmas
pub mod GroupLemmas
pub mod PrintedAddressLemmas
pub mod UsualGroups
pub mod WidthLemmas
pub mod WrittenBytes
