-- Definitions: the width of addresses, and their texts, read and printed.
pub mod AddressFronts
pub mod AddressText
pub mod FromStrResults
pub mod GroupProgress
pub mod Orders
pub mod PrintedAddress
pub mod ReaderResults
pub mod Widths
