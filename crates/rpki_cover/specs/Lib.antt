pub mod Bits
pub mod Covers
pub mod Prefixes
pub mod Walk
