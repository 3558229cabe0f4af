pub mod AsDer
pub mod AsDerReading
pub mod Blocks
pub mod Faults
pub mod ListText
pub mod ResourcesText
