pub mod AsnDer
pub mod AsnPlaces
pub mod AsnText
pub mod SmallSet
pub mod Steps
pub mod Walks
