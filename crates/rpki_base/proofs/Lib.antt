pub mod AsnIndexLemmas
pub mod AsnLemmas
pub mod AsnPrinting
pub mod Common
pub mod SmallSetLemmas
pub mod SmallSetWalkLemmas
