pub mod AsBlockDerFaults
pub mod AsBlockDerLemmas
pub mod AsBlockIndexLemmas
pub mod AsBlockListLemmas
pub mod AsBlockTextLemmas
pub mod Common
pub mod IntervalNumberLemmas
