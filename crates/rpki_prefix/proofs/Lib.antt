pub mod Common
pub mod HostBits
pub mod MaxLenLemmas
pub mod PrefixCovering
pub mod PrefixOrderLemmas
pub mod PrefixTextLemmas
