pub mod CertificatePathLemmas
mod ClaimedLemmas
pub mod HandleWords
pub mod OutcomeLemmas
pub mod RangeLemmas
pub mod RequestLemmas
pub mod TestLemmas
