pub mod CertificateLemmas
pub mod Common
pub mod NumberLemmas
pub mod ReadLemmas
pub mod RunClauses
