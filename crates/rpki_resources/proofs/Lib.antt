mod ChangeLemmas
pub mod Common
mod KindLemmas
mod ListedClaimLemmas
mod PrintLemmas
mod TripleLemmas
mod TripleTextLemmas
