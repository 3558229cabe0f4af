-- Lemmas on the lines of routes, and on their answers. Also lemmas on runs.
pub mod AnswerLemmas
pub mod CheckLemmas
pub mod Common
pub mod InputLemmas
pub mod LineLemmas
pub mod Members
pub mod OrderLemmas
pub mod StateLemmas
pub mod VrpTextLemmas
pub mod WhyLemmas
