-- Lemmas on where a block may begin.
pub mod BlockStartTest
