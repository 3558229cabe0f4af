-- Lemmas on SLURM files.
pub mod AppliedLemmas
pub mod Common
pub mod EntryLemmas
pub mod EntryOutcomes
pub mod FileLemmas
pub mod FileOutcomes
pub mod ListLemmas
pub mod ObjectLemmas
pub mod OutcomeLemmas
pub mod PartOutcomes
