-- Lemmas on runs, claims and paths.
pub mod AscendingDer
pub mod BlocksInModes
pub mod ChoiceFaults
pub mod ChoiceReadings
pub mod ClaimLemmas
pub mod Common
mod CoveredSets
mod IssuedClaims
mod PathLaws
mod PathSteps
pub mod RunLists
mod SetLawLemmas
pub mod SetLemmas
