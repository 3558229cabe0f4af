-- Definitions: sets as runs, their operations, resources and claims, and paths of claims.
pub mod BlockSets
pub mod ChoiceDer
pub mod ChoiceEquality
pub mod ChoiceEqualityLaws
pub mod Choices
pub mod Claims
pub mod Operations
pub mod Paths
pub mod Runs
