-- Lemmas on chains, runs and sorted bounds.
mod ChainGathering
mod ChainSearches
pub mod Chains
pub mod Common
mod CountSteps
mod DifferenceWalk
mod IntersectionWalk
pub mod OverhangWalk
mod ReadCounts
mod RunJoining
pub mod ShortestChain
pub mod SortedBlocks
mod UnionWalk
pub mod UniqueChain
mod WalkSides
