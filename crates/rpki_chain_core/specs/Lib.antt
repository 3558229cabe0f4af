-- Definitions: sets and their runs, and the models of chains.
pub mod ChainLaws
pub mod Common
pub mod Equality
pub mod EqualityLaws
pub mod Fit
pub mod Joining
pub mod Overhang
pub mod Owned
pub mod Rest
pub mod Sets
pub mod View
pub mod Walks
