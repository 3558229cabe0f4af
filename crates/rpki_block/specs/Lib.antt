-- Definitions: the bounds of blocks.
pub mod Beyond
pub mod Bounds
pub mod Equality
pub mod EqualityLaws
pub mod Ranges
